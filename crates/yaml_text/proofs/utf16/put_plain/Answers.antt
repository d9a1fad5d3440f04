use Rattle.std.proofs.Common.{◌∙◌, ◌++◌, ap, sym, arith, take, List, ℕ}
use Rattle.yaml_text.proofs.Characters.Utf8Spelling.{two, three}
use Rattle.yaml_text.proofs.ManyBytes.UnitRuns.{written_two, written_three}
use Rattle.yaml_text.proofs.utf16.put_plain.Goals as goal

pub returns-then-u-lt2048-clause-bytes : goal.returns-then-u-lt2048-clause-bytes
returns-then-u-lt2048-clause-bytes c =
    written_two c.args.buffer.now c.args.n _ _ (omega arith) ∙ ap (λ (x : List ℕ). take c.args.n c.args.buffer.now ++ x) (sym (two c.args.u (omega arith) (omega arith)))

pub returns-clause-bytes : goal.returns-clause-bytes
returns-clause-bytes c =
    written_three c.args.buffer.now c.args.n _ _ _ (omega arith) ∙ ap (λ (x : List ℕ). take c.args.n c.args.buffer.now ++ x) (sym (three c.args.u (omega arith) (omega arith)))
