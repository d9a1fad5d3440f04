use Rattle.std.proofs.Common.{◌∙◌, sym, ap, refl, arith}
use lib.Count.{count_trailing_zeros}
use Rattle.yaml_lexeme.specs.inside.Runs.{is_stop, is_quiet}
use Rattle.yaml_lexeme.specs.declared.runs.class_t.TheVariants.{SPACE}
use Rattle.yaml_text.proofs.ManyBytes.VectorRuns.{run_stops}
use Rattle.yaml_lexeme.proofs.runs.spaces_len.Goals as goal

pub returns-then-found-ne0 : goal.returns-then-found-ne0
returns-then-found-ne0 c =
    let text = c.args.text.now in
    let found = c.no_spaces-found.ensures in
    let run = run_stops (is_stop SPACE) (is_quiet SPACE) (λ x. refl) text 0 16 (omega arith) (omega arith) in
    ap (count_trailing_zeros 64) found ∙ sym (run (omega (arith, found, c.if-found-ne0)))
