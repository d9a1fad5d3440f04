use Rattle.std.proofs.Common.{◌≡◌, ◌∙◌, false, sym, ap, take, arith}
use Rattle.std.proofs.lemmas.List.Sums.{prefix_len-le-length}
use Rattle.std.specs.List.{prefix_len, count_by}
use Rattle.yaml_lexeme.specs.inside.Runs.{is_quiet, begins, is_line}
use Rattle.yaml_lexeme.proofs.ManyBytes.QuietRuns.{quiet_counted}
use Rattle.yaml_lexeme.proofs.runs.quiet_len.Goals as goal

pub returns-clause-chars : goal.returns-clause-chars
returns-clause-chars c =
    let off : is_line c.args.class ≡ false = cc in
    let n : c.narrow_len-n.result ≡ prefix_len (is_quiet c.args.class) c.args.text.now = omega (arith, c.narrow_len-n.ensures) in
    n ∙ sym (quiet_counted c.args.class c.args.text.now off) ∙ ap (λ k. count_by begins (take k c.args.text.now)) (sym n)

pub returns-clause-bound : goal.returns-clause-bound
returns-clause-bound c = omega (arith, c.narrow_len-n.ensures, prefix_len-le-length (is_quiet c.args.class) c.args.text.now)
