use Rattle.std.proofs.Common.{◌≡◌, true, false, ◌∙◌, arith}
use Rattle.std.proofs.lemmas.Bool.Decides.{nat_tests}
use Rattle.yaml_lexeme.proofs.Readers.QuotedBody.{at_space, takes_unmarked}
use Rattle.yaml_lexeme.specs.Classes.{is_white}
use Rattle.yaml_lexeme.specs.Fold.{fold}
use Rattle.yaml_lexeme.specs.Place.{first, after_run, run}
use Rattle.yaml_lexeme.specs.Quoted.{body_part}
use Rattle.yaml_text.specs.Classes.{is_z}
use Rattle.yaml_lexeme.proofs.quoted.take_separator.Goals as goal

pub returns : goal.returns
returns c = λ single.
    let p = c.args.cursor.now in
    let space : is_white (first p) ≡ true = c.requires in
    let more : is_z (first p) ≡ false = grind (arith, nat_tests) in
    let end = rw c.again-here.ensures at c.in_ok-push_separator.ensures.end in
    rw end (takes_unmarked (body_part single p) c.unmarked.result (fold (run is_white p)) _ _ p (after_run is_white p) (at_space single p more space) (rw (c.again.ensures ∙ end) at c.unmarked.ensures) (rw c.again-here.ensures at c.in_ok-push_separator.ensures.value))
