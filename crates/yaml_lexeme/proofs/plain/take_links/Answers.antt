use Rattle.std.proofs.Common.{◌≡◌, ◌∙◌}
use Rattle.std.proofs.lemmas.Result.{err_from_is_err_and}
use Rattle.yaml_text.specs.Classes.{is_blank, is_break}
use Rattle.yaml_lexeme.specs.Classes.{is_white}
use Rattle.yaml_lexeme.specs.Place.{first, after_run}
use Rattle.yaml_lexeme.specs.Reading.{with_front}
use Rattle.yaml_lexeme.specs.inside.Words.{links}
use Rattle.yaml_lexeme.proofs.Readers.PlainLinks.{scalar_made, scalar_ends}
use Rattle.yaml_lexeme.proofs.Readers.PlainLines.{plain_words, plain_none, links_end, links_go_wrong}
use Rattle.yaml_lexeme.proofs.plain.take_links.Goals as goal

pub returns-in-Some : goal.returns-in-Some
returns-in-Some c = λ p whole.
    let flow = c.args.in_flow in
    let least = c.args.least in
    let q = c.args.cursor.now in
    let out = c.args.scalar.now.value.items in
    let all = plain_words flow least p q out (whole ∙ links_end flow least q out c.in-Some.ensures.over) in
    scalar_ends flow least p q c.ends_soon.new.cursor out c.mark-scalar.result c.in-Some.passed_break all c.mark-scalar.ensures.value c.in-Some.ensures.broken c.in-Some.ensures.end

pub returns-in_err-take_link : goal.returns-in_err-take_link
returns-in_err-take_link c = λ p whole.
    let flow = c.args.in_flow in
    let least = c.args.least in
    let error = c.in_err-take_link.field-0.0 in
    let e = err_from_is_err_and c.from_residual.result c.from_residual.ensures.1 in
    let none = links_go_wrong error _ (with_front c.links.scalar.value.items (links flow least c.links.cursor)) c.take_link.new.cursor (whole ∙ c.links.invariant) c.in_err-take_link.ensures.value in
    rw (e.1, e.2) (plain_none error flow least p c.take_link.new.cursor none)

pub returns : goal.returns
returns c = λ p whole.
    let flow = c.args.in_flow in
    let least = c.args.least in
    let q = c.take_link.new.cursor in
    let out = c.take_link.new.out.items in
    let took = rw c.if-branch.false at c.in_ok-take_link.ensures.value in
    let all = plain_words flow least p q out (whole ∙ c.links.invariant ∙ took) in
    let b : c.is_break-scalar.result ≡ is_break (first (after_run is_blank q)) = cc in
    let r : c.skip_run-2.new.self ≡ after_run is_white (after_run is_blank q) = cc in
    scalar_made flow least p q c.skip_run-2.new.self out c.mark-scalar-2.result c.is_break-scalar.result all c.mark-scalar-2.ensures.value b r
