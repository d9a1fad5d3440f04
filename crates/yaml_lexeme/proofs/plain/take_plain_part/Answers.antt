use Rattle.std.proofs.Common.{◌≡◌, ◌∙◌, false, refl}
use Rattle.yaml_lexeme.specs.Place.{first, peek}
use Rattle.yaml_lexeme.specs.Plain.{is_bad_colon}
use Rattle.yaml_lexeme.proofs.Readers.PlainLinks.{scalar_ends}
use Rattle.yaml_lexeme.proofs.Readers.PlainLines.{plain_words, plain_out, links_end}
use Rattle.yaml_lexeme.proofs.plain.take_plain_part.Goals as goal

pub returns-clause-value : goal.returns-clause-value
returns-clause-value c =
    let flow = c.args.in_flow in
    let least = c.args.least in
    let p = c.args.cursor.now in
    let q = c.line_words-value.new.cursor in
    let piece = c.line_words-value.result.now in
    let fine : is_bad_colon flow (first q) (peek q 1) ≡ false = cc in
    let read = plain_out flow least p q piece piece c.line_words-value.ensures.goes c.line_words-value.ensures.over fine refl in
    let all = plain_words flow least p q piece (read ∙ links_end flow least q piece c.in_ok-passed_break.ensures.over) in
    scalar_ends flow least p q c.ends_here.new.cursor piece c.mark-end.result c.in_ok-passed_break.passed_break all c.mark-end.ensures.value c.in_ok-passed_break.ensures.broken c.in_ok-passed_break.ensures.end
