use Rattle.std.proofs.Common.{◌≡◌, ℕ, List, ◌∙◌, refl, true, false, sym, ap, take, length}
use Rattle.yaml_lexeme.specs.declared.problem.yaml_problem_t.TheVariants.{COLON_IN_FLOW}
use Rattle.yaml_lexeme.specs.declared.problem.yaml_refusal_t.TheVariants.{OFFENCE}
use Rattle.yaml_lexeme.specs.Place.{Place, first, peek}
use Rattle.yaml_lexeme.specs.Plain.{is_bad_colon}
use Rattle.yaml_lexeme.specs.Reading.{with_front}
use Rattle.yaml_lexeme.specs.inside.Words.{links, words}
use Rattle.yaml_lexeme.proofs.Readers.PlainLinks.{scalar_ends}
use Rattle.yaml_lexeme.proofs.Readers.PlainLines.{plain_none, plain_words, words_colon, plain_out, links_end}
use Rattle.yaml_lexeme.proofs.Parts.PartByPart.{no_front}
use Rattle.yaml_lexeme.proofs.plain.take_plain.Goals as goal

pub returns-then-is_bad_colon : goal.returns-then-is_bad_colon
returns-then-is_bad_colon c =
    let p = c.args.cursor.now in
    let q = c.line_words-len.new.cursor in
    let bad : is_bad_colon c.args.in_flow (first q) (peek q 1) ≡ true = cc in
    rw c.offence.ensures (plain_none (OFFENCE COLON_IN_FLOW) c.args.in_flow c.args.least p q
    (no_front (words c.args.in_flow c.args.least p) ∙ c.line_words-len.ensures.goes ∙ ap (with_front c.line_words-len.result.now) (words_colon c.args.in_flow c.args.least q c.line_words-len.ensures.over bad)))

pub returns-in-Some : goal.returns-in-Some
returns-in-Some c =
    let flow = c.args.in_flow in
    let least = c.args.least in
    let p = c.args.cursor.now in
    let q = c.line_words-len.new.cursor in
    let piece = c.line_words-len.result.now in
    let out = c.in-Ok.value.items in
    let fine : is_bad_colon flow (first q) (peek q 1) ≡ false = cc in
    let same : out ≡ piece = c.in-Ok.ensures ∙ ap (λ (x : List ℕ). take (length piece) x) c.left-left.ensures ∙ sym c.line_words-len.ensures.front in
    let read = plain_out flow least p q out piece c.line_words-len.ensures.goes c.line_words-len.ensures.over fine same in
    let all = plain_words flow least p q out (read ∙ links_end flow least q out c.in-Some.ensures.over) in
    scalar_ends flow least p q c.ends_at_once.new.cursor out c.mark-end.result c.in-Some.passed_break all c.mark-end.ensures.value c.in-Some.ensures.broken c.in-Some.ensures.end

pub returns-in-None : goal.returns-in-None
returns-in-None c =
    let flow = c.args.in_flow in
    let least = c.args.least in
    let p = c.args.cursor.now in
    let q = c.line_words-len.new.cursor in
    let piece = c.line_words-len.result.now in
    let out = c.in-Ok.value.items in
    let fine : is_bad_colon flow (first q) (peek q 1) ≡ false = cc in
    let same : out ≡ piece = c.in-Ok.ensures ∙ ap (λ (x : List ℕ). take (length piece) x) c.left-left.ensures ∙ sym c.line_words-len.ensures.front in
    let read = plain_out flow least p q out piece c.line_words-len.ensures.goes c.line_words-len.ensures.over fine same in
    let stays : c.ends_at_once.new.cursor ≡ q = c.in-None.ensures.stays refl in
    c.take_lines.ensures p (read ∙ ap (λ (r : Place). with_front out (links flow least r)) (sym stays))
