use Rattle.std.proofs.Common.{◌≡◌, ◌∙◌, true, false, ap}
use Rattle.yaml_lexeme.specs.Place.{first, peek}
use Rattle.yaml_lexeme.specs.Plain.{is_bad_colon}
use Rattle.yaml_lexeme.specs.Reading.{with_front}
use Rattle.yaml_lexeme.specs.inside.Words.{words}
use Rattle.yaml_lexeme.proofs.Readers.PlainLines.{goes_out, words_colon, words_links}
use Rattle.yaml_lexeme.proofs.plain.take_words.Goals as goal

pub returns-then-is_bad_colon-clause-value : goal.returns-then-is_bad_colon-clause-value
returns-then-is_bad_colon-clause-value c =
    let q = c.line_words-piece.new.cursor in
    let bad : is_bad_colon c.args.in_flow (first q) (peek q 1) ≡ true = cc in
    let read : words c.args.in_flow c.args.least c.args.cursor.now ≡ with_front c.line_words-piece.result.now (words c.args.in_flow c.args.least q) = c.line_words-piece.ensures.goes in
    rw c.offence.ensures (ap (with_front c.args.out.now.items) (read ∙ ap (with_front c.line_words-piece.result.now) (words_colon c.args.in_flow c.args.least q c.line_words-piece.ensures.over bad)))

pub returns-clause-value : goal.returns-clause-value
returns-clause-value c =
    let q = c.line_words-piece.new.cursor in
    let fine : is_bad_colon c.args.in_flow (first q) (peek q 1) ≡ false = cc in
    goes_out c.args.in_flow c.args.least c.args.cursor.now q c.args.out.now.items c.line_words-piece.result.now c.extend_from_slice.new.self.items c.line_words-piece.ensures.goes c.in_ok-extend_from_slice.ensures.items
    ∙ ap (with_front c.extend_from_slice.new.self.items) (words_links c.args.in_flow c.args.least q c.line_words-piece.ensures.over fine)
