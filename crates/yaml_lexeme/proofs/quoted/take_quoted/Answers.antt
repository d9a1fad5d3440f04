use Rattle.std.proofs.Common.{◌≡◌, false, ◌∙◌, sym, ap}
use Rattle.yaml_text.specs.Chars.{utf8}
use Rattle.yaml_lexeme.specs.Place.{Place, first, skip, after_run, run}
use Rattle.yaml_lexeme.specs.inside.Runs.{class_test, line_of}
use Rattle.yaml_lexeme.specs.inside.Words.{IsPiece}
use Rattle.yaml_lexeme.proofs.Places.PlaceMoves.{after_none}
use Rattle.yaml_lexeme.proofs.Readers.QuotedLines.{quote_ends}
use Rattle.yaml_lexeme.proofs.quoted.take_quoted.Goals as goal
use Rattle.yaml_lexeme.proofs.quoted.take_quoted.Goals.{After-near_run-piece}

-- where the run does not go on, the piece is the whole of it
piece : (c : After-near_run-piece) → class_test (line_of c.args.single) (first c.near_run-piece.new.self) ≡ false → IsPiece c.args.single (skip 1 c.args.cursor.now) c.near_run-piece.new.self c.near_run-piece.result.now
piece c off =
    let p = c.open.new.cursor in
    let q = c.near_run-piece.new.self in
    let test = class_test c.line_class-class.result in
    let ends : test (first q) ≡ false = rw c.line_class-class.ensures off in
    let is : (q ≡ after_run test p) × (c.near_run-piece.result.now ≡ utf8 (run test p)) = (sym (after_none test q ends) ∙ c.near_run-piece.ensures.goes, c.near_run-piece.ensures.value ends) in
    rw (c.line_class-class.ensures, c.open.ensures) at is

-- what is left after the opening quote
left_is : (c : After-near_run-piece) → c.left-left.result.now ≡ utf8 (skip 1 c.args.cursor.now).rest
left_is c = c.left-left.ensures ∙ ap (λ (x : Place). utf8 x.rest) c.open.ensures

pub close-requires-clause-piece : goal.close-requires-clause-piece
close-requires-clause-piece c =
    let at = (goal.at.close-requires-clause-piece c).After-near_run-piece in
    (c.args.cursor.now, (piece at (ap (class_test (line_of c.args.single)) (c.closes.ensures.here c.if-closes.true) ∙ quote_ends c.args.single), left_is at))

pub take_after-requires : goal.take_after-requires
take_after-requires c =
    let at = (goal.at.take_after-requires c).After-near_run-piece in
    let ends : class_test (line_of c.args.single) (first c.near_run-piece.new.self) ≡ false = rw c.line_class-class.ensures at (sym c.goes_on.ensures ∙ c.if-goes_on.false) in
    (c.args.cursor.now, (piece at ends, left_is at))

pub returns-then-closes : goal.returns-then-closes
returns-then-closes c =
    let at = (goal.at.returns-then-closes c).After-near_run-piece in
    c.close.ensures c.args.cursor.now (piece at (ap (class_test (line_of c.args.single)) (c.closes.ensures.here c.if-closes.true) ∙ quote_ends c.args.single)) (left_is at)

pub returns-else-goes_on : goal.returns-else-goes_on
returns-else-goes_on c =
    let at = (goal.at.returns-else-goes_on c).After-near_run-piece in
    let ends : class_test (line_of c.args.single) (first c.near_run-piece.new.self) ≡ false = rw c.line_class-class.ensures at (sym c.goes_on.ensures ∙ c.if-goes_on.false) in
    c.take_after.ensures c.args.cursor.now (piece at ends) (left_is at)
