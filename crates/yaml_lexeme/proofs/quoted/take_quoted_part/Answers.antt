use Rattle.std.proofs.Common.{◌≡◌, ℕ, List, false, ◌∙◌, sym, ap, subst, length, arith}
use Rattle.yaml_text.specs.Chars.{utf8}
use Rattle.yaml_lexeme.specs.Place.{Place, first, skip, after_run, run}
use Rattle.yaml_lexeme.specs.Quoted.{quote}
use Rattle.yaml_lexeme.specs.inside.Runs.{class_test, line_of}
use Rattle.yaml_lexeme.specs.inside.Words.{IsInLine, IsPiece}
use Rattle.yaml_lexeme.proofs.Places.PlaceMoves.{after_none}
use Rattle.yaml_lexeme.proofs.Readers.QuotedLines.{quote_ends}
use Rattle.yaml_lexeme.proofs.Readers.LineFronts.{piece_front, left_within}
use Rattle.yaml_lexeme.proofs.quoted.take_quoted_part.Goals as goal
use Rattle.yaml_lexeme.proofs.quoted.take_quoted_part.Goals.{After-near_run-piece}

-- where the run does not go on, the piece is the whole of it
piece : (c : After-near_run-piece) → class_test (line_of c.args.single) (first c.near_run-piece.new.self) ≡ false → IsPiece c.args.single (skip 1 c.args.cursor.now) c.near_run-piece.new.self c.near_run-piece.result.now
piece c off =
    let p = c.open.new.cursor in
    let q = c.near_run-piece.new.self in
    let test = class_test c.line_class-class.result in
    let ends : test (first q) ≡ false = rw c.line_class-class.ensures off in
    let is : (q ≡ after_run test p) × (c.near_run-piece.result.now ≡ utf8 (run test p)) = (sym (after_none test q ends) ∙ c.near_run-piece.ensures.goes, c.near_run-piece.ensures.value ends) in
    rw (c.line_class-class.ensures, c.open.ensures) at is

-- so it is at the closing quote
piece_is : (c : After-near_run-piece) → first c.near_run-piece.new.self ≡ quote c.args.single → IsPiece c.args.single (skip 1 c.args.cursor.now) c.near_run-piece.new.self c.near_run-piece.result.now
piece_is c here = piece c (ap (class_test (line_of c.args.single)) here ∙ quote_ends c.args.single)

-- what is left after the opening quote
left_is : (c : After-near_run-piece) → c.left-left.result.now ≡ utf8 (skip 1 c.args.cursor.now).rest
left_is c = c.left-left.ensures ∙ ap (λ (x : Place). utf8 x.rest) c.open.ensures

-- the piece goes on after the run
in_line : (c : After-near_run-piece) → IsInLine c.args.single (skip 1 c.args.cursor.now) c.near_run-piece.new.self c.left-left.result.now
in_line c =
    let p = c.open.new.cursor in
    let q = c.near_run-piece.new.self in
    let test = class_test c.line_class-class.result in
    let goes : after_run test q ≡ after_run test p = c.near_run-piece.ensures.goes in
    (rw (c.line_class-class.ensures, c.open.ensures) at goes, left_is c)

-- so it does for the copy of the cursor
far_line : (c : After-near_run-piece) (here : Place) → here ≡ c.near_run-piece.new.self → IsInLine c.args.single (skip 1 c.args.cursor.now) here c.left-left.result.now
far_line c here e = subst (λ (q : Place). IsInLine c.args.single (skip 1 c.args.cursor.now) q c.left-left.result.now) (sym e) (in_line c)

pub take_far_part-requires : goal.take_far_part-requires
take_far_part-requires c = (c.args.cursor.now, far_line (goal.at.take_far_part-requires c).After-near_run-piece c.again-here.result (c.again-here.ensures ∙ c.take_close.ensures.stays c.if-take_close.false))

pub returns-then-take_close-clause-value : goal.returns-then-take_close-clause-value
returns-then-take_close-clause-value c =
    let is = piece_is (goal.at.returns-then-take_close-clause-value c).After-near_run-piece (c.take_close.ensures.here c.if-take_close.true) in
    c.take_close.ensures.value c.args.cursor.now c.if-take_close.true is

pub returns-then-take_close-clause-within : goal.returns-then-take_close-clause-within
returns-then-take_close-clause-within c =
    let is = piece_is (goal.at.returns-then-take_close-clause-within c).After-near_run-piece (c.take_close.ensures.here c.if-take_close.true) in
    let p = c.args.cursor.now in
    omega (arith, (piece_front c.args.single (skip 1 p) c.near_run-piece.new.self c.near_run-piece.result.now is).within, left_within 1 p)

pub returns-clause-value : goal.returns-clause-value
returns-clause-value c = c.in_ok-piece.ensures.value c.args.cursor.now (far_line (goal.at.returns-clause-value c).After-near_run-piece c.again-here.result (c.again-here.ensures ∙ c.take_close.ensures.stays c.if-take_close.false))

pub returns-clause-within : goal.returns-clause-within
returns-clause-within c =
    let left = left_is (goal.at.returns-clause-within c).After-near_run-piece in
    omega (arith, c.in_ok-piece.ensures.within, ap (λ (x : List ℕ). length x) left, left_within 1 c.args.cursor.now)
