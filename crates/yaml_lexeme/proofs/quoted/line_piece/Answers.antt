use Rattle.std.proofs.Common.{length, ap, ◌∙◌, arith}
use Rattle.yaml_text.specs.Chars.{utf8}
use Rattle.yaml_lexeme.proofs.Places.PlaceMoves.{length_skip}
use Rattle.yaml_lexeme.specs.Place.{Place, after_run, run, run_len}
use Rattle.yaml_lexeme.specs.inside.Runs.{class_test}
use Rattle.yaml_lexeme.specs.inside.Words.{IsPiece}
use Rattle.yaml_lexeme.proofs.quoted.line_piece.Goals as goal
use Rattle.yaml_lexeme.proofs.quoted.line_piece.Goals.{After-quick_run-piece}

piece : (c : After-quick_run-piece) → IsPiece c.args.single c.args.cursor.now c.quick_run-piece.new.self c.quick_run-piece.result.now
piece c =
    let p = c.args.cursor.now in
    let class = c.line_class.ensures in
    (c.quick_run-piece.ensures.end ∙ ap (λ l. after_run (class_test l) p) class, c.quick_run-piece.ensures.value ∙ ap (λ l. utf8 (run (class_test l) p)) class)

pub returns-clause-goes : goal.returns-clause-goes
returns-clause-goes c = λ out. c.unblanked.ensures.goes c.args.cursor.now out (piece (goal.at.returns-clause-goes c).After-quick_run-piece)

pub returns-clause-front : goal.returns-clause-front
returns-clause-front c = c.unblanked.ensures.front c.args.cursor.now (piece (goal.at.returns-clause-front c).After-quick_run-piece)

pub returns-clause-within : goal.returns-clause-within
returns-clause-within c = c.unblanked.ensures.within c.args.cursor.now (piece (goal.at.returns-clause-within c).After-quick_run-piece)

pub returns-clause-shorter : goal.returns-clause-shorter
returns-clause-shorter c =
    let p = c.args.cursor.now in
    omega (arith, ap (λ (x : Place). length x.rest) c.quick_run-piece.ensures.end, length_skip (run_len (class_test c.line_class.result) p) p)
