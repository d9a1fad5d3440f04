use Rattle.std.proofs.Common.{not, ◌∙◌, ap}
use Rattle.std.specs.Prelude.{nat_eq}
use Rattle.yaml_lexeme.specs.Place.{after_run, skip}
use Rattle.yaml_lexeme.specs.inside.Runs.{class_test}
use Rattle.yaml_lexeme.proofs.Readers.LineFronts.{far_piece}
use Rattle.yaml_lexeme.proofs.quoted.take_far.Goals as goal

pub between-piece-requires : goal.between-piece-requires
between-piece-requires g c =
    let single = not (nat_eq g.row.SINGLE 0) in
    let p = skip 1 c.requires.0 in
    (far_piece single p c.args.cursor.now c.skip_run.new.self c.args.left.now c.requires.1 (c.skip_run.ensures ∙ ap (λ l. after_run (class_test l) c.args.cursor.now) c.line_class.ensures)).0

pub close-requires-clause-piece : goal.close-requires-clause-piece
close-requires-clause-piece g c =
    let single = not (nat_eq g.row.SINGLE 0) in
    let p = skip 1 c.requires.0 in
    let is = (far_piece single p c.args.cursor.now c.skip_run.new.self c.args.left.now c.requires.1 (c.skip_run.ensures ∙ ap (λ l. after_run (class_test l) c.args.cursor.now) c.line_class.ensures)).1 in
    (c.requires.0, (rw c.between-piece.ensures is, c.requires.1.1))

pub take_after-requires : goal.take_after-requires
take_after-requires g c =
    let single = not (nat_eq g.row.SINGLE 0) in
    let p = skip 1 c.requires.0 in
    let is = (far_piece single p c.args.cursor.now c.skip_run.new.self c.args.left.now c.requires.1 (c.skip_run.ensures ∙ ap (λ l. after_run (class_test l) c.args.cursor.now) c.line_class.ensures)).1 in
    (c.requires.0, (rw c.between-piece.ensures is, c.requires.1.1))

pub returns-then-closes : goal.returns-then-closes
returns-then-closes g c = λ p in_line.
    let single = not (nat_eq g.row.SINGLE 0) in
    let is = (far_piece single (skip 1 p) c.args.cursor.now c.skip_run.new.self c.args.left.now in_line (c.skip_run.ensures ∙ ap (λ l. after_run (class_test l) c.args.cursor.now) c.line_class.ensures)).1 in
    c.close.ensures p (rw c.between-piece.ensures is) in_line.1

pub returns-else-closes : goal.returns-else-closes
returns-else-closes g c = λ p in_line.
    let single = not (nat_eq g.row.SINGLE 0) in
    let is = (far_piece single (skip 1 p) c.args.cursor.now c.skip_run.new.self c.args.left.now in_line (c.skip_run.ensures ∙ ap (λ l. after_run (class_test l) c.args.cursor.now) c.line_class.ensures)).1 in
    c.take_after.ensures p (rw c.between-piece.ensures is) in_line.1
