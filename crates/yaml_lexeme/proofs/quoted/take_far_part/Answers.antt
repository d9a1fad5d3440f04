use Rattle.std.proofs.Common.{◌-◌, ◌∙◌, ap, length, arith}
use Rattle.std.proofs.lemmas.List.{length-take}
use Rattle.yaml_text.specs.Chars.{utf8}
use Rattle.yaml_lexeme.specs.Place.{after_run, skip}
use Rattle.yaml_lexeme.specs.inside.Runs.{class_test}
use Rattle.yaml_lexeme.proofs.Readers.LineFronts.{far_piece}
use Rattle.yaml_lexeme.proofs.quoted.take_far_part.Goals as goal

pub between-piece-requires : goal.between-piece-requires
between-piece-requires c =
    (far_piece c.args.single (skip 1 c.requires.0) c.args.cursor.now c.skip_run.new.self c.args.left.now c.requires.1 (c.skip_run.ensures ∙ ap (λ l. after_run (class_test l) c.args.cursor.now) c.line_class.ensures)).0

pub returns-then-take_close : goal.returns-then-take_close
returns-then-take_close c = record {
  value = λ p in_line.
      let is = (far_piece c.args.single (skip 1 p) c.args.cursor.now c.skip_run.new.self c.args.left.now in_line (c.skip_run.ensures ∙ ap (λ l. after_run (class_test l) c.args.cursor.now) c.line_class.ensures)).1 in
      c.take_close.ensures.value p c.if-take_close.true (rw c.between-piece.ensures is);
  within = omega (arith, ap length c.between-piece.ensures, length-take (length c.args.left.now - length (utf8 c.skip_run.new.self.rest)) c.args.left.now);
}
