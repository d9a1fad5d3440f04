use Rattle.std.proofs.Common.{◌≡◌, ◌∙◌, ap, arith}
use Rattle.yaml_lexeme.specs.Place.{first, peek}
use Rattle.yaml_lexeme.proofs.Places.PlaceMoves.{first_on, feed_and_spaces, return_and_spaces}
use Rattle.yaml_lexeme.proofs.place.cursor_t.take_feed_and_spaces.Goals as goal
use Rattle.yaml_lexeme.proofs.place.cursor_t.take_feed_and_spaces.Goals.{then-c-eq13+then-peek-eq10, else-c-eq13+else-c-ne10}

pub pass_feed-requires : goal.pass_feed-requires
pass_feed-requires c =
    let p = c.args.self.now in
    elim c.if-c-eq13.branch [
      | then-c-eq13+then-peek-eq10 w ↦
          let n : peek p 1 ≡ 10 = omega (arith, w.peek.ensures) in
          ap first (w.self-is ∙ w.pass_return.ensures) ∙ first_on 1 p ∙ n
      | else-c-eq13+else-c-ne10 w ↦
          let e : first p ≡ 10 = omega (arith, c.peek-c.ensures) in
          ap first w.self-is ∙ e
    ]

pub returns-clause-taken : goal.returns-clause-taken
returns-clause-taken c = λ yes.
    let p = c.args.self.now in
    let q = c.if-c-eq13.self in
    let r = c.pass_feed.new.self in
    let s = c.skip_all_spaces.new.self in
    elim c.if-c-eq13.branch [
      | then-c-eq13+then-peek-eq10 w ↦
          let e : first p ≡ 13 = omega (arith, c.peek-c.ensures) in
          let n : peek p 1 ≡ 10 = omega (arith, w.peek.ensures) in
          return_and_spaces p q r s e n (w.self-is ∙ w.pass_return.ensures) c.pass_feed.ensures c.skip_all_spaces.ensures
      | else-c-eq13+else-c-ne10 w ↦
          let e : first p ≡ 10 = omega (arith, c.peek-c.ensures) in
          feed_and_spaces p q r s e w.self-is c.pass_feed.ensures c.skip_all_spaces.ensures
    ]
