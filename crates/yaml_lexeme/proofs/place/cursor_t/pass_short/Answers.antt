use Rattle.std.proofs.Common.{subst, drop, arith}
use Rattle.std.specs.Str.{chars}
use Rattle.std.proofs.lemmas.List.{length-drop}
use Rattle.yaml_lexeme.specs.Place.{Place}
use Rattle.yaml_lexeme.specs.inside.ShortRuns.{ShortRun}
use Rattle.yaml_lexeme.proofs.ManyBytes.QuietRuns.{along}
use Rattle.yaml_lexeme.proofs.Places.ShortMoves.{short_moves_at}
use Rattle.yaml_lexeme.proofs.place.cursor_t.pass_short.Goals as goal

pub rest-self-inside-requires : goal.rest-self-inside-requires
rest-self-inside-requires c = (short_moves_at c.self.inside.mark c.self.inside.bytes.now c.args.n c.args.self.now c.self.invariant.0 c.self.view_is c.requires).within

pub invariant_of-self : goal.invariant_of-self
invariant_of-self c =
    let n = c.args.n in
    let s = c.self.inside.bytes.now in
    let move = short_moves_at c.self.inside.mark c.self.inside.bytes.now c.args.n c.args.self.now c.self.invariant.0 c.self.view_is c.requires in
    rw c.rest-self-inside.ensures
    (move.text, omega (arith, move.within, length-drop n s, c.self.invariant.1), omega (arith, c.self.invariant.2))

pub returns : goal.returns
returns c =
    let n = c.args.n in
    let m = c.self.inside.mark in
    let move = short_moves_at c.self.inside.mark c.self.inside.bytes.now c.args.n c.args.self.now c.self.invariant.0 c.self.view_is c.requires in
    rw c.rest-self-inside.ensures (subst (λ (p : Place). ShortRun p (record { mark = along m n n; rest = chars (drop n c.self.inside.bytes.now) }) n) c.self.view_is move.run)
