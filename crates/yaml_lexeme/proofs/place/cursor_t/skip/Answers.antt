use Rattle.std.proofs.Common.{◌≡◌, ◌-◌, sym, ◌∙◌, arith}
use Rattle.yaml_lexeme.proofs.Places.PlaceMoves.{skip_step, skip_none}
use Rattle.yaml_lexeme.proofs.place.cursor_t.skip.Goals as goal

pub count-preserved : goal.count-preserved
count-preserved c = rw c.advance.ensures (skip_step c.args.n c.count.counter c.count.self _ c.count-test.true c.count.invariant)

pub returns : goal.returns
returns c = let k : c.args.n - c.count.counter ≡ 0 = omega arith in sym (skip_none c.count.self) ∙ rw (← k) c.count.invariant
