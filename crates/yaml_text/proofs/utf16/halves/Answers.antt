use Rattle.std.proofs.Common.{refl}
use Rattle.yaml_text.proofs.ManyBytes.UnitRuns.{even_at, odd_at}
use Rattle.yaml_text.proofs.utf16.halves.Goals as goal

pub returns-then-big-clause-units : goal.returns-then-big-clause-units
returns-then-big-clause-units c = λ k lt.
    let low = odd_at c.args.bytes.now k c.requires lt in
    let high = even_at c.args.bytes.now k c.requires lt in
    rw (c.if-big.true, low, high) refl

pub returns-else-big-clause-units : goal.returns-else-big-clause-units
returns-else-big-clause-units c = λ k lt.
    let low = even_at c.args.bytes.now k c.requires lt in
    let high = odd_at c.args.bytes.now k c.requires lt in
    rw (c.if-big.false, low, high) refl
