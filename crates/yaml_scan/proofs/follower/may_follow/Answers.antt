use Rattle.std.proofs.Common.{rules}
use Rattle.yaml_scan.proofs.follower.may_follow.Goals as goal

pub returns-else-not-waits-clause-far : goal.returns-else-not-waits-clause-far
returns-else-not-waits-clause-far c = search rules

pub returns-then-not-waits-clause-far : goal.returns-then-not-waits-clause-far
returns-then-not-waits-clause-far c = search rules
