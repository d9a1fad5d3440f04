use Rattle.std.proofs.Common.{arith}
use Rattle.yaml_scan.specs.inside.Handed.{group_with}
use Rattle.yaml_scan.proofs.RunningQueue.GroupTokens.{count_is}
use Rattle.yaml_scan.proofs.sink.count_with.Goals as goal

pub returns : goal.returns
returns c = λ t. let n = count_is (group_with c.args.ends c.args.opens c.args.key t) in let a = c.starts_of.ensures in let b = c.keys_of.ensures in omega arith
