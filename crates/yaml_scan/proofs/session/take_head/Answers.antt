use Rattle.std.proofs.Common.{arith}
use Rattle.yaml_text.specs.Token.{token_of}
use Rattle.yaml_scan.specs.inside.Scanner.{scanner_of}
use Rattle.yaml_scan.proofs.RunningCalls.NextOfInput.{few_taken}
use Rattle.yaml_scan.proofs.RunningCalls.TakingHead.{groups_some, few_done, next_popped}
use Rattle.yaml_scan.proofs.session.take_head.Goals as goal

pub overflow_add-state : goal.overflow_add-state
overflow_add-state c = let r = c.requires in let f = few_taken (scanner_of r.0 c.args.state.now) r.1 in omega arith

pub take_next-requires-clause-some : goal.take_next-requires-clause-some
take_next-requires-clause-some c = let r = c.requires in groups_some (scanner_of r.0 c.args.state.now) r.1 r.2

pub take_next-requires-clause-few : goal.take_next-requires-clause-few
take_next-requires-clause-few c = let r = c.requires in few_done (scanner_of r.0 c.args.state.now) r.1 r.2

pub returns : goal.returns
returns c = λ text runs settled. next_popped (scanner_of text c.args.state.now) runs settled _ (token_of c.take_next.result) c.take_next.ensures
