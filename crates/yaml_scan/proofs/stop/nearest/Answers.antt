use Rattle.std.proofs.Common.{ap, arith}
use Rattle.yaml_text.specs.Decoding.{refusal_seen}
use Rattle.yaml_text.specs.Fault.{fault_of}
use Rattle.yaml_scan.specs.inside.Scanner.{scanner_of}
use Rattle.yaml_scan.proofs.RunningCalls.NextOfInput.{ends_far, ends_near, ends_unrefused}
use Rattle.yaml_scan.proofs.stop.nearest.Goals as goal

pub returns-then-state-fault : goal.returns-then-state-fault
returns-then-state-fault g c = ends_near g.before (scanner_of c.args._text.now c.args.state.now) (fault_of c.args.fault) c.requires.1 c.requires.0.near (fault_of c.in-Some.refused) (ap refusal_seen c.in-Some.is) (omega (arith, c.if-state-fault.true))

pub returns-else-state-fault : goal.returns-else-state-fault
returns-else-state-fault g c = ends_far g.before (scanner_of c.args._text.now c.args.state.now) (fault_of c.args.fault) c.requires.1 c.requires.0.near (omega (arith, c.if-state-fault.false))

pub returns-in-None : goal.returns-in-None
returns-in-None g c = ends_unrefused g.before (scanner_of c.args._text.now c.args.state.now) (fault_of c.args.fault) c.requires.1 c.requires.0.near (ap refusal_seen c.in-None.is)
