use Rattle.yaml_scan.specs.inside.Scanner.{scanner_of}
use Rattle.yaml_scan.proofs.RunningCalls.NextOfInput.{few_made, step_on}
use Rattle.yaml_scan.proofs.settled.advance.Goals as goal

pub step-requires : goal.step-requires
step-requires c = let r = c.requires.runs in record { holds = r.holds; running = c.requires.running; small = r.small; few_steps = few_made (scanner_of c.args.text.now c.args.state.now) r; near = r.near }

pub returns : goal.returns
returns c = step_on (scanner_of c.args.text.now c.args.state.now) (scanner_of c.args.text.now c.step.new.state) c.step.result c.requires.runs c.requires.running c.step.ensures
