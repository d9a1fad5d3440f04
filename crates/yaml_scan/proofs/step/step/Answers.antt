use Rattle.yaml_scan.specs.inside.Scanner.{scanner_of}
use Rattle.yaml_scan.proofs.RunningStep.StepMoves.{only_queued}
use Rattle.yaml_scan.proofs.step.step.Goals as goal

pub returns : goal.returns
returns g c = only_queued g.before (scanner_of c.args.text.now c.args.state.now) (scanner_of c.args.text.now c.step_to.new.state) _ _ c.step_to.result c.step_to.ensures.steps
