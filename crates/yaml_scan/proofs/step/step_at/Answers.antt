use Rattle.yaml_scan.specs.inside.Scanner.{scanner_of}
use Rattle.yaml_scan.proofs.RunningStep.StepMoves.{step_to_from}
use Rattle.yaml_scan.proofs.step.step_at.Goals as goal

pub returns-in-Ok-clause-steps : goal.returns-in-Ok-clause-steps
returns-in-Ok-clause-steps g c = step_to_from g.before (scanner_of c.args.text.now c.args.state.now) (scanner_of c.args.text.now c.pass_gap.new.state) (scanner_of c.args.text.now c.step_kind.new.state) _ _ _ c.step_kind.result c.in-Ok.ensures.1 c.step_kind.ensures.steps
