use Rattle.yaml_scan.specs.inside.Scanner.{scanner_of}
use Rattle.yaml_scan.proofs.RunningStep.StepMoves.{only_queued}
use Rattle.yaml_scan.proofs.step.step_queued.Goals as goal

pub returns : goal.returns
returns g c = only_queued g.before (scanner_of c.args.text.now c.args.state.now) (scanner_of c.args.text.now c.step_lexeme.new.state) _ _ c.step_lexeme.result c.step_lexeme.ensures.steps
