use Rattle.yaml_scan.specs.inside.Scanner.{scanner_of}
use Rattle.yaml_scan.proofs.RunningStep.StepMoves.{only_queued}
use Rattle.yaml_scan.proofs.laid.end_in_queue.Goals as goal

pub returns : goal.returns
returns g c = λ X can. only_queued g.before (scanner_of X c.args.state.now) (scanner_of X c.end_character.new.state) _ _ c.end_character.result (c.end_character.ensures.steps X can)
