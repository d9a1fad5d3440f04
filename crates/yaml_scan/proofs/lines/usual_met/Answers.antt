use Rattle.yaml_scan.specs.inside.Scanner.{scanner_of}
use Rattle.yaml_scan.proofs.RunningStep.UsualLaid.{can_read}
use Rattle.yaml_scan.proofs.lines.usual_met.Goals as goal

pub returns-clause-can : goal.returns-clause-can
returns-clause-can g c =
    let q = c.requires.1 in
    can_read g.before (scanner_of c.args._text.now c.args.state.now) _ c.args.kind q.0 q.1.0 q.1.1.0 q.1.1.1.0 q.1.1.1.1.0 c.is_key_allowed.result c.is_key_allowed.ensures c.args.level q.1.1.1.1.1 c.new_candidate.result c.new_candidate.ensures c.depth_at.result c.depth_at.ensures
