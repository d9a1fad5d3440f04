use Rattle.yaml_scan.specs.inside.Handed.{read_to}
use Rattle.yaml_scan.specs.inside.Scanner.{scanner_of}
use Rattle.yaml_scan.proofs.RunningStep.UsualLaid.{value_laid}
use Rattle.yaml_scan.proofs.lines.lay_value.Goals as goal

pub returns-clause-laid : goal.returns-clause-laid
returns-clause-laid g c = λ X d b e t p T.
    let q = c.requires in
    (c.args.read.met.kind, value_laid g.before (scanner_of X c.args.state.now) c.args.read.met (read_to d b e c.args.read.reach c.args.read.passed_break) p q.1.1.1.1.0 q.1.0 q.1.1.1.0 q.1.1.1.1.1.1 t T q.1.1.0 q.1.1.1.1.1.0 c.is_allowed_after-state.result c.is_allowed_after-state.ensures)
