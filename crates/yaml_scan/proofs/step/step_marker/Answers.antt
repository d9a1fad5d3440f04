use Rattle.std.proofs.Common.{◌∙◌}
use Rattle.yaml_lexeme.specs.LexemeOf.{lexeme_of}
use Rattle.yaml_scan.specs.inside.Scanner.{scanner_of}
use Rattle.yaml_scan.proofs.RunningStep.StepMoves.{read_as_met, step_from}
use Rattle.yaml_scan.proofs.step.step_marker.Goals as goal

pub end_queued-requires : goal.end_queued-requires
end_queued-requires g c = let b = c.in-Ok.ensures in
    (b.0, read_as_met (scanner_of c.args.text.now c.begin_step.new.state) _ c.in-Ok.met.kind c.in-Ok.met.context (lexeme_of c.read_marker-lexeme.result) (b.1 ∙ c.yaml_marker_kind.ensures) c.read_marker-lexeme.ensures)

pub returns-in-Ok : goal.returns-in-Ok
returns-in-Ok g c = let b = c.in-Ok.ensures in step_from g.before (scanner_of c.args.text.now c.args.state.now) (scanner_of c.args.text.now c.begin_step.new.state) (scanner_of c.args.text.now c.end_queued.new.state) c.end_queued.result b.2 c.end_queued.ensures
