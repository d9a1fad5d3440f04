use Rattle.std.proofs.Common.{◌+◌, ◌-◌, [], length}
use Rattle.yaml_scan.specs.inside.Scanner.{scanner_of}
use Rattle.yaml_scan.specs.inside.Scanning.{course_of, history}
use Rattle.yaml_scan.proofs.RunningCalls.StepsMade.{Goes}
use Rattle.yaml_scan.proofs.give.send_or_settle.Given as goal

abbrev pub ghost-step_apart : goal.ghost-step_apart
ghost-step_apart g a = history (scanner_of a.text.now a.state.now)

abbrev pub invariant-steps : goal.invariant-steps
invariant-steps g l = Goes (scanner_of l.fn.text l.fn.state) (scanner_of l.text l.state) × g.S.yaml_token_sink_t.took l.fn.sink [] l.sink
    × (g.S.yaml_token_sink_t.within l.fn.sink → g.S.yaml_token_sink_t.within l.sink)

abbrev pub decreases-steps : goal.decreases-steps
decreases-steps g l = length (course_of (scanner_of l.fn.text l.fn.state)).read + 2 - l.state.made
