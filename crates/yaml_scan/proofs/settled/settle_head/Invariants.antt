use Rattle.std.proofs.Common.{◌+◌, ◌-◌, length}
use Rattle.yaml_scan.specs.inside.Scanner.{scanner_of}
use Rattle.yaml_scan.specs.inside.Scanning.{course_of}
use Rattle.yaml_scan.proofs.RunningCalls.StepsMade.{Goes}
use Rattle.yaml_scan.proofs.settled.settle_head.Given as goal

abbrev pub invariant-steps : goal.invariant-steps
invariant-steps l = Goes (scanner_of l.fn.text l.fn.state) (scanner_of l.text l.state)

abbrev pub decreases-steps : goal.decreases-steps
decreases-steps l = length (course_of (scanner_of l.text l.state)).read + 2 - l.state.made
