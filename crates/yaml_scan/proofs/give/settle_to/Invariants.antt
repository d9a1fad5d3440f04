use Rattle.std.proofs.Common.{◌+◌, ◌-◌, List, length}
use Rattle.yaml_scan.specs.Token.{yaml_token_t}
use Rattle.yaml_scan.specs.inside.Scanner.{scanner_of}
use Rattle.yaml_scan.specs.inside.Given.{HasGiven}
use Rattle.yaml_scan.specs.inside.Scanning.{course_of, history}
use Rattle.yaml_scan.proofs.give.settle_to.Given as goal

abbrev pub ghost-step_to : goal.ghost-step_to
ghost-step_to g a = history (scanner_of a.text.now a.state.now)

abbrev pub invariant-steps : goal.invariant-steps
invariant-steps g l = (tokens : List yaml_token_t) × HasGiven (scanner_of l.fn.text l.fn.state) (scanner_of l.text l.state) tokens × g.S.yaml_token_sink_t.took l.fn.sink tokens l.sink

abbrev pub decreases-steps : goal.decreases-steps
decreases-steps g l = length (course_of (scanner_of l.fn.text l.fn.state)).read + 2 - l.state.made
