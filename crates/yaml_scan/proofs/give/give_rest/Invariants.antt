use Rattle.std.proofs.Common.{◌≡◌, ◌-◌, true, false, List, length}
use Rattle.yaml_scan.specs.Token.{yaml_token_t}
use Rattle.yaml_scan.specs.inside.Scanner.{scanner_of}
use Rattle.yaml_scan.specs.inside.Given.{GaveRest, HasGiven, all_in}
use Rattle.yaml_scan.proofs.give.give_rest.Given as goal

abbrev pub invariant-tokens : goal.invariant-tokens
invariant-tokens g l = (l.last ≡ false → (tokens : List yaml_token_t) × HasGiven (scanner_of l.fn.text l.fn.state) (scanner_of l.text l.state) tokens × g.S.yaml_token_sink_t.took l.fn.sink tokens l.sink)
    × (l.last ≡ true → GaveRest (scanner_of l.fn.text l.fn.state) (λ tokens. g.S.yaml_token_sink_t.took l.fn.sink tokens l.sink))

abbrev pub decreases-tokens : goal.decreases-tokens
decreases-tokens g l = length (all_in (scanner_of l.fn.text l.fn.state)) - l.state.taken
