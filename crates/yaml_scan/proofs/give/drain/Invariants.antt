use Rattle.std.proofs.Common.{length}
use Rattle.yaml_scan.specs.inside.Scanner.{scanner_of}
use Rattle.yaml_scan.specs.inside.Sent.{DrainsOrStays}
use Rattle.yaml_scan.specs.inside.Scanning.{groups_in}
use Rattle.yaml_scan.proofs.give.drain.Given as goal

abbrev pub invariant-groups : goal.invariant-groups
invariant-groups g l = DrainsOrStays (scanner_of l.fn.text l.fn.state) (scanner_of l.text l.state) (λ ts. g.S.yaml_token_sink_t.took l.fn.sink ts l.sink) l.any
    × (g.S.yaml_token_sink_t.within l.fn.sink → g.S.yaml_token_sink_t.within l.sink)

abbrev pub decreases-groups : goal.decreases-groups
decreases-groups g l = length (groups_in (scanner_of l.text l.state))
