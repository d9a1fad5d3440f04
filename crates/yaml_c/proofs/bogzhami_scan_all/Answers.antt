use Rattle.std.proofs.Common.{◌≡◌, rules}
use Rattle.yaml_c.proofs.bogzhami_scan_all.Goals as goal

pub returns-clause-scanned : goal.returns-clause-scanned
returns-clause-scanned c e is_e least most =
    let same : c.in-Some.encoding ≡ e = cc (c.in-Some.is, c.encoding_of.ensures.some e is_e) in
    rw (← same) (search (rules, c.scan-status.ensures.scanned))

pub scan-status-requires-clause-least : goal.scan-status-requires-clause-least
scan-status-requires-clause-least c = search rules

pub returns-clause-wrong : goal.returns-clause-wrong
returns-clause-wrong c = search rules
