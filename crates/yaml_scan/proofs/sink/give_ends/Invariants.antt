use Rattle.yaml_scan.specs.inside.Queue.{ends_at}
use Rattle.yaml_scan.specs.inside.Handed.{told_leads}
use Rattle.yaml_scan.proofs.sink.give_ends.Given as goal

abbrev pub invariant-ends : goal.invariant-ends
invariant-ends g l = g.S.yaml_token_sink_t.took l.fn.sink (told_leads (ends_at l.counter l.fn.mark)) l.sink
