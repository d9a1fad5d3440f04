use Rattle.std.proofs.Common.{rules}
use Rattle.yaml_c.proofs.pieces.scan_to.Goals as goal

pub returns-clause-gives : goal.returns-clause-gives
returns-clause-gives g c p same last at =
    let w = c.yaml_fed_scan_to.ensures.gives p same last at in
    let e = w.given.0 in
    let n : Rattle.yaml_scan.specs.FedCalls.GivesFed p c.yaml_fed_scan_to.new.fed c.yaml_fed_scan_to.result
    (λ tokens. g.S.yaml_token_sink_t.took c.args.sink.now tokens c.yaml_fed_scan_to.new.sink.sink.now)
    (g.S.yaml_token_sink_t.lacks c.yaml_fed_scan_to.new.sink.sink.now) = record {
      left = w.left;
      is = w.is;
      tokens = w.tokens;
      given = w.given.1;
      why = w.why;
      is_why = w.is_why;
      gives = w.gives;
      room = w.room;
    } in
    search (rules, e, n)

pub returns-clause-within : goal.returns-clause-within
returns-clause-within g c v =
    let a = c.requires.at in
    let w = c.yaml_fed_scan_to.ensures.gives a.0 a.1 a.2 a.3 in
    let e = w.given.0 in
    let n = c.yaml_fed_scan_to.ensures.within v in
    search (rules, e, n)
