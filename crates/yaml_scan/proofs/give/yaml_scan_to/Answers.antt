use Rattle.yaml_text.specs.Fault.{fault_of}
use Rattle.yaml_scan.proofs.RunningCalls.GivenToEnd.{cut_by_sink, ended_by_fault}
use Rattle.yaml_scan.proofs.give.yaml_scan_to.Goals as goal

pub returns-in-SINK-clause-cut : goal.returns-in-SINK-clause-cut
returns-in-SINK-clause-cut g c =
    let s = c.new_state-state in
    (cut_by_sink (λ tokens. g.S.yaml_token_sink_t.took c.args.sink.now tokens c.give_all.new.sink) g.S.yaml_token_sink_t.may_refuse s.result.limit c.args.limit s.ensures.limit c.args.setting c.args.input.now c.give_all.new.state.fault c.in-Err.stop c.in-SINK.is c.in-Err.ensures).0

pub returns-in-SINK-clause-refused : goal.returns-in-SINK-clause-refused
returns-in-SINK-clause-refused g c =
    let s = c.new_state-state in
    (cut_by_sink (λ tokens. g.S.yaml_token_sink_t.took c.args.sink.now tokens c.give_all.new.sink) g.S.yaml_token_sink_t.may_refuse s.result.limit c.args.limit s.ensures.limit c.args.setting c.args.input.now c.give_all.new.state.fault c.in-Err.stop c.in-SINK.is c.in-Err.ensures).1

pub returns-clause-given : goal.returns-clause-given
returns-clause-given g c =
    let s = c.new_state-state in
    ended_by_fault (λ tokens. g.S.yaml_token_sink_t.took c.args.sink.now tokens c.give_all.new.sink) g.S.yaml_token_sink_t.may_refuse s.result.limit c.args.limit s.ensures.limit c.args.setting c.args.input.now c.give_all.new.state.fault c.in-Err.stop (fault_of c.fault_at.result) c.fault_at.ensures c.in_default.not-SINK c.in-Err.ensures
