use Rattle.yaml_scan.specs.inside.Scanner.{scanner_of}
use Rattle.yaml_scan.proofs.RunningStep.StepMoves.{on_ok_same, queued_step}
use Rattle.yaml_scan.proofs.step.step_kind.Goals as goal

pub returns-in-DIRECTIVE-clause-steps : goal.returns-in-DIRECTIVE-clause-steps
returns-in-DIRECTIVE-clause-steps g c = queued_step g.before (scanner_of c.args.text.now c.args.state.now) (scanner_of c.args.text.now c.step_queued-in-DIRECTIVE.new.state) _ _ _ c.step_queued-in-DIRECTIVE.result (g.met.S.yaml_token_sink_t.took_none c.args.sink.now) c.step_queued-in-DIRECTIVE.ensures

pub returns-in-ALIAS-clause-steps : goal.returns-in-ALIAS-clause-steps
returns-in-ALIAS-clause-steps g c = queued_step g.before (scanner_of c.args.text.now c.args.state.now) (scanner_of c.args.text.now c.step_queued.new.state) _ _ _ c.step_queued.result (g.met.S.yaml_token_sink_t.took_none c.args.sink.now) c.step_queued.ensures

pub returns-in-ANCHOR-clause-steps : goal.returns-in-ANCHOR-clause-steps
returns-in-ANCHOR-clause-steps g c = queued_step g.before (scanner_of c.args.text.now c.args.state.now) (scanner_of c.args.text.now c.step_queued-in-ANCHOR.new.state) _ _ _ c.step_queued-in-ANCHOR.result (g.met.S.yaml_token_sink_t.took_none c.args.sink.now) c.step_queued-in-ANCHOR.ensures

pub returns-in-TAG-clause-steps : goal.returns-in-TAG-clause-steps
returns-in-TAG-clause-steps g c = queued_step g.before (scanner_of c.args.text.now c.args.state.now) (scanner_of c.args.text.now c.step_queued-in-TAG.new.state) _ _ _ c.step_queued-in-TAG.result (g.met.S.yaml_token_sink_t.took_none c.args.sink.now) c.step_queued-in-TAG.ensures

pub returns-in-STREAM_END-clause-steps : goal.returns-in-STREAM_END-clause-steps
returns-in-STREAM_END-clause-steps g c = queued_step g.before (scanner_of c.args.text.now c.args.state.now) (scanner_of c.args.text.now c.step_stream_end.new.state) _ _ _ c.step_stream_end.result (g.met.S.yaml_token_sink_t.took_none c.args.sink.now) c.step_stream_end.ensures

pub returns-in-DIRECTIVE-clause-within : goal.returns-in-DIRECTIVE-clause-within
returns-in-DIRECTIVE-clause-within g c = on_ok_same (g.S.yaml_token_sink_t.within c.args.sink.now) c.step_queued-in-DIRECTIVE.result

pub returns-in-ALIAS-clause-within : goal.returns-in-ALIAS-clause-within
returns-in-ALIAS-clause-within g c = on_ok_same (g.S.yaml_token_sink_t.within c.args.sink.now) c.step_queued.result

pub returns-in-ANCHOR-clause-within : goal.returns-in-ANCHOR-clause-within
returns-in-ANCHOR-clause-within g c = on_ok_same (g.S.yaml_token_sink_t.within c.args.sink.now) c.step_queued-in-ANCHOR.result

pub returns-in-TAG-clause-within : goal.returns-in-TAG-clause-within
returns-in-TAG-clause-within g c = on_ok_same (g.S.yaml_token_sink_t.within c.args.sink.now) c.step_queued-in-TAG.result

pub returns-in-STREAM_END-clause-within : goal.returns-in-STREAM_END-clause-within
returns-in-STREAM_END-clause-within g c = on_ok_same (g.S.yaml_token_sink_t.within c.args.sink.now) c.step_stream_end.result

pub returns-in-DOCUMENT_START-clause-steps : goal.returns-in-DOCUMENT_START-clause-steps
returns-in-DOCUMENT_START-clause-steps g c = queued_step g.before (scanner_of c.args.text.now c.args.state.now) (scanner_of c.args.text.now c.step_marker.new.state) _ _ _ c.step_marker.result (g.met.S.yaml_token_sink_t.took_none c.args.sink.now) c.step_marker.ensures

pub returns-in-DOCUMENT_START-clause-within : goal.returns-in-DOCUMENT_START-clause-within
returns-in-DOCUMENT_START-clause-within g c = on_ok_same (g.S.yaml_token_sink_t.within c.args.sink.now) c.step_marker.result

pub returns-in-DOCUMENT_END-clause-steps : goal.returns-in-DOCUMENT_END-clause-steps
returns-in-DOCUMENT_END-clause-steps g c = queued_step g.before (scanner_of c.args.text.now c.args.state.now) (scanner_of c.args.text.now c.step_marker-in-DOCUMENT_END.new.state) _ _ _ c.step_marker-in-DOCUMENT_END.result (g.met.S.yaml_token_sink_t.took_none c.args.sink.now) c.step_marker-in-DOCUMENT_END.ensures

pub returns-in-DOCUMENT_END-clause-within : goal.returns-in-DOCUMENT_END-clause-within
returns-in-DOCUMENT_END-clause-within g c = on_ok_same (g.S.yaml_token_sink_t.within c.args.sink.now) c.step_marker-in-DOCUMENT_END.result
