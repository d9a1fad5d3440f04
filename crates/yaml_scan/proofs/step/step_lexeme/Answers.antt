use Rattle.std.proofs.Common.{rules, [], inl, Err, ◌∙◌}
use Rattle.yaml_scan.specs.inside.Scanner.{scanner_of}
use Rattle.yaml_scan.proofs.RunningStep.StepMoves.{on_ok_then, read_then, stays_on, stays_read, step_given, step_to_from}
use Rattle.yaml_scan.proofs.step.step_lexeme.Goals as goal

pub lay_read-requires : goal.lay_read-requires
lay_read-requires g c = λ κs w. let b = c.in-Ok.ensures in (search rules, (w, read_then g.before (scanner_of c.args.text.now c.begin_step.new.state) (scanner_of c.args.text.now c.read_lexeme-read.new.state) c.in-Ok.met _ c.read_lexeme-read.result b.0 (b.1 ∙ c.KIND.ensures) c.read_lexeme-read.ensures))

pub end_laid-requires : goal.end_laid-requires
end_laid-requires g c = record { laid = (c.args.text.now, g.before, ((scanner_of c.args.text.now c.read_lexeme-read.new.state), c.in-Ok-lay_read.ensures.laid)); room = c.in-Ok-lay_read.ensures.room }

pub returns-in-Ok-lay_read-clause-steps : goal.returns-in-Ok-lay_read-clause-steps
returns-in-Ok-lay_read-clause-steps g c = let b = c.in-Ok.ensures in
    step_given g.before (scanner_of c.args.text.now c.args.state.now) (scanner_of c.args.text.now c.end_laid.new.state) _ (λ ys. g.S.yaml_token_sink_t.took c.args.sink.now ys c.end_laid.new.sink) (λ ys. g.S.yaml_token_sink_t.took c.room-room.new.self ys c.end_laid.new.sink)
    (λ ys w. g.met.S.yaml_token_sink_t.took_more c.args.sink.now c.room-room.new.self c.end_laid.new.sink [] ys c.room-room.ensures w) _ c.end_laid.result
    (step_to_from g.before (scanner_of c.args.text.now c.args.state.now) (scanner_of c.args.text.now c.read_lexeme-read.new.state) (scanner_of c.args.text.now c.end_laid.new.state) _ _ _ c.end_laid.result
    (stays_on (scanner_of c.args.text.now c.args.state.now) (scanner_of c.args.text.now c.begin_step.new.state) (scanner_of c.args.text.now c.read_lexeme-read.new.state) b.2 (stays_read (scanner_of c.args.text.now c.begin_step.new.state) (scanner_of c.args.text.now c.read_lexeme-read.new.state) _ c.in-Ok.met.context c.read_lexeme-read.result c.read_lexeme-read.ensures)) (c.end_laid.ensures.steps c.args.text.now g.before (scanner_of c.args.text.now c.read_lexeme-read.new.state) c.in-Ok-lay_read.ensures.laid))

pub returns-in-Ok-lay_read-clause-within : goal.returns-in-Ok-lay_read-clause-within
returns-in-Ok-lay_read-clause-within g c = on_ok_then (λ f within. f (g.met.S.yaml_token_sink_t.within_none c.args.sink.now c.room-room.new.self c.room-room.ensures within)) c.end_laid.result c.end_laid.ensures.within

pub returns-in-Err-lay_read-clause-steps : goal.returns-in-Err-lay_read-clause-steps
returns-in-Err-lay_read-clause-steps g c = let b = c.in-Ok.ensures in
    step_to_from g.before (scanner_of c.args.text.now c.args.state.now) (scanner_of c.args.text.now c.read_lexeme-read.new.state) (scanner_of c.args.text.now c.lay_read.new.state) _ (λ ys. g.S.yaml_token_sink_t.took c.args.sink.now ys c.room-room.new.self) g.S.yaml_token_sink_t.may_refuse (Err c.stopped.result)
    (stays_on (scanner_of c.args.text.now c.args.state.now) (scanner_of c.args.text.now c.begin_step.new.state) (scanner_of c.args.text.now c.read_lexeme-read.new.state) b.2 (stays_read (scanner_of c.args.text.now c.begin_step.new.state) (scanner_of c.args.text.now c.read_lexeme-read.new.state) _ c.in-Ok.met.context c.read_lexeme-read.result c.read_lexeme-read.ensures)) (inl (rw c.stopped.ensures c.in-Err-lay_read.ensures.laid, c.room-room.ensures))
