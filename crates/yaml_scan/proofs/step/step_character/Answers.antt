use Rattle.std.proofs.Common.{rules, inl}
use Rattle.yaml_lexeme.specs.LexemeOf.{lexeme_of}
use Rattle.yaml_scan.specs.inside.Scanner.{scanner_of}
use Rattle.yaml_scan.proofs.RunningStep.StepMoves.{read_as_met, step_to_from, stop_from}
use Rattle.yaml_scan.proofs.step.step_character.Goals as goal

pub check_reach-requires : goal.check_reach-requires
check_reach-requires g c = let b = c.in-Ok.ensures in
    (b.0, read_as_met (scanner_of c.args.text.now c.begin_step.new.state) c.args.kind c.in-Ok.met.kind c.in-Ok.met.context (lexeme_of c.read_character-lexeme.result) b.1 c.read_character-lexeme.ensures)

pub end_character-requires : goal.end_character-requires
end_character-requires g c = λ κs w. (search rules, (w, (c.args.text.now, (rw c.in-Ok-check_reach.ensures.0 c.in-Ok-check_reach.ensures.1))))

pub returns-in-Ok-check_reach-clause-steps : goal.returns-in-Ok-check_reach-clause-steps
returns-in-Ok-check_reach-clause-steps g c = let b = c.in-Ok.ensures in let r = c.in-Ok-check_reach.ensures in
    step_to_from g.before (scanner_of c.args.text.now c.args.state.now) (scanner_of c.args.text.now c.begin_step.new.state) (scanner_of c.args.text.now c.end_character.new.state) _ _ _ c.end_character.result b.2
    (rw (← r.0) (c.end_character.ensures.steps c.args.text.now (rw r.0 r.1)))

pub returns-in-Err-check_reach-clause-steps : goal.returns-in-Err-check_reach-clause-steps
returns-in-Err-check_reach-clause-steps g c = let b = c.in-Ok.ensures in
    inl (rw c.stopped.ensures (stop_from g.before (scanner_of c.args.text.now c.args.state.now) (scanner_of c.args.text.now c.begin_step.new.state) (scanner_of c.args.text.now c.check_reach.new.state) c.in-Err-check_reach.stop b.2 c.in-Err-check_reach.ensures), g.met.S.yaml_token_sink_t.took_none c.args.sink.now)
