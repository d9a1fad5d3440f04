use Rattle.std.proofs.Common.{rules, false, Ok, Err, arith, ap, refl}
use Rattle.yaml_scan.specs.Sink.{said_len}
use Rattle.yaml_scan.specs.Token.{yaml_token_t}
use Rattle.yaml_lexeme.specs.LexemeOf.{lexeme_of}
use Rattle.yaml_scan.specs.inside.Scanner.{scanner_of}
use Rattle.yaml_scan.proofs.RunningStep.StepMoves.{cut_all, steps_all}
use Rattle.yaml_scan.proofs.RunningStep.StepHanded.{alone_handed, done_there, few_made, few_there, known_after}
use Rattle.yaml_scan.specs.inside.Handed.{group_with}
use Rattle.yaml_scan.proofs.laid.end_character.Goals as goal

pub lay_alone-ends-requires : goal.lay_alone-ends-requires
lay_alone-ends-requires g c = λ κs w. (search rules, (c.requires.1.1.0, lexeme_of c.args.lexeme, ((refl, refl), c.requires.1.1.1)))

pub hand_keyless-requires : goal.hand_keyless-requires
hand_keyless-requires g c =
    let X = c.requires.1.1.0 in
    let x = lexeme_of c.args.lexeme in
    let A = c.lay_alone-ends.ensures.laid X x.token_data x.start_mark x.end_mark c.token_of.result c.requires.1.1.1 c.token_of.ensures in
    let s = (scanner_of X c.args.state.now) in
    record {
      key = A.keyless;
      room = A.room;
      words = A.words;
      done = done_there g.before s (scanner_of X c.lay_alone-ends.new.state) c.args.met.kind (group_with c.lay_alone-ends.result.0 c.lay_alone-ends.result.1 false c.token_of.result) A.laid A.far A.says A.few;
      taken = few_there g.before s (scanner_of X c.lay_alone-ends.new.state) c.args.met.kind (group_with c.lay_alone-ends.result.0 c.lay_alone-ends.result.1 false c.token_of.result) A.laid A.far A.says A.few;
    }

pub returns-in-Ok-clause-steps : goal.returns-in-Ok-clause-steps
returns-in-Ok-clause-steps g c = λ X can.
    let x = lexeme_of c.args.lexeme in
    let A = c.lay_alone-ends.ensures.laid X x.token_data x.start_mark x.end_mark c.token_of.result can c.token_of.ensures in
    let s = (scanner_of X c.args.state.now) in
    steps_all g.before s (scanner_of X c.hand_keyless.new.state) _ _ 1
    (alone_handed g.before s (scanner_of X c.lay_alone-ends.new.state) _ c.args.met.kind c.lay_alone-ends.result.2 (group_with c.lay_alone-ends.result.0 c.lay_alone-ends.result.1 false c.token_of.result) A (scanner_of X c.hand_keyless.new.state) (λ ts. g.S.yaml_token_sink_t.took c.args.sink.now ts c.hand_keyless.new.sink) g.S.yaml_token_sink_t.may_refuse (Ok _) (c.in-Ok.ensures X))

pub returns-in-Ok-clause-within : goal.returns-in-Ok-clause-within
returns-in-Ok-clause-within g c =
    known_after _ _ _ _ _ (λ ts. g.S.yaml_token_sink_t.took c.args.sink.now ts c.hand_keyless.new.sink) g.S.yaml_token_sink_t.may_refuse _ (λ w within. g.met.S.yaml_token_sink_t.within_none c.args.sink.now c.hand_keyless.new.sink w within)
    (λ e w within. c.lay_alone-ends.ensures.room e within c.token_of.result (let v = ap (λ (z : yaml_token_t). said_len z.token_data) c.token_of.ensures in let w = c.said_len.ensures in omega arith) c.hand_keyless.new.sink w) (Ok _) (c.in-Ok.ensures c.requires.1.1.0)

pub returns-in-Err-clause-steps : goal.returns-in-Err-clause-steps
returns-in-Err-clause-steps g c = λ X can.
    let x = lexeme_of c.args.lexeme in
    let A = c.lay_alone-ends.ensures.laid X x.token_data x.start_mark x.end_mark c.token_of.result can c.token_of.ensures in
    let s = (scanner_of X c.args.state.now) in
    cut_all g.before s (scanner_of X c.hand_keyless.new.state) _ _ _ c.stopped.result
    (alone_handed g.before s (scanner_of X c.lay_alone-ends.new.state) _ c.args.met.kind c.lay_alone-ends.result.2 (group_with c.lay_alone-ends.result.0 c.lay_alone-ends.result.1 false c.token_of.result) A (scanner_of X c.hand_keyless.new.state) (λ ts. g.S.yaml_token_sink_t.took c.args.sink.now ts c.hand_keyless.new.sink) g.S.yaml_token_sink_t.may_refuse (Err c.stopped.result) (rw c.stopped.ensures (c.in-Err.ensures X)))

pub overflow_add-state : goal.overflow_add-state
overflow_add-state g c =
    let X = c.requires.1.1.0 in
    let x = lexeme_of c.args.lexeme in
    let A = c.lay_alone-ends.ensures.laid X x.token_data x.start_mark x.end_mark c.token_of.result c.requires.1.1.1 c.token_of.ensures in
    let s = (scanner_of X c.args.state.now) in
    let l = few_made g.before s (scanner_of X c.hand_keyless.new.state) _ (λ ts. g.S.yaml_token_sink_t.took c.args.sink.now ts c.hand_keyless.new.sink) g.S.yaml_token_sink_t.may_refuse 1
    (alone_handed g.before s (scanner_of X c.lay_alone-ends.new.state) _ c.args.met.kind c.lay_alone-ends.result.2 (group_with c.lay_alone-ends.result.0 c.lay_alone-ends.result.1 false c.token_of.result) A (scanner_of X c.hand_keyless.new.state) (λ ts. g.S.yaml_token_sink_t.took c.args.sink.now ts c.hand_keyless.new.sink) g.S.yaml_token_sink_t.may_refuse (Ok _) (c.in-Ok.ensures X)) A.few in
    omega arith
