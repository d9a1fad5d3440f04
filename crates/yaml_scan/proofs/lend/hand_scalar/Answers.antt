use Rattle.std.proofs.Common.{◌≡◌, List, ◌++◌, Ok, Err, arith, ap, sym, ◌∙◌, subst, inl, inr}
use Rattle.yaml_scan.specs.Sink.{said_len}
use Rattle.yaml_scan.specs.Token.{yaml_token_t}
use Rattle.yaml_scan.specs.Words.{HasWords}
use Rattle.yaml_scan.specs.inside.Scanner.{scanner_of}
use Rattle.yaml_scan.specs.inside.Handed.{group_tokens, group_with, lone, tokens_with}
use Rattle.yaml_scan.proofs.RunningStep.StepHanded.{alone_done, both_done, both_given, both_laid, can_hand, cut_done, first_done, known_after}
use Rattle.yaml_scan.proofs.lend.hand_scalar.Goals as goal

pub hand_lent-requires-clause-taken : goal.hand_lent-requires-clause-taken
hand_lent-requires-clause-taken g c =
    let r = c.requires.laid in
    let w = can_hand r.1 r.2 (scanner_of r.0 c.args.state.now) _ c.args.laid.waits (group_with c.args.laid.ends c.args.laid.opens c.args.laid.key r.3) c.args.laid.decider r.5 in
    (r.3, r.4, w.3)

pub hand_lent-requires-clause-done : goal.hand_lent-requires-clause-done
hand_lent-requires-clause-done g c =
    let r = c.requires.laid in
    let w = can_hand r.1 r.2 (scanner_of r.0 c.args.state.now) _ c.args.laid.waits (group_with c.args.laid.ends c.args.laid.opens c.args.laid.key r.3) c.args.laid.decider r.5 in
    w.2

pub hand_lent-requires-clause-words : goal.hand_lent-requires-clause-words
hand_lent-requires-clause-words g c =
    let r = c.requires.laid in
    let w = can_hand r.1 r.2 (scanner_of r.0 c.args.state.now) _ c.args.laid.waits (group_with c.args.laid.ends c.args.laid.opens c.args.laid.key r.3) c.args.laid.decider r.5 in
    subst (λ (z : yaml_token_t). HasWords z.token_data) r.4 w.1

pub hand_token-requires-clause-room : goal.hand_token-requires-clause-room
hand_token-requires-clause-room g c =
    let b = both_laid c.requires.laid.1 c.requires.laid.2 (scanner_of c.requires.laid.0 c.args.state.now) _ c.args.laid.waits (group_with c.args.laid.ends c.args.laid.opens c.args.laid.key c.requires.laid.3) c.args.laid.decider c.in-Some.second c.in-Some.is c.requires.laid.5 in
    let e = c.in-Ok.ensures c.requires.laid.0 c.args.laid.waits c.requires.laid.3 c.requires.straight c.requires.laid.4 in
    let f = first_done c.requires.laid.1 c.requires.laid.2 (scanner_of c.requires.laid.0 c.args.state.now) _ c.args.laid.waits (group_with c.args.laid.ends c.args.laid.opens c.args.laid.key c.requires.laid.3) c.in-Some.second b (scanner_of c.requires.laid.0 c.hand_lent.new.state) e.0 e.1 in
    f.0

pub hand_token-requires-clause-done : goal.hand_token-requires-clause-done
hand_token-requires-clause-done g c =
    let b = both_laid c.requires.laid.1 c.requires.laid.2 (scanner_of c.requires.laid.0 c.args.state.now) _ c.args.laid.waits (group_with c.args.laid.ends c.args.laid.opens c.args.laid.key c.requires.laid.3) c.args.laid.decider c.in-Some.second c.in-Some.is c.requires.laid.5 in
    let e = c.in-Ok.ensures c.requires.laid.0 c.args.laid.waits c.requires.laid.3 c.requires.straight c.requires.laid.4 in
    let f = first_done c.requires.laid.1 c.requires.laid.2 (scanner_of c.requires.laid.0 c.args.state.now) _ c.args.laid.waits (group_with c.args.laid.ends c.args.laid.opens c.args.laid.key c.requires.laid.3) c.in-Some.second b (scanner_of c.requires.laid.0 c.hand_lent.new.state) e.0 e.1 in
    f.1

pub hand_token-requires-clause-taken : goal.hand_token-requires-clause-taken
hand_token-requires-clause-taken g c =
    let b = both_laid c.requires.laid.1 c.requires.laid.2 (scanner_of c.requires.laid.0 c.args.state.now) _ c.args.laid.waits (group_with c.args.laid.ends c.args.laid.opens c.args.laid.key c.requires.laid.3) c.args.laid.decider c.in-Some.second c.in-Some.is c.requires.laid.5 in
    let e = c.in-Ok.ensures c.requires.laid.0 c.args.laid.waits c.requires.laid.3 c.requires.straight c.requires.laid.4 in
    let f = first_done c.requires.laid.1 c.requires.laid.2 (scanner_of c.requires.laid.0 c.args.state.now) _ c.args.laid.waits (group_with c.args.laid.ends c.args.laid.opens c.args.laid.key c.requires.laid.3) c.in-Some.second b (scanner_of c.requires.laid.0 c.hand_lent.new.state) e.0 e.1 in
    f.2

pub hand_token-requires-clause-words : goal.hand_token-requires-clause-words
hand_token-requires-clause-words g c =
    let b = both_laid c.requires.laid.1 c.requires.laid.2 (scanner_of c.requires.laid.0 c.args.state.now) _ c.args.laid.waits (group_with c.args.laid.ends c.args.laid.opens c.args.laid.key c.requires.laid.3) c.args.laid.decider c.in-Some.second c.in-Some.is c.requires.laid.5 in
    let e = c.in-Ok.ensures c.requires.laid.0 c.args.laid.waits c.requires.laid.3 c.requires.straight c.requires.laid.4 in
    let f = first_done c.requires.laid.1 c.requires.laid.2 (scanner_of c.requires.laid.0 c.args.state.now) _ c.args.laid.waits (group_with c.args.laid.ends c.args.laid.opens c.args.laid.key c.requires.laid.3) c.in-Some.second b (scanner_of c.requires.laid.0 c.hand_lent.new.state) e.0 e.1 in
    b.decider_words

pub returns-in-Ok-hand_token-clause-steps : goal.returns-in-Ok-hand_token-clause-steps
returns-in-Ok-hand_token-clause-steps g c = λ X H s t T laid.
    let b = both_laid H s (scanner_of X c.args.state.now) _ c.args.laid.waits (group_with c.args.laid.ends c.args.laid.opens c.args.laid.key t) c.args.laid.decider c.in-Some.second c.in-Some.is laid in
    let e = c.in-Ok.ensures X c.args.laid.waits t c.requires.straight T in
    both_done H s (scanner_of X c.args.state.now) _ c.args.laid.waits (group_with c.args.laid.ends c.args.laid.opens c.args.laid.key t) c.in-Some.second b (scanner_of X c.hand_lent.new.state) (scanner_of X c.hand_token.new.state) g.S.yaml_token_sink_t.took g.met.S.yaml_token_sink_t.took_more c.args.sink.now c.hand_lent.new.sink c.hand_token.new.sink g.S.yaml_token_sink_t.may_refuse e.0 e.1 e.2 (Ok _) (c.in-Ok-hand_token.ensures X)

pub returns-in-Ok-hand_token-clause-within : goal.returns-in-Ok-hand_token-clause-within
returns-in-Ok-hand_token-clause-within g c = λ within.
    let y = (group_with c.args.laid.ends c.args.laid.opens c.args.laid.key c.requires.laid.3) in
    let z = lone c.in-Some.second in
    let e = c.in-Ok.ensures c.requires.laid.0 c.args.laid.waits c.requires.laid.3 c.requires.straight c.requires.laid.4 in
    let b = c.in-Ok-hand_token.ensures c.requires.laid.0 in
    let took = g.met.S.yaml_token_sink_t.took_more c.args.sink.now c.hand_lent.new.sink c.hand_token.new.sink e.0 b.0 e.2 b.2 in
    elim (both_given _ c.args.laid.waits (scanner_of c.requires.laid.0 c.args.state.now) (scanner_of c.requires.laid.0 c.hand_lent.new.state) (scanner_of c.requires.laid.0 c.hand_token.new.state) y z e.0 b.0 e.1 b.1) [
      | inl n ↦ g.met.S.yaml_token_sink_t.within_none c.args.sink.now c.hand_token.new.sink (subst (λ (ts : List yaml_token_t). g.S.yaml_token_sink_t.took c.args.sink.now ts c.hand_token.new.sink) (ap (λ (ts : List yaml_token_t). ts ++ b.0) n.0 ∙ n.1) took) within
      | inr a ↦ (let all : e.0 ++ b.0 ≡ tokens_with y c.args.laid.decider = ap (λ (ts : List yaml_token_t). ts ++ b.0) a.1 ∙ ap (λ (ts : List yaml_token_t). group_tokens y ++ ts) a.2 ∙ ap (tokens_with y) (sym c.in-Some.is) in
          c.requires.room a.0 within c.requires.laid.3 (let v = ap (λ (z : yaml_token_t). said_len z.token_data) c.requires.laid.4 in omega arith) c.hand_token.new.sink (subst (λ (ts : List yaml_token_t). g.S.yaml_token_sink_t.took c.args.sink.now ts c.hand_token.new.sink) all took))
    ]

pub returns-in-Err-hand_token-clause-steps : goal.returns-in-Err-hand_token-clause-steps
returns-in-Err-hand_token-clause-steps g c = λ X H s t T laid.
    let b = both_laid H s (scanner_of X c.args.state.now) _ c.args.laid.waits (group_with c.args.laid.ends c.args.laid.opens c.args.laid.key t) c.args.laid.decider c.in-Some.second c.in-Some.is laid in
    let e = c.in-Ok.ensures X c.args.laid.waits t c.requires.straight T in
    both_done H s (scanner_of X c.args.state.now) _ c.args.laid.waits (group_with c.args.laid.ends c.args.laid.opens c.args.laid.key t) c.in-Some.second b (scanner_of X c.hand_lent.new.state) (scanner_of X c.hand_token.new.state) g.S.yaml_token_sink_t.took g.met.S.yaml_token_sink_t.took_more c.args.sink.now c.hand_lent.new.sink c.hand_token.new.sink g.S.yaml_token_sink_t.may_refuse e.0 e.1 e.2 (Err c.stopped.result) (rw c.stopped.ensures (c.in-Err-hand_token.ensures X))

pub returns-in-None-clause-steps : goal.returns-in-None-clause-steps
returns-in-None-clause-steps g c = λ X H s t T laid.
    alone_done H s (scanner_of X c.args.state.now) _ c.args.laid.waits (group_with c.args.laid.ends c.args.laid.opens c.args.laid.key t) c.args.laid.decider c.in-None.is laid
    (scanner_of X c.hand_lent.new.state) (λ ts. g.S.yaml_token_sink_t.took c.args.sink.now ts c.hand_lent.new.sink) g.S.yaml_token_sink_t.may_refuse (Ok _) (c.in-Ok.ensures X c.args.laid.waits t c.requires.straight T)

pub returns-in-None-clause-within : goal.returns-in-None-clause-within
returns-in-None-clause-within g c =
    known_after _ c.args.laid.waits (scanner_of c.requires.laid.0 c.args.state.now) (scanner_of c.requires.laid.0 c.hand_lent.new.state) (group_with c.args.laid.ends c.args.laid.opens c.args.laid.key c.requires.laid.3) (λ ts. g.S.yaml_token_sink_t.took c.args.sink.now ts c.hand_lent.new.sink) g.S.yaml_token_sink_t.may_refuse _ (λ w within. g.met.S.yaml_token_sink_t.within_none c.args.sink.now c.hand_lent.new.sink w within)
    (λ e w within. c.requires.room e within c.requires.laid.3 (let v = ap (λ (z : yaml_token_t). said_len z.token_data) c.requires.laid.4 in omega arith) c.hand_lent.new.sink (subst (λ (ts : List yaml_token_t). g.S.yaml_token_sink_t.took c.args.sink.now ts c.hand_lent.new.sink) (ap (tokens_with (group_with c.args.laid.ends c.args.laid.opens c.args.laid.key c.requires.laid.3)) (sym c.in-None.is)) w)) (Ok _) (c.in-Ok.ensures c.requires.laid.0 c.args.laid.waits c.requires.laid.3 c.requires.straight c.requires.laid.4)

pub returns-in-Err-clause-steps : goal.returns-in-Err-clause-steps
returns-in-Err-clause-steps g c = λ X H s t T laid.
    cut_done H s (scanner_of X c.args.state.now) _ c.args.laid.waits (group_with c.args.laid.ends c.args.laid.opens c.args.laid.key t) c.args.laid.decider laid (scanner_of X c.hand_lent.new.state) (λ ts. g.S.yaml_token_sink_t.took c.args.sink.now ts c.hand_lent.new.sink) g.S.yaml_token_sink_t.may_refuse c.stopped-in-Err.result (rw c.stopped-in-Err.ensures (c.in-Err.ensures X c.args.laid.waits t c.requires.straight T))
