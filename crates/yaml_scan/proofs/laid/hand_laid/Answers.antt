use Rattle.std.proofs.Common.{◌≡◌, List, ◌++◌, Ok, Err, arith, ap, sym, ◌∙◌, subst, inl, inr}
use Rattle.yaml_scan.specs.Token.{yaml_token_t}
use Rattle.yaml_scan.specs.inside.Scanner.{scanner_of}
use Rattle.yaml_scan.specs.inside.Handed.{group_tokens, group_with, lone, tokens_with}
use Rattle.yaml_scan.proofs.RunningStep.StepHanded.{alone_done, both_done, both_given, both_laid, can_hand, cut_done, first_done, known_after}
use Rattle.yaml_scan.proofs.laid.hand_laid.Goals as goal

pub hand_on-requires : goal.hand_on-requires
hand_on-requires g c =
    let w = can_hand c.requires.laid.1 c.requires.laid.2.0 (scanner_of c.requires.laid.0 c.args.state.now) _ c.args.laid.waits (group_with c.args.laid.ends c.args.laid.opens c.args.laid.key c.args.token) c.args.laid.decider c.requires.laid.2.1 in
    record { room = w.0; words = w.1; done = w.2; taken = w.3 }

pub hand_token-requires : goal.hand_token-requires
hand_token-requires g c =
    let b = both_laid c.requires.laid.1 c.requires.laid.2.0 (scanner_of c.requires.laid.0 c.args.state.now) _ c.args.laid.waits (group_with c.args.laid.ends c.args.laid.opens c.args.laid.key c.args.token) c.args.laid.decider c.in-Some.second c.in-Some.is c.requires.laid.2.1 in
    let e = c.in-Ok.ensures c.requires.laid.0 in
    let f = first_done c.requires.laid.1 c.requires.laid.2.0 (scanner_of c.requires.laid.0 c.args.state.now) _ c.args.laid.waits (group_with c.args.laid.ends c.args.laid.opens c.args.laid.key c.args.token) c.in-Some.second b (scanner_of c.requires.laid.0 c.hand_on.new.state) e.0 e.1 in
    record { room = f.0; words = b.decider_words; done = f.1; taken = f.2 }

pub returns-in-Ok-hand_token-clause-steps : goal.returns-in-Ok-hand_token-clause-steps
returns-in-Ok-hand_token-clause-steps g c = λ X H s laid.
    let b = both_laid H s (scanner_of X c.args.state.now) _ c.args.laid.waits (group_with c.args.laid.ends c.args.laid.opens c.args.laid.key c.args.token) c.args.laid.decider c.in-Some.second c.in-Some.is laid in
    let e = c.in-Ok.ensures X in
    both_done H s (scanner_of X c.args.state.now) _ c.args.laid.waits (group_with c.args.laid.ends c.args.laid.opens c.args.laid.key c.args.token) c.in-Some.second b (scanner_of X c.hand_on.new.state) (scanner_of X c.hand_token.new.state) g.S.yaml_token_sink_t.took g.met.S.yaml_token_sink_t.took_more c.args.sink.now c.hand_on.new.sink c.hand_token.new.sink g.S.yaml_token_sink_t.may_refuse e.0 e.1 e.2 (Ok _) (c.in-Ok-hand_token.ensures X)

pub returns-in-Ok-hand_token-clause-within : goal.returns-in-Ok-hand_token-clause-within
returns-in-Ok-hand_token-clause-within g c = λ within.
    let y = (group_with c.args.laid.ends c.args.laid.opens c.args.laid.key c.args.token) in
    let z = lone c.in-Some.second in
    let e = c.in-Ok.ensures c.requires.laid.0 in
    let b = c.in-Ok-hand_token.ensures c.requires.laid.0 in
    let took = g.met.S.yaml_token_sink_t.took_more c.args.sink.now c.hand_on.new.sink c.hand_token.new.sink e.0 b.0 e.2 b.2 in
    elim (both_given _ c.args.laid.waits (scanner_of c.requires.laid.0 c.args.state.now) (scanner_of c.requires.laid.0 c.hand_on.new.state) (scanner_of c.requires.laid.0 c.hand_token.new.state) y z e.0 b.0 e.1 b.1) [
      | inl n ↦ g.met.S.yaml_token_sink_t.within_none c.args.sink.now c.hand_token.new.sink (subst (λ (ts : List yaml_token_t). g.S.yaml_token_sink_t.took c.args.sink.now ts c.hand_token.new.sink) (ap (λ (ts : List yaml_token_t). ts ++ b.0) n.0 ∙ n.1) took) within
      | inr a ↦ (let all : e.0 ++ b.0 ≡ tokens_with y c.args.laid.decider = ap (λ (ts : List yaml_token_t). ts ++ b.0) a.1 ∙ ap (λ (ts : List yaml_token_t). group_tokens y ++ ts) a.2 ∙ ap (tokens_with y) (sym c.in-Some.is) in
          c.requires.room a.0 within c.args.token (omega arith) c.hand_token.new.sink (subst (λ (ts : List yaml_token_t). g.S.yaml_token_sink_t.took c.args.sink.now ts c.hand_token.new.sink) all took))
    ]

pub returns-in-Err-hand_token-clause-steps : goal.returns-in-Err-hand_token-clause-steps
returns-in-Err-hand_token-clause-steps g c = λ X H s laid.
    let b = both_laid H s (scanner_of X c.args.state.now) _ c.args.laid.waits (group_with c.args.laid.ends c.args.laid.opens c.args.laid.key c.args.token) c.args.laid.decider c.in-Some.second c.in-Some.is laid in
    let e = c.in-Ok.ensures X in
    both_done H s (scanner_of X c.args.state.now) _ c.args.laid.waits (group_with c.args.laid.ends c.args.laid.opens c.args.laid.key c.args.token) c.in-Some.second b (scanner_of X c.hand_on.new.state) (scanner_of X c.hand_token.new.state) g.S.yaml_token_sink_t.took g.met.S.yaml_token_sink_t.took_more c.args.sink.now c.hand_on.new.sink c.hand_token.new.sink g.S.yaml_token_sink_t.may_refuse e.0 e.1 e.2 (Err c.stopped.result) (rw c.stopped.ensures (c.in-Err-hand_token.ensures X))

pub returns-in-None-clause-steps : goal.returns-in-None-clause-steps
returns-in-None-clause-steps g c = λ X H s laid.
    alone_done H s (scanner_of X c.args.state.now) _ c.args.laid.waits (group_with c.args.laid.ends c.args.laid.opens c.args.laid.key c.args.token) c.args.laid.decider c.in-None.is laid
    (scanner_of X c.hand_on.new.state) (λ ts. g.S.yaml_token_sink_t.took c.args.sink.now ts c.hand_on.new.sink) g.S.yaml_token_sink_t.may_refuse (Ok _) (c.in-Ok.ensures X)

pub returns-in-None-clause-within : goal.returns-in-None-clause-within
returns-in-None-clause-within g c =
    known_after _ c.args.laid.waits (scanner_of c.requires.laid.0 c.args.state.now) (scanner_of c.requires.laid.0 c.hand_on.new.state) (group_with c.args.laid.ends c.args.laid.opens c.args.laid.key c.args.token) (λ ts. g.S.yaml_token_sink_t.took c.args.sink.now ts c.hand_on.new.sink) g.S.yaml_token_sink_t.may_refuse _ (λ w within. g.met.S.yaml_token_sink_t.within_none c.args.sink.now c.hand_on.new.sink w within)
    (λ e w within. c.requires.room e within c.args.token (omega arith) c.hand_on.new.sink (subst (λ (ts : List yaml_token_t). g.S.yaml_token_sink_t.took c.args.sink.now ts c.hand_on.new.sink) (ap (tokens_with (group_with c.args.laid.ends c.args.laid.opens c.args.laid.key c.args.token)) (sym c.in-None.is)) w)) (Ok _) (c.in-Ok.ensures c.requires.laid.0)

pub returns-in-Err-clause-steps : goal.returns-in-Err-clause-steps
returns-in-Err-clause-steps g c = λ X H s laid.
    cut_done H s (scanner_of X c.args.state.now) _ c.args.laid.waits (group_with c.args.laid.ends c.args.laid.opens c.args.laid.key c.args.token) c.args.laid.decider laid (scanner_of X c.hand_on.new.state) (λ ts. g.S.yaml_token_sink_t.took c.args.sink.now ts c.hand_on.new.sink) g.S.yaml_token_sink_t.may_refuse c.stopped-in-Err.result (rw c.stopped-in-Err.ensures (c.in-Err.ensures X))
