use Rattle.std.proofs.Common.{ℕ, ◌++◌, refl, ap, sym, ◌∙◌, subst, length}
use Rattle.yaml_text.specs.declared.types.yaml_mark_t.{yaml_mark_t}
use Rattle.yaml_lexeme.specs.Counted.{IsMarkOf}
use Rattle.yaml_lexeme.specs.LexemeOf.{lexeme_of}
use Rattle.yaml_scan.specs.Token.{yaml_token_t}
use Rattle.yaml_scan.specs.inside.Scanner.{scanner_of}
use Rattle.yaml_scan.specs.inside.Scanning.{CanLayAll}
use Rattle.yaml_scan.specs.inside.Handed.{group_tokens, group_with, lone, read_to}
use Rattle.yaml_scan.proofs.RunningStep.StepHanded.{candidate_says, decider_len, decider_says, decider_words, early_there, few_given, few_queued, follower_alone, follower_candidate, follower_decides, follower_room, not_queued, words_there}
use Rattle.yaml_scan.proofs.RunningStep.TwoLaid.{read_place}
use Rattle.yaml_scan.proofs.step.lay_all.Goals as goal

pub follower_of-requires-clause-done : goal.follower_of-requires-clause-done
follower_of-requires-clause-done g c = let r = c.requires.1.1 in let k = r.1.1 in few_queued g.before (scanner_of c.args.text.now c.args.state.now) k.can.can

pub follower_of-requires-clause-place : goal.follower_of-requires-clause-place
follower_of-requires-clause-place g c = λ k. let r = c.requires.1.1 in
    subst (λ (m : yaml_mark_t). (p : ℕ) × IsMarkOf c.args.text.now.chars m p) r.1.0.0 (read_place g.before (scanner_of c.args.text.now c.args.state.now) c.args.read.met r.0 r.1.1 k)

pub lay_followed-ends-requires : goal.lay_followed-ends-requires
lay_followed-ends-requires g c = let r = c.requires.1.1 in (c.args.text.now, r.0, (r.1.0.0, r.1.1), (_, c.in-Some.ensures))

pub returns-in-Some-clause-laid : goal.returns-in-Some-clause-laid
returns-in-Some-clause-laid g c = λ said b e t r T.
    let f = c.in-Some.ensures in
    let s = (scanner_of c.args.text.now c.args.state.now) in
    let x = read_to said b e c.args.read.reach c.args.read.passed_break in
    let v = c.in-Some.follower.waits in
    let w = lexeme_of c.in-Some.follower.decider.lexeme in
    let k = c.in-Some.follower.decider.kind in
    let l = c.lay_followed-ends.ensures in
    let u = (scanner_of c.args.text.now c.lay_followed-ends.new.state) in
    let q = c.is_queued.ensures in
    let o = follower_candidate s _ c.args.read.met c.args.read.reach v k w f in
    let d = follower_decides s _ c.args.read.met c.args.read.reach v k w f in
    let first = ap (λ (z : yaml_token_t). z.token_data) T in
    let second = ap (λ (z : yaml_token_t). z.token_data) c.token_of.ensures in
    record {
      laid = rw q (l.laid c.args.text.now _ said b e c.args.read.passed_break t c.token_of.result r f T c.token_of.ensures);
      few = r.can.can.few_steps;
      room = follower_room s _ c.args.read.met c.args.read.reach v k w f u.layout.queue l.queue;
      words = words_there g.before s c.args.read.met x r _ first;
      decider_words = decider_words g.before s c.args.read.met x r o k w d _ second;
      no_end = candidate_says g.before s c.args.read.met x r o k w d _ first;
      decider_no_end = decider_says g.before s c.args.read.met x r o k w d _ second;
      straight = λ z. c.has_room_for_both-direct.ensures.direct (not_queued v _ (sym q ∙ z)).1;
      awaited = λ z. l.awaited (not_queued v c.has_room_for_both-direct.result (sym q ∙ z)).0;
      early = early_there g.before s c.args.read.met x r o k w d u.layout.queue l.queue;
      alone = λ z. follower_alone s _ c.args.read.met c.args.read.reach v k w f (not_queued v c.has_room_for_both-direct.result (sym q ∙ z)).0 u.layout.queue l.queue;
    }

pub returns-in-Some-clause-room : goal.returns-in-Some-clause-room
returns-in-Some-clause-room g c = λ z within t texts after took.
    let r = c.requires.1.1 in
    let y = r.0 in
    let s = (scanner_of c.args.text.now c.args.state.now) in
    let x = read_to y.token_data y.start_mark y.end_mark c.args.read.reach y.passed_break in
    let can = subst (λ (m : yaml_mark_t). CanLayAll g.before s c.args.read.met (read_to y.token_data y.start_mark y.end_mark m y.passed_break)) r.1.0.0 r.1.1 in
    let h = c.in-Some.follower.waits in
    let w = lexeme_of c.in-Some.follower.decider.lexeme in
    let k = c.in-Some.follower.decider.kind in
    let f = c.in-Some.ensures in
    let o = follower_candidate s _ c.args.read.met c.args.read.reach h k w f in
    let d = follower_decides s _ c.args.read.met c.args.read.reach h k w f in
    let l = c.lay_followed-ends.ensures in
    let first = group_with c.lay_followed-ends.result.0 c.lay_followed-ends.result.1 c.lay_followed-ends.result.2 t in
    let second = lone c.token_of.result in
    let v = c.deref.ensures.value in
    let says = ap (λ (w : yaml_token_t). w.token_data) c.token_of.ensures in
    let few = few_given first second (length s.layout.levels.items) c.args.read.texts refl refl refl l.few texts (decider_len g.before s c.args.read.met x can o k w d _ says) in
    c.has_room_for_both-direct.ensures.room (not_queued h _ (sym c.is_queued.ensures ∙ z)).1 within (group_tokens first ++ group_tokens second) after (rw v few.0) few.1 took

pub returns-in-None-clause-laid : goal.returns-in-None-clause-laid
returns-in-None-clause-laid g c = λ said b e t r T. (c.args.read.met.kind, c.lay_alone-ends.ensures.laid c.args.text.now said b e t r T)
