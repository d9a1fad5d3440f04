use Rattle.std.proofs.Common.{◌≡◌, ◌||◌, ◌&&◌, ◌+◌, ◌∷◌, [], ◌++◌, ℕ, Bool, false, refl, ap, sym, ◌∙◌, subst, length}
use Rattle.yaml_text.specs.declared.types.yaml_mark_t.{yaml_mark_t}
use Rattle.yaml_lexeme.specs.Counted.{IsMarkOf}
use Rattle.yaml_lexeme.specs.LexemeOf.{lexeme_of}
use Rattle.yaml_scan.specs.Token.{yaml_token_t}
use Rattle.yaml_scan.specs.inside.Scanner.{scanner_of}
use Rattle.yaml_scan.specs.inside.Scanning.{CanLayAll, LaysTwo, groups_in}
use Rattle.yaml_scan.specs.inside.Slots.{is_live}
use Rattle.yaml_scan.specs.inside.Handed.{group_with, lone, read_to}
use Rattle.yaml_scan.proofs.History.KindTests.{candidate_not_end}
use Rattle.yaml_scan.proofs.RunningQueue.NoCandidates.{none_at_all}
use Rattle.yaml_scan.proofs.RunningStep.StepHanded.{candidate_says, decider_len, decider_says, decider_words, early_there, far_there, few_given, few_one, follower_alone, follower_candidate, follower_decides, follower_room, says_there, words_there}
use Rattle.yaml_scan.proofs.RunningStep.StepTests.{can_put}
use Rattle.yaml_scan.proofs.RunningStep.TwoLaid.{read_place}
use Rattle.yaml_scan.proofs.lend.lay_lent.Goals as goal

pub follower_of-requires-clause-place : goal.follower_of-requires-clause-place
follower_of-requires-clause-place g c = λ k. let r = c.requires.0 in
    subst (λ (m : yaml_mark_t). (p : ℕ) × IsMarkOf c.args.text.now.chars m p) r.1.0.0 (read_place g.before (scanner_of c.args.text.now c.args.state.now) c.args.read.met r.0 r.1.1 k)

pub lay_lexeme-ends-requires : goal.lay_lexeme-ends-requires
lay_lexeme-ends-requires g c = let r = c.requires.0 in
    ((c.args.text.now, r.0, (r.1.0, can_put g.before (scanner_of c.args.text.now c.args.state.now) c.args.read.met r.0 r.1.1)), (c.args.text.now, r.1.1.can.room))

pub returns-else-follower-clause-laid : goal.returns-else-follower-clause-laid
returns-else-follower-clause-laid g c = λ said b e t r T.
    let f = c.in-Some.ensures in
    let s = (scanner_of c.args.text.now c.args.state.now) in
    let x = read_to said b e c.args.read.reach c.args.read.passed_break in
    let v = c.in-Some.follower.waits in
    let straight = c.if-follower.false in
    let h = lexeme_of c.in-Some.follower.decider.lexeme in
    let k = c.in-Some.follower.decider.kind in
    let l = c.lay_followed-ends.ensures in
    let u = (scanner_of c.args.text.now c.lay_followed-ends.new.state) in
    let y = group_with c.lay_followed-ends.result.0 c.lay_followed-ends.result.1 c.lay_followed-ends.result.2 t in
    let o = follower_candidate s _ c.args.read.met c.args.read.reach v k h f in
    let d = follower_decides s _ c.args.read.met c.args.read.reach v k h f in
    let first = ap (λ (z : yaml_token_t). z.token_data) T in
    let second = ap (λ (z : yaml_token_t). z.token_data) c.token_of.ensures in
    record {
      laid = subst (λ (z : Bool). LaysTwo (z || false) g.before s u (groups_in u ++ y ∷ (lone c.token_of.result ∷ []))) straight (l.laid c.args.text.now false said b e c.args.read.passed_break t c.token_of.result r f T c.token_of.ensures);
      few = r.can.can.few_steps;
      room = follower_room s _ c.args.read.met c.args.read.reach v k h f u.layout.queue l.queue;
      words = words_there g.before s c.args.read.met x r _ first;
      decider_words = decider_words g.before s c.args.read.met x r o k h d _ second;
      no_end = candidate_says g.before s c.args.read.met x r o k h d _ first;
      decider_no_end = decider_says g.before s c.args.read.met x r o k h d _ second;
      straight = λ z. refl;
      awaited = λ z. l.awaited straight;
      early = early_there g.before s c.args.read.met x r o k h d u.layout.queue l.queue;
      alone = λ z. follower_alone s _ c.args.read.met c.args.read.reach v k h f straight u.layout.queue l.queue;
    }

pub returns-else-follower-clause-few : goal.returns-else-follower-clause-few
returns-else-follower-clause-few g c = λ t texts.
    let r = c.requires.0 in
    let y = r.0 in
    let s = (scanner_of c.args.text.now c.args.state.now) in
    let x = read_to y.token_data y.start_mark y.end_mark c.args.read.reach y.passed_break in
    let can = subst (λ (m : yaml_mark_t). CanLayAll g.before s c.args.read.met (read_to y.token_data y.start_mark y.end_mark m y.passed_break)) r.1.0.0 r.1.1 in
    let v = c.in-Some.follower.waits in
    let h = lexeme_of c.in-Some.follower.decider.lexeme in
    let k = c.in-Some.follower.decider.kind in
    let f = c.in-Some.ensures in
    let o = follower_candidate s _ c.args.read.met c.args.read.reach v k h f in
    let d = follower_decides s _ c.args.read.met c.args.read.reach v k h f in
    let first = group_with c.lay_followed-ends.result.0 c.lay_followed-ends.result.1 c.lay_followed-ends.result.2 t in
    let says = ap (λ (z : yaml_token_t). z.token_data) c.token_of.ensures in
    few_given first (lone c.token_of.result) (length s.layout.levels.items) c.args.read.texts refl refl refl c.lay_followed-ends.ensures.few texts (decider_len g.before s c.args.read.met x can o k h d _ says)

pub returns-else-is_kept-clause-laid : goal.returns-else-is_kept-clause-laid
returns-else-is_kept-clause-laid g c = λ said b e t p T.
    let s = (scanner_of c.args.text.now c.args.state.now) in
    let x = read_to said b e c.args.read.reach c.args.read.passed_break in
    let l = c.lay_lexeme-ends.ensures in
    let q = c.requires.1.0 in
    let none = none_at_all g.before (s.made + 1) s p.can.can.holds c.requires.1.1.1 in
    let says = ap (λ (z : yaml_token_t). z.token_data) T in (
      c.args.read.met.kind,
      record {
        laid = l.laid c.args.text.now said b e t (can_put g.before s c.args.read.met x p) T;
        far = far_there g.before s c.args.read.met x p _ l.reach;
        few = p.can.can.few_steps;
        room = l.room;
        words = words_there g.before s c.args.read.met x p _ says;
        says = says_there g.before s c.args.read.met x p _ says;
        keyless = refl;
        last = λ _. candidate_not_end c.args.read.met.kind q;
        awaited = λ _. l.none none q c.requires.1.1.0 (λ a. subst (λ (z : Bool). (z && is_live s.limit c.args.read.reach c.args.read.met.new) ≡ false) a (sym c.is_kept.ensures ∙ c.if-is_kept.false));
        alone = λ _. l.queued q ∙ c.requires.1.1.1;
      },
    )

pub returns-else-is_kept-clause-few : goal.returns-else-is_kept-clause-few
returns-else-is_kept-clause-few g c = λ t texts.
    few_one (group_with c.lay_lexeme-ends.result.0 c.lay_lexeme-ends.result.1 false t) (length c.args.state.now.layout.levels.items) c.args.read.texts c.lay_lexeme-ends.ensures.few texts
