use Rattle.std.proofs.Common.{◌≡◌, ◌++◌, ◌∷◌, [], ◌&&◌, ◌||◌, Bool, inl, inr, refl, ap, sym, ◌∙◌, subst, vec_len, not}
use Rattle.std.specs.Prelude.{if◌then◌else◌, nat_eq}
use Rattle.std.proofs.lemmas.Bool.{cases_Bool}
use Rattle.yaml_text.specs.declared.types.yaml_mark_t.{yaml_mark_t}
use Rattle.yaml_lexeme.specs.LexemeOf.{lexeme_of}
use Rattle.yaml_scan.specs.Kind.{is_value}
use Rattle.yaml_scan.specs.inside.Scanner.{scanner_of}
use Rattle.yaml_scan.specs.inside.Handed.{group_with, lone, read_to}
use Rattle.yaml_scan.specs.inside.Scanning.{IsDecided, IsFollower, IsWaiting, counted, groups_in}
use Rattle.yaml_scan.proofs.RunningStep.DecidedLaid as decided
use Rattle.yaml_scan.proofs.RunningStep.StepLaid.{put_in}
use Rattle.yaml_scan.proofs.RunningStep.WaitingLaid as waiting
use Rattle.yaml_scan.proofs.follower.lay_both.Goals as goal

pub lay_levels-ends-requires-clause-falls : goal.lay_levels-ends-requires-clause-falls
lay_levels-ends-requires-clause-falls g c = λ n.
    let s = (scanner_of c.requires.1.0 c.args.state.now) in
    let x = c.requires.1.1 in
    let r = c.requires.1.2 in
    let q = c.requires.1.3 in
    let k = c.args.decider.now.kind in
    let y = lexeme_of c.args.decider.now.lexeme in
    let d : IsDecided s q.0 c.args.read.met c.args.read.reach k y = subst (λ (w : Bool). IsFollower s q.0 c.args.read.met c.args.read.reach w k y) n q.1 in
    decided.falls g.before s c.args.read.met x r.1 q.0 k y (subst (λ (m : yaml_mark_t). IsDecided s q.0 c.args.read.met m k y) (sym r.0) d)

pub drop_candidate-requires : goal.drop_candidate-requires
drop_candidate-requires g c =
    let s = (scanner_of c.requires.1.0 c.args.state.now) in
    let x = c.requires.1.1 in
    let r = c.requires.1.2 in
    let q = c.requires.1.3 in
    let w = (not (nat_eq g.row.WAITS 0)) in
    let k = c.args.decider.now.kind in
    let y = lexeme_of c.args.decider.now.lexeme in
    waiting.follower_no_start g.before s c.args.read.met x r.1 q.0 w k y (subst (λ (m : yaml_mark_t). IsFollower s q.0 c.args.read.met m w k y) (sym r.0) q.1)

pub returns-clause-laid : goal.returns-clause-laid
returns-clause-laid g c = λ X sparing d b e passed t z p F T Z.
    let s = (scanner_of X c.args.state.now) in
    let r = c.args.read.met in
    let k = c.args.decider.now.kind in
    let y = lexeme_of c.args.decider.now.lexeme in
    let x = read_to d b e c.args.read.reach passed in
    let v = c.drop_candidate.ensures in
    let new = c.drop_candidate.new.self in
    let levels = c.lay_levels-ends.ensures in
    let key = c.is_key-key.ensures in
    let allows = c.is_allowed_after-state.ensures in
    let a = c.is_allowed_after-state.result in
    elim (cases_Bool (not (nat_eq g.row.WAITS 0))) [
      | inl w ↦
          let f : IsWaiting s r c.args.read.reach k y = subst (λ (i : Bool). IsFollower s sparing r c.args.read.reach i k y) w F in
          let l = levels.same w in
          let allowed : c.is_key-key.result ≡ (r.allowed && is_value k) = key ∙ ap (λ (i : Bool). (not i || r.allowed) && is_value k) w in
          let empty : new.not_simple_keys ≡ s.slots.not_simple_keys = v.empty ∙ ap (λ (i : Bool). if i then s.slots.not_simple_keys else vec_len new.outer) w in
          let awaited : new.awaited ≡ s.slots.awaited = v.awaited ∙ ap (λ (i : Bool). if i then s.slots.awaited else 0) w in
          rw w (waiting.twice g.before s r x p k y f t T z Z new v.outer v.top empty awaited a (rw (← allowed) allows)
          _ (λ i. groups_in s ++ group_with (l.1 i) (l.2 i) (allowed i) t ∷ (lone z ∷ []))
          _ (λ i. put_in (counted s) new a (record { levels = l.0 i; queue = s.layout.queue }) y.reach))
      | inr w ↦
          let f : IsDecided s sparing r c.args.read.reach k y = subst (λ (i : Bool). IsFollower s sparing r c.args.read.reach i k y) w F in
          let l = levels.levels w in
          let u = f.undecided in
          let colon : c.is_key-key.result ≡ is_value k = key ∙ ap (λ (i : Bool). (not i || r.allowed) && is_value k) w in
          let empty : new.not_simple_keys ≡ vec_len new.outer = v.empty ∙ ap (λ (i : Bool). if i then s.slots.not_simple_keys else vec_len new.outer) w in
          let awaited : new.awaited ≡ 0 = v.awaited ∙ ap (λ (i : Bool). if i then s.slots.awaited else 0) w in
          rw w (decided.twice g.before s r x p sparing k y f l.0 l.1 c.lay_levels-ends.result.0 (levels.ends w) t T
          c.is_key-key.result colon c.lay_levels-ends.new.levels l.2 z Z new v.outer v.top empty awaited a allows
          _ (rw (u.alone, l.3) refl) _ refl)
    ]
