-- No candidate is awaited after a lexeme that is none, where there was none before it.
use Rattle.std.proofs.Common.{◌≡◌, ℕ, Bool, true, false, List, [], ◌∷◌, ◌++◌, map, Option, Some, None, refl, ap, ◌∙◌}
use Rattle.yaml_text.specs.declared.types.yaml_mark_t.{yaml_mark_t}
use Rattle.yaml_scan.specs.Kind.{Kind, is_candidate_kind, is_flow_start}
use Rattle.yaml_scan.specs.inside.Slots.{Held, completed_held, held_step, is_live, lowest, nested_outer, nested_top, slot_after, still_held}
use Rattle.yaml_scan.proofs.History.KindTests.{candidate_not_value}
use Rattle.yaml_scan.proofs.RunningQueue.NoCandidates.{nested_none, none_given_up}

-- a candidate completes nothing
pub none_completed : (k : Kind) (limit : ℕ) (m : yaml_mark_t) (top : Option Held) → is_candidate_kind k ≡ true → completed_held k limit m top ≡ None
none_completed k limit m top q = rw (candidate_not_value k q) refl

-- SLOTS, ALL EMPTY
pub lowest_front : (hs : List (Option Held)) (top : Option Held) → lowest (hs ++ top ∷ []) ≡ None → (lowest hs ≡ None) × (top ≡ None)
lowest_front [] None e = (refl, refl)
lowest_front [] (Some h) e = cc
lowest_front (None ∷ hs) top e = lowest_front hs top e
lowest_front (Some h ∷ hs) top e = cc

lowest_none : (hs : List (Option Held)) → lowest hs ≡ None → lowest (hs ++ None ∷ []) ≡ None
lowest_none [] e = refl
lowest_none (None ∷ hs) e = lowest_none hs e
lowest_none (Some h ∷ hs) e = cc

-- a lexeme that may be a key, but is stale already, leaves no candidate
dead_slot : (k : Kind) (a : Bool) (new : Held) (limit : ℕ) (m : yaml_mark_t) → is_candidate_kind k ≡ true → (a ≡ true → is_live limit m new ≡ false) → still_held limit m (slot_after k a new None) ≡ None
dead_slot k true new limit m q d = rw (q, d refl) refl
dead_slot k false new limit m q d = rw q refl

pub none_awaited : (k : Kind) (a : Bool) (new : Held) (limit : ℕ) (m : yaml_mark_t) (outer : List (Option Held)) (top : Option Held) → lowest (outer ++ top ∷ []) ≡ None → is_candidate_kind k ≡ true → is_flow_start k ≡ false → (a ≡ true → is_live limit m new ≡ false)
    → (outer' : List (Option Held)) (top' : Option Held) (awaited : ℕ) → outer' ≡ nested_outer k (map (still_held limit m) outer) (still_held limit m (slot_after k a new top)) → top' ≡ nested_top k (map (still_held limit m) outer) (still_held limit m (slot_after k a new top)) → awaited ≡ held_step (lowest (outer' ++ top' ∷ [])) → awaited ≡ 0
none_awaited k a new limit m outer top low q s d outer' top' awaited O T A =
    let f = lowest_front outer top low in
    let none : still_held limit m (slot_after k a new top) ≡ None = ap (λ (h : Option Held). still_held limit m (slot_after k a new h)) f.1 ∙ dead_slot k a new limit m q d in
    let same : map (still_held limit m) outer ≡ outer = none_given_up limit m outer f.0 in
    let n = nested_none k outer s f.0 in
    let o : lowest outer' ≡ None = ap lowest O ∙ ap (λ (hs : List (Option Held)). lowest (nested_outer k hs (still_held limit m (slot_after k a new top)))) same ∙ ap (λ (h : Option Held). lowest (nested_outer k outer h)) none ∙ n.0 in
    let t : top' ≡ None = T ∙ ap (λ (hs : List (Option Held)). nested_top k hs (still_held limit m (slot_after k a new top))) same ∙ ap (λ (h : Option Held). nested_top k outer h) none ∙ n.1 in
    A ∙ ap held_step (ap (λ (h : Option Held). lowest (outer' ++ h ∷ [])) t ∙ lowest_none outer' o)
