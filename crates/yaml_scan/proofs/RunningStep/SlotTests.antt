-- What the scanner keeps of the candidates is what a step tests of them.
use Rattle.std.proofs.Common.{◌≡◌, ℕ, zero, suc, not, Bool, true, false, List, [], ◌∷◌, ◌++◌, length, length-append, Option, Some, None, refl, ap, sym, subst, arith, inl, inr, append_assoc, append-nil, eqb, ltb, ne_eqb, lt-ltb}
use Rattle.std.specs.Prelude.{if◌then◌else◌, option_map}
use Rattle.std.proofs.lemmas.Bool.{cases_Bool, cases_eq}
use Rattle.yaml_scan.specs.Kind.{Kind, is_value}
use Rattle.yaml_text.specs.declared.types.yaml_mark_t.{yaml_mark_t}
use Rattle.yaml_scan.specs.inside.Slots.{Held, held, held_of, still_held, lost_held, needed, outer_to, root_of}
use Rattle.yaml_scan.specs.inside.Slots.{completed_held}
use Rattle.yaml_scan.specs.Laid.{Laid, reach}
use Rattle.yaml_scan.specs.Keys.{candidate, live, only_live, completed_by}
use Rattle.yaml_scan.specs.Depth.{depth}
use Rattle.yaml_scan.specs.Order.{IsHistory, IsNotBefore}
use Rattle.yaml_scan.specs.Levels.{is_required}
use Rattle.yaml_scan.specs.Step.{Outcome, unless, stale, required, only_stale, only_required, lost}
use Rattle.yaml_scan.specs.Step.Outcome.{Faults}
use Rattle.yaml_scan.proofs.History.KeyCandidates.{candidate_split}
use Rattle.yaml_scan.proofs.TokenList.NeverRevised.{start_in}
use Rattle.yaml_scan.proofs.History.HistoryOrder.{live_earlier}

-- a depth that is not above 0
pub zero_test : (n : ℕ) → not (ltb 0 n) ≡ eqb n 0
zero_test n = elim (cases_eq n 0) [
  | inl e ↦ rw e refl
  | inr e ↦ rw (ne_eqb n 0 e, lt-ltb 0 n (omega arith)) refl
]

module _ (limit : ℕ) (H : List Laid) (h : IsHistory limit H) (m : yaml_mark_t) (o : IsNotBefore (reach H) m) where
  live_then : (k : ℕ) (c : Laid) → candidate H k ≡ Some c → live limit c m ≡ true → live limit c (reach H) ≡ true
  live_then k c s t = let a = candidate_split H k c s in live_earlier limit c (reach H) m (start_in limit H a.newer c a.older a.is h) o t

  -- what is held and still live at a later mark is the candidate that is live there
  pub held_later : (k : ℕ) → still_held limit m (held limit H k) ≡ option_map held_of (only_live limit m (candidate H k))
  held_later k = go (candidate H k) refl
    where
      go : (c : Option Laid) → candidate H k ≡ c → still_held limit m (option_map held_of (only_live limit (reach H) c)) ≡ option_map held_of (only_live limit m c)
      go None s = refl
      go (Some c) s = elim (cases_Bool (live limit c m)) [
        | inl t ↦ rw (t, live_then k c s t) (rw t refl)
        | inr t ↦ elim (cases_Bool (live limit c (reach H))) [
          | inl u ↦ rw (t, u) (rw t refl)
          | inr u ↦ rw (t, u) refl
        ]
      ]

  pub completed_later : (k : Kind) → completed_held k limit m (held limit H (depth H)) ≡ option_map held_of (completed_by limit H k m)
  unfolding completed_by
  completed_later k = go (is_value k)
    where
      go : (b : Bool) → (if b then still_held limit m (held limit H (depth H)) else None) ≡ option_map held_of (if b then only_live limit m (candidate H (depth H)) else None)
      go true = held_later (depth H)
      go false = refl

  pub needed_later : needed limit m (held limit H 0) ≡ option_map held_of (only_live limit m (required H))
  unfolding required
  needed_later = go (candidate H 0) refl
    where
      go : (c : Option Laid) → candidate H 0 ≡ c → needed limit m (option_map held_of (only_live limit (reach H) c)) ≡ option_map held_of (only_live limit m (only_required c))
      go None s = refl
      go (Some c) s = elim (cases_Bool (is_required c)) [
        | inl r ↦ elim (cases_Bool (live limit c m)) [
          | inl t ↦ rw (r, t, live_then 0 c s t) (rw (r, t) refl)
          | inr t ↦ elim (cases_Bool (live limit c (reach H))) [
            | inl u ↦ rw (r, t, u) (rw (r, t) refl)
            | inr u ↦ rw (r, t, u) refl
          ]
        ]
        | inr r ↦ elim (cases_Bool (live limit c (reach H))) [
          | inl u ↦ rw (r, u) (rw r refl)
          | inr u ↦ rw (r, u) refl
        ]
      ]

  -- a required one that is stale now, and was not at the last reach
  pub lost_later : stale limit H (reach H) ≡ None → lost_held limit m (held limit H 0) ≡ option_map held_of (stale limit H m)
  unfolding stale required
  lost_later e = go (candidate H 0) refl e
    where
      go : (c : Option Laid) → candidate H 0 ≡ c → only_stale limit (reach H) (only_required c) ≡ None → lost_held limit m (option_map held_of (only_live limit (reach H) c)) ≡ option_map held_of (only_stale limit m (only_required c))
      go None s f = refl
      go (Some c) s f = elim (cases_Bool (is_required c)) [
        | inl r ↦ elim (cases_Bool (live limit c (reach H))) [
          | inl u ↦ elim (cases_Bool (live limit c m)) [
            | inl t ↦ rw (r, t, u) (rw (r, t) refl)
            | inr t ↦ rw (r, t, u) (rw (r, t) refl)
          ]
          | inr u ↦ (let g : Some c ≡ None = rw (r, u) at f in absurd (cc))
        ]
        | inr r ↦ elim (cases_Bool (live limit c (reach H))) [
          | inl u ↦ rw (r, u) (rw r refl)
          | inr u ↦ rw (r, u) refl
        ]
      ]

-- the slots give the candidate of depth 0
outer_first : (limit : ℕ) (H : List Laid) (n : ℕ) (rest : List (Option Held)) (top : Option Held) → root_of (outer_to limit H (suc n) ++ rest) top ≡ held limit H 0
outer_first limit H zero rest top = refl
outer_first limit H (suc n) rest top = subst (λ (l : List (Option Held)). root_of l top ≡ held limit H 0) (sym (append_assoc (outer_to limit H (suc n)) (held limit H (suc n) ∷ []) rest)) (outer_first limit H n (held limit H (suc n) ∷ rest) top)

pub root_is : (limit : ℕ) (H : List Laid) (n : ℕ) (top : Option Held) → (n ≡ 0 → top ≡ held limit H 0) → root_of (outer_to limit H n) top ≡ held limit H 0
root_is limit H zero top e = e refl
root_is limit H (suc n) top e = subst (λ (l : List (Option Held)). root_of l top ≡ held limit H 0) (append-nil (outer_to limit H (suc n))) (outer_first limit H n [] top)

pub outer_length : (limit : ℕ) (H : List Laid) (n : ℕ) → length (outer_to limit H n) ≡ n
outer_length limit H zero = refl
outer_length limit H (suc n) = let a = length-append (outer_to limit H n) (held limit H n ∷ []) in let b = outer_length limit H n in omega arith

-- THE ROWS
map_none : (o : Option Laid) (p : Option Held) → p ≡ option_map held_of o → p ≡ None → o ≡ None
map_none None p e f = refl
map_none (Some c) p e f = cc

pub lost_row : (o : Option Laid) (p : Option Held) (h : Held) (m : yaml_mark_t) (place : ℕ) (r : Outcome) → p ≡ option_map held_of o → p ≡ Some h → unless o m place r ≡ Faults (lost h.start m place)
lost_row None p h m place r e l = cc
lost_row (Some c) p h m place r e l = let q : h ≡ held_of c = cc in ap (λ (x : Held). Faults (lost x.start m place)) (sym q)

pub kept_row : (o : Option Laid) (p : Option Held) (m : yaml_mark_t) (place : ℕ) (r : Outcome) → p ≡ option_map held_of o → p ≡ None → unless o m place r ≡ r
kept_row o p m place r e f = rw (map_none o p e f) refl
