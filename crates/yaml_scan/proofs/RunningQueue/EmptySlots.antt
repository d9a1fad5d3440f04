-- The lowest slots: those that are empty, and the first that is not.
use Rattle.std.proofs.Common.{◌≡◌, ℕ, zero, suc, ◌+◌, ◌-◌, ◌≤◌, ◌<◌, true, false, List, [], ◌∷◌, ◌++◌, map, take, length, set, Option, Some, None, refl, ap, sym, ◌∙◌, arith, inl, inr, eq-eqb, le-leb, eqb-true, leb-true}
use Rattle.std.specs.Prelude.{◌≢◌, slice_get, is_some}
use Rattle.std.proofs.lemmas.Bool.{cases_Bool, cases_eq, cases_lt, false≢true, and_parts, and_from}
use Rattle.yaml_text.specs.declared.types.yaml_mark_t.{yaml_mark_t}
use Rattle.yaml_scan.specs.Kind.{Kind, is_flow_start, is_flow_end}
use Rattle.yaml_scan.specs.inside.Slots.{Held, is_live, still_held, empty_slots, lowest, AreEmptyBelow, AreNested}
use Rattle.yaml_scan.specs.inside.Slots.{nested_outer}

none_some : {X : Type 0} (h : Held) → Some None ≡ Some (Some h) → X
none_some h e = cc

nothing_some : {X : Type 0} (h : Held) → None ≡ Some (Some h) → X
nothing_some h e = cc

-- COUNTING
pub below_empty : (hs : List (Option Held)) → AreEmptyBelow (empty_slots hs) hs
below_empty [] k h l e = nothing_some h e
below_empty (None ∷ hs) zero h l e = none_some h e
below_empty (None ∷ hs) (suc k) h l e = below_empty hs k h (omega arith) e
below_empty (Some g ∷ hs) k h l e = absurd (omega arith)

pub empty_within : (hs : List (Option Held)) → empty_slots hs ≤ length hs
empty_within [] = omega arith
empty_within (None ∷ hs) = let r = empty_within hs in omega arith
empty_within (Some g ∷ hs) = omega arith

-- a slot, by a test of it
pub held_at : (o : Option Held) → is_some o ≡ true → (h : Held) × (o ≡ Some h)
held_at None e = absurd (false≢true e)
held_at (Some h) e = (h, refl)

pub none_at : (o : Option Held) → is_some o ≡ false → o ≡ None
none_at None e = refl
none_at (Some h) e = absurd (false≢true (sym e))

-- up to the first candidate
pub empty_held : (n : ℕ) (hs : List (Option Held)) (h : Held) → AreEmptyBelow n hs → slice_get hs n ≡ Some (Some h) → n ≡ empty_slots hs
empty_held n [] h b e = nothing_some h e
empty_held zero (None ∷ hs) h b e = none_some h e
empty_held (suc n) (None ∷ hs) h b e = ap suc (empty_held n hs h (λ k g l f. b (suc k) g (omega arith) f) e)
empty_held zero (Some g ∷ hs) h b e = refl
empty_held (suc n) (Some g ∷ hs) h b e = absurd (b 0 g (omega arith) refl)

-- or all of them
pub empty_all : (n : ℕ) (hs : List (Option Held)) → AreEmptyBelow n hs → length hs ≤ n → length hs ≡ empty_slots hs
empty_all n [] b l = refl
empty_all zero (o ∷ hs) b l = absurd (omega arith)
empty_all (suc n) (None ∷ hs) b l = let r = empty_all n hs (λ k g m f. b (suc k) g (omega arith) f) (omega arith) in omega arith
empty_all (suc n) (Some g ∷ hs) b l = absurd (b 0 g (omega arith) refl)

-- one slot more
pub empty_more : (n : ℕ) (hs : List (Option Held)) → AreEmptyBelow n hs → slice_get hs n ≡ Some None → AreEmptyBelow (n + 1) hs
empty_more n hs b e k h l f = elim (cases_eq k n) [
  | inl q ↦ (let g : slice_get hs n ≡ Some (Some h) = sym (ap (λ (i : ℕ). slice_get hs i) q) ∙ f in none_some h (sym e ∙ g))
  | inr q ↦ b k h (omega arith) f
]

-- THE LOWEST
pub lowest_none : (hs : List (Option Held)) → slice_get hs (empty_slots hs) ≡ None → lowest hs ≡ None
lowest_none [] e = refl
lowest_none (None ∷ hs) e = lowest_none hs e
lowest_none (Some h ∷ hs) e = cc

pub lowest_some : (hs : List (Option Held)) (o : Option Held) → slice_get hs (empty_slots hs) ≡ Some o → lowest hs ≡ o
lowest_some [] o e = cc
lowest_some (None ∷ hs) o e = lowest_some hs o e
lowest_some (Some h ∷ hs) o e = cc

pub lowest-first : (hs gs : List (Option Held)) (h : Held) → lowest hs ≡ Some h → lowest (hs ++ gs) ≡ Some h
lowest-first [] gs h e = cc
lowest-first (None ∷ hs) gs h e = lowest-first hs gs h e
lowest-first (Some g ∷ hs) gs h e = e

pub lowest-next : (hs : List (Option Held)) (o : Option Held) → lowest hs ≡ None → lowest (hs ++ o ∷ []) ≡ o
lowest-next [] None e = refl
lowest-next [] (Some g) e = refl
lowest-next (None ∷ hs) o e = lowest-next hs o e
lowest-next (Some g ∷ hs) o e = cc

-- where one more slot stands after them
pub lowest_there : (hs gs : List (Option Held)) (o : Option Held) → slice_get hs (empty_slots hs) ≡ Some o → o ≡ lowest (hs ++ gs)
lowest_there [] gs o e = cc
lowest_there (None ∷ hs) gs o e = lowest_there hs gs o e
lowest_there (Some h ∷ hs) gs o e = cc

pub lowest_after : (hs : List (Option Held)) (o : Option Held) → slice_get hs (empty_slots hs) ≡ None → o ≡ lowest (hs ++ o ∷ [])
lowest_after hs o e = sym (lowest-next hs o (lowest_none hs e))

-- GIVING UP
set_same : (hs : List (Option Held)) (n : ℕ) (o : Option Held) → n < length hs → slice_get (set hs n o) n ≡ Some o
set_same [] n o l = absurd (omega arith)
set_same (x ∷ hs) zero o l = refl
set_same (x ∷ hs) (suc n) o l = set_same hs n o (omega arith)

set_other : (hs : List (Option Held)) (n k : ℕ) (o : Option Held) → k ≢ n → slice_get (set hs n o) k ≡ slice_get hs k
set_other [] n k o d = refl
set_other (x ∷ hs) zero zero o d = absurd (d refl)
set_other (x ∷ hs) zero (suc k) o d = refl
set_other (x ∷ hs) (suc n) zero o d = refl
set_other (x ∷ hs) (suc n) (suc k) o d = set_other hs n k o (λ e. d (ap suc e))

-- what is held once a slot is emptied was held before
pub set_held : (hs : List (Option Held)) (n k : ℕ) (h : Held) → n < length hs → slice_get (set hs n None) k ≡ Some (Some h) → slice_get hs k ≡ Some (Some h)
set_held hs n k h l e = elim (cases_eq k n) [
  | inl q ↦ (let g : slice_get (set hs n None) n ≡ Some (Some h) = sym (ap (λ (i : ℕ). slice_get (set hs n None) i) q) ∙ e in none_some h (sym (set_same hs n None l) ∙ g))
  | inr q ↦ sym (set_other hs n k None q) ∙ e
]

pub set_empty : (n : ℕ) (hs : List (Option Held)) → n < length hs → AreEmptyBelow n hs → AreEmptyBelow (n + 1) (set hs n None)
set_empty n hs l b = empty_more n (set hs n None) (λ k h m e. b k h m (set_held hs n k h l e)) (set_same hs n None l)

module _ (limit : ℕ) (m : yaml_mark_t) where
  pub set_swept : (hs : List (Option Held)) (n : ℕ) (o : Option Held) → slice_get hs n ≡ Some o → still_held limit m o ≡ None → map (still_held limit m) (set hs n None) ≡ map (still_held limit m) hs
  set_swept [] n o e f = refl
  set_swept (x ∷ hs) zero o e f = let q : x ≡ o = cc in ap (λ (y : Option Held). y ∷ map (still_held limit m) hs) (sym f ∙ ap (still_held limit m) (sym q))
  set_swept (x ∷ hs) (suc n) o e f = ap (λ (ys : List (Option Held)). still_held limit m x ∷ ys) (set_swept hs n o e f)

  -- if all are live, none is dropped
  pub swept_live : (hs : List (Option Held)) → ((k : ℕ) (h : Held) → slice_get hs k ≡ Some (Some h) → is_live limit m h ≡ true) → map (still_held limit m) hs ≡ hs
  swept_live [] f = refl
  swept_live (None ∷ hs) f = ap (λ (ys : List (Option Held)). None ∷ ys) (swept_live hs (λ k h e. f (suc k) h e))
  swept_live (Some h ∷ hs) f = rw (f 0 h refl) (ap (λ (ys : List (Option Held)). Some h ∷ ys) (swept_live hs (λ k g e. f (suc k) g e)))

  live_too : (h g : Held) → g.start.line ≡ h.start.line → h.start.index ≤ g.start.index → is_live limit m h ≡ true → is_live limit m g ≡ true
  live_too h g e l t =
      let p = and_parts _ _ t in
      let q : m.line ≡ h.start.line = eqb-true _ _ p.0 in
      let r : m.index ≤ h.start.index + limit = leb-true _ _ p.1 in
      let s : m.line ≡ g.start.line = omega arith in
      let u : m.index ≤ g.start.index + limit = omega arith in
      and_from _ _ (eq-eqb _ _ s) (le-leb _ _ u)

  -- after the first live one all are live
  pub swept_front : (os hs : List (Option Held)) (n : ℕ) (h : Held) → AreNested os → ((k : ℕ) (g : Held) → slice_get hs k ≡ Some (Some g) → slice_get os k ≡ Some (Some g))
      → AreEmptyBelow n hs → slice_get hs n ≡ Some (Some h) → is_live limit m h ≡ true → map (still_held limit m) hs ≡ hs
  swept_front os hs n h N F b e t = swept_live hs (λ k g f. elim (cases_lt k n) [
    | inl l ↦ absurd (b k g l f)
    | inr l ↦ elim (cases_eq k n) [
      | inl q ↦ (let u : slice_get hs n ≡ Some (Some g) = sym (ap (λ (i : ℕ). slice_get hs i) q) ∙ f in let v : h ≡ g = same h g (sym e ∙ u) in rw (← v) t)
      | inr q ↦ (let w = N n k h g (omega arith) (F n h e) (F k g f) in live_too h g w.0 w.1 t)
    ]
  ])
    where
      same : (a b : Held) → Some (Some a) ≡ Some (Some b) → a ≡ b
      same a b q = cc

  live_at : (o : Option Held) → is_some (still_held limit m o) ≡ true → (h : Held) × (o ≡ Some h) × (is_live limit m h ≡ true)
  live_at None e = absurd (false≢true e)
  live_at (Some h) e = elim (cases_Bool (is_live limit m h)) [
    | inl t ↦ (h, refl, t)
    | inr t ↦ absurd (false≢true (rw t at e))
  ]

  -- so the sweep ends at a slot that holds one
  pub swept_to : (os hs : List (Option Held)) (n : ℕ) (o : Option Held) → AreNested os → ((k : ℕ) (g : Held) → slice_get hs k ≡ Some (Some g) → slice_get os k ≡ Some (Some g))
      → AreEmptyBelow n hs → slice_get hs n ≡ Some o → is_some (still_held limit m o) ≡ true → (map (still_held limit m) hs ≡ hs) × (n ≡ empty_slots hs)
  swept_to os hs n o N F b e t =
      let q = live_at o t in
      let f : slice_get hs n ≡ Some (Some q.0) = e ∙ ap Some q.1 in
      (swept_front os hs n q.0 N F b f q.2, empty_held n hs q.0 b f)

  pub swept_all : (hs : List (Option Held)) (n : ℕ) → AreEmptyBelow n hs → length hs ≤ n → map (still_held limit m) hs ≡ hs
  swept_all hs n b l = swept_live hs (λ k g f. absurd (b k g (let w = within hs k g f in omega arith) f))
    where
      within : (hs : List (Option Held)) (k : ℕ) (g : Held) → slice_get hs k ≡ Some (Some g) → k < length hs
      within [] k g f = nothing_some g f
      within (x ∷ hs) zero g f = omega arith
      within (x ∷ hs) (suc k) g f = let r = within hs k g f in omega arith

-- THE NEXT DEPTH
pub get-append : (xs ys : List (Option Held)) (k : ℕ) → k < length xs → slice_get (xs ++ ys) k ≡ slice_get xs k
get-append [] ys k l = absurd (omega arith)
get-append (x ∷ xs) ys zero l = refl
get-append (x ∷ xs) ys (suc k) l = get-append xs ys k (omega arith)

get-take : (xs : List (Option Held)) (n k : ℕ) (h : Held) → slice_get (take n xs) k ≡ Some (Some h) → slice_get xs k ≡ Some (Some h)
get-take xs zero k h e = nothing_some h e
get-take [] (suc n) k h e = nothing_some h e
get-take (x ∷ xs) (suc n) zero h e = e
get-take (x ∷ xs) (suc n) (suc k) h e = get-take xs n k h e

pub nested_empty : (kind : Kind) (hs : List (Option Held)) (top : Option Held) → AreEmptyBelow (empty_slots hs) (nested_outer kind hs top)
nested_empty kind hs top = elim (cases_Bool (is_flow_start kind)) [
  | inl s ↦ rw s (λ k h l e. below_empty hs k h l (sym (get-append hs (top ∷ []) k (let w = empty_within hs in omega arith)) ∙ e))
  | inr s ↦ elim (cases_Bool (is_flow_end kind)) [
    | inl t ↦ rw (s, t) (λ k h l e. below_empty hs k h l (get-take hs (length hs - 1) k h e))
    | inr t ↦ rw (s, t) (below_empty hs)
  ]
]
