-- What each lexeme of a history knows of those before it, and that starts and reaches are in order.
use Rattle.std.proofs.Common.{◌≡◌, ℕ, ◌+◌, ◌≤◌, ◌<◌, not, true, false, List, [], ◌∷◌, ◌++◌, length, filter, Option, Some, None, refl, ap, sym, ◌∙◌, arith, eq-eqb, le-leb, leb-true, eqb-true, inl, inr}
use Rattle.std.specs.Prelude.{option_map}
use Rattle.std.proofs.lemmas.Bool.{cases_Bool, and_parts, and_from}
use Rattle.yaml_scan.specs.Kind.{is_value, is_stream_end}
use Rattle.yaml_text.specs.declared.types.yaml_mark_t.{yaml_mark_t}
use Rattle.yaml_scan.specs.Laid.{Laid, reach, Lexeme}
use Rattle.yaml_scan.specs.Keys.{candidate, completed_by, only_live, live}
use Rattle.yaml_scan.specs.Depth.{depth}
use Rattle.yaml_scan.specs.Allowed.{allowed}
use Rattle.yaml_scan.specs.Levels.{laid, level, open_columns, keeps}
use Rattle.yaml_scan.specs.Order.{IsNotBefore, Follows, IsHistory}
use Rattle.yaml_scan.proofs.History.KeyCandidates.{none_is_not, some_is}

pub IsHistory-older : (limit : ℕ) (A B : List Laid) → IsHistory limit (A ++ B) → IsHistory limit B
IsHistory-older limit [] B h = h
IsHistory-older limit (i ∷ A) B h = IsHistory-older limit A B h.2

pub laid_number : (limit : ℕ) (H : List Laid) (x : Lexeme) → (laid limit H x).number ≡ length H
unfolding laid
laid_number limit H x = refl

pub laid_depth : (limit : ℕ) (H : List Laid) (x : Lexeme) → (laid limit H x).depth ≡ depth H
unfolding laid
laid_depth limit H x = refl

pub laid_allowed : (limit : ℕ) (H : List Laid) (x : Lexeme) → (laid limit H x).key_allowed ≡ allowed H x.gap_end
unfolding laid
laid_allowed limit H x = refl

pub laid_completed : (limit : ℕ) (H : List Laid) (x : Lexeme) → (laid limit H x).completed ≡ option_map (λ i. i.number) (completed_by limit H x.kind x.start)
unfolding laid
laid_completed limit H x = refl

pub laid_level : (limit : ℕ) (H : List Laid) (x : Lexeme) → (laid limit H x).level ≡ level H x.kind x.start
unfolding laid
laid_level limit H x = refl

pub laid_closed : (limit : ℕ) (H : List Laid) (x : Lexeme) → (laid limit H x).closed ≡ filter (λ c. not (keeps (depth H) x.kind x.start c)) (open_columns H)
unfolding laid
laid_closed limit H x = refl

-- each lexeme is numbered by what is before it
pub number_at : (limit : ℕ) (A : List Laid) (c : Laid) (B : List Laid) → IsHistory limit (A ++ c ∷ B) → c.number ≡ length B
number_at limit A c B h = let r : IsHistory limit (c ∷ B) = IsHistory-older limit A (c ∷ B) h in
    ap (λ (i : Laid). i.number) r.0 ∙ laid_number limit B c.lexeme

pub depth_at : (limit : ℕ) (A : List Laid) (c : Laid) (B : List Laid) → IsHistory limit (A ++ c ∷ B) → c.depth ≡ depth B
depth_at limit A c B h = let r : IsHistory limit (c ∷ B) = IsHistory-older limit A (c ∷ B) h in
    ap (λ (i : Laid). i.depth) r.0 ∙ laid_depth limit B c.lexeme

-- marks
pub IsNotBefore-refl : (a : yaml_mark_t) → IsNotBefore a a
IsNotBefore-refl a = record { index = omega arith; line = omega arith; column = λ e. omega arith }

pub IsNotBefore-trans : (a b c : yaml_mark_t) → IsNotBefore a b → IsNotBefore b c → IsNotBefore a c
IsNotBefore-trans a b c h k = record {
  index = omega arith;
  line = omega arith;
  column = λ e. let p : a.line ≡ b.line = omega arith in let q : b.line ≡ c.line = omega arith in let u = h.column p in let v = k.column q in omega arith;
}

pub to_start : {m : yaml_mark_t} {x : Lexeme} → Follows m x → IsNotBefore m x.start
to_start f = IsNotBefore-trans _ _ _ f.gap_end f.start

pub to_reach : {m : yaml_mark_t} {x : Lexeme} → Follows m x → IsNotBefore x.start x.reach
to_reach f = IsNotBefore-trans _ _ _ f.end f.reach

pub byte_taken : {m : yaml_mark_t} {x : Lexeme} → Follows m x → is_stream_end x.kind ≡ false → x.start.index < x.reach.index
byte_taken f e = let a = f.takes_a_byte e in let b = f.reach.index in omega arith

pub column_taken : {m : yaml_mark_t} {x : Lexeme} → Follows m x → is_stream_end x.kind ≡ false → x.start.line ≡ x.reach.line → x.start.column < x.reach.column
column_taken {x = x} f e l =
    let a = f.end.line in
    let b = f.reach.line in
    let p : x.start.line ≡ x.end.line = omega arith in
    let q : x.end.line ≡ x.reach.line = omega arith in
    let c = f.takes_a_column e p in
    let d = f.reach.column q in
    omega arith

pub start_to_reach : (limit : ℕ) (A : List Laid) (c : Laid) (B : List Laid) → IsHistory limit (A ++ c ∷ B) → IsNotBefore c.lexeme.start (reach (A ++ c ∷ B))
start_to_reach limit [] c B h = (to_reach h.1)
start_to_reach limit (i ∷ A) c B h =
    IsNotBefore-trans _ _ _ (start_to_reach limit A c B h.2) (IsNotBefore-trans _ _ _ (to_start h.1) (to_reach h.1))

-- what is live at a mark was live at an earlier one after its start
pub live_earlier : (limit : ℕ) (c : Laid) (m n : yaml_mark_t) → IsNotBefore c.lexeme.start m → IsNotBefore m n → live limit c n ≡ true → live limit c m ≡ true
live_earlier limit c m n h k l =
    let p = and_parts _ _ l in
    let q : n.line ≡ c.lexeme.start.line = eqb-true _ _ p.0 in
    let r : n.index ≤ c.lexeme.start.index + limit = leb-true _ _ p.1 in
    let s : m.line ≡ c.lexeme.start.line = omega arith in
    let t : m.index ≤ c.lexeme.start.index + limit = omega arith in
    and_from _ _ (eq-eqb _ _ s) (le-leb _ _ t)

-- COMPLETION
pub record IsCompletion (limit : ℕ) (H : List Laid) (x : Lexeme) (c : Laid) : Type 0 where
  pub value : is_value x.kind ≡ true
  pub candidate : candidate H (depth H) ≡ Some c
  pub live : live limit c x.start ≡ true

only_live_is : (limit : ℕ) (m : yaml_mark_t) (o : Option Laid) (c : Laid) → only_live limit m o ≡ Some c → (o ≡ Some c) × (live limit c m ≡ true)
only_live_is limit m None c e = none_is_not None c refl e
only_live_is limit m (Some i) c e = elim (cases_Bool (live limit i m)) [
  | inl l ↦ (let s : Some i ≡ Some c = rw l at e in (s, (let q : c ≡ i = some_is i c s in rw q l)))
  | inr l ↦ none_is_not None c refl (rw l at e)
]

pub completion_is : (limit : ℕ) (H : List Laid) (x : Lexeme) (c : Laid) → completed_by limit H x.kind x.start ≡ Some c → IsCompletion limit H x c
unfolding completed_by
completion_is limit H x c e = elim (cases_Bool (is_value x.kind)) [
  | inl v ↦ (let s : only_live limit x.start (candidate H (depth H)) ≡ Some c = rw v at e in
      let r = only_live_is limit x.start (candidate H (depth H)) c s in
      record { value = v; candidate = r.0; live = r.1 })
  | inr v ↦ none_is_not None c refl (rw v at e)
]

-- what a lexeme completes, by its number
pub record Completed (limit : ℕ) (H : List Laid) (x : Lexeme) (n : ℕ) : Type 0 where
  pub candidate : Laid
  pub number : candidate.number ≡ n
  pub is : IsCompletion limit H x candidate

pub completed_is : (limit : ℕ) (H : List Laid) (i : Laid) (n : ℕ) → i ≡ laid limit H i.lexeme → i.completed ≡ Some n → Completed limit H i.lexeme n
completed_is limit H i n h e = go (completed_by limit H i.lexeme.kind i.lexeme.start) refl
  where
    s : option_map (λ (c : Laid). c.number) (completed_by limit H i.lexeme.kind i.lexeme.start) ≡ Some n
    s = sym (ap (λ (j : Laid). j.completed) h ∙ laid_completed limit H i.lexeme) ∙ e

    go : (o : Option Laid) → completed_by limit H i.lexeme.kind i.lexeme.start ≡ o → Completed limit H i.lexeme n
    go None q = let r : None ≡ Some n = rw q at s in cc
    go (Some c) q = (let r : Some c.number ≡ Some n = rw q at s in
        record { candidate = c; number = cc; is = completion_is limit H i.lexeme c q })
