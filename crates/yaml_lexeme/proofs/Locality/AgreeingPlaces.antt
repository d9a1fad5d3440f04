-- Places that agree on their next characters are one place, or have that many characters.
use Rattle.std.proofs.Common.{◌≡◌, ℕ, zero, suc, ◌<◌, ◌≤◌, List, [], ◌∷◌, length, slice_get, Some, None, refl, sym, ap, ◌∙◌, arith, inl, inr}
use Rattle.std.specs.Prelude.{◌⊎◌, slice_index}
use Rattle.yaml_text.specs.declared.types.yaml_mark_t.{yaml_mark_t}
use Rattle.yaml_lexeme.specs.Locality as spec
use Rattle.yaml_lexeme.specs.Place.{Place, peek}

-- two places with the same mark and the same n characters next
pub record Agree (n : ℕ) (p q : Place) : Type 0 where
  pub mark : p.mark ≡ q.mark
  pub left : n ≤ length p.rest
  pub right : n ≤ length q.rest
  pub same : (i : ℕ) → i < n → peek p i ≡ peek q i

none_some : {y : ℕ} → None ≡ Some y → ⊥
none_some e = cc

some_none : {y : ℕ} → Some y ≡ None → ⊥
some_none e = cc

pub some_same : {x y : ℕ} → Some x ≡ Some y → x ≡ y
some_same e = cc

-- texts that agree below m are the same, or both go on to there
pub same_or_long : (m : ℕ) (a b : List ℕ) → ((i : ℕ) → i < m → slice_get a i ≡ slice_get b i) → (a ≡ b) ⊎ ((m ≤ length a) × (m ≤ length b))
same_or_long zero a b s = inr (omega arith, omega arith)
same_or_long (suc m) [] [] s = inl refl
same_or_long (suc m) [] (y ∷ b) s = absurd (none_some (s 0 (omega arith)))
same_or_long (suc m) (x ∷ a) [] s = absurd (some_none (s 0 (omega arith)))
same_or_long (suc m) (x ∷ a) (y ∷ b) s = elim (same_or_long m a b (λ i l. s (suc i) (omega arith))) [
  | inl e ↦ inl (ap (λ (z : ℕ). z ∷ a) (some_same (s 0 (omega arith))) ∙ ap (λ (z : List ℕ). y ∷ z) e)
  | inr l ↦ inr (omega (arith, l.0), omega (arith, l.1))
]

pub get_index : (xs : List ℕ) (i : ℕ) → i < length xs → slice_get xs i ≡ Some (slice_index xs i)
get_index [] i l = absurd (omega arith)
get_index (x ∷ xs) zero l = refl
get_index (x ∷ xs) (suc i) l = get_index xs i (omega arith)

same_place : (p q : Place) → p.mark ≡ q.mark → p.rest ≡ q.rest → p ≡ q
same_place p q m e =
    let at : yaml_mark_t → List ℕ → Place = λ x r. record { mark = x; rest = r } in
    ap (λ (x : yaml_mark_t). at x p.rest) m ∙ ap (λ (r : List ℕ). at q.mark r) e

-- places that agree are one place, or have n characters in common
pub by_agreeing : (n : ℕ) (p q : Place) → spec.Agree n p q → (p ≡ q) ⊎ Agree n p q
by_agreeing n p q a = elim (same_or_long n p.rest q.rest a.same) [
  | inl e ↦ inl (same_place p q a.mark e)
  | inr l ↦ inr (record { mark = a.mark; left = l.0; right = l.1; same = λ i h. some_same (sym (get_index p.rest i (omega (arith, l.0))) ∙ a.same i h ∙ get_index q.rest i (omega (arith, l.1))) })
]
