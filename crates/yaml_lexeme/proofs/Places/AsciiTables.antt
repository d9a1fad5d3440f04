-- A table is held against a definition at each character of ASCII, by computing.
use Rattle.std.proofs.Common.{◌≡◌, ℕ, ◌<◌, Bool, true, false, not, T, eqb, get_or, List, refl, if◌then◌else◌}
use Rattle.std.proofs.lemmas.Bool.{eqb-true}
use Rattle.yaml_text.proofs.ManyBytes.VectorLanes.{upto, upto_sound}

holds : (b : Bool) → T b → b ≡ true
holds true h = refl
holds false h = absurd h

-- a table of numbers
pub table_is : (table : List ℕ) (value : ℕ → ℕ) (c : ℕ) → c < 128 → T (upto (λ k. eqb (get_or table k 0) (value k)) 128) → get_or table c 0 ≡ value c
table_is table value c low all =
    eqb-true _ _ (holds _ (upto_sound (λ k. eqb (get_or table k 0) (value k)) 128 all c low))

abbrev pub same : Bool → Bool → Bool
same a b = if a then b else not b

same_is : (a b : Bool) → T (same a b) → a ≡ b
same_is true true h = refl
same_is true false h = absurd h
same_is false true h = absurd h
same_is false false h = refl

-- a table of yes and no: of 1 and 0
pub table_tells : (table : List ℕ) (test : ℕ → Bool) (c : ℕ) → c < 128 → T (upto (λ k. same (eqb (get_or table k 0) 1) (test k)) 128) → eqb (get_or table c 0) 1 ≡ test c
table_tells table test c low all =
    same_is _ _ (upto_sound (λ k. same (eqb (get_or table k 0) 1) (test k)) 128 all c low)
