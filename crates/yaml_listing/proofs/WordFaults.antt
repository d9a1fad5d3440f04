-- Two or three words of which none is wrong spell a command; and what holds of three words and any after them.
use Rattle.std.proofs.Common.{◌≡◌, ◌≢◌, ◌≤◌, ℕ, List, [], ◌∷◌, length, map, refl, subst, inl, inr, arith, slice_index_or}
use Rattle.std.specs.Prelude.{codes}
use Rattle.yaml_listing.specs.WordFault.{IsCommand, IsSetting, IsLimit, Spells}
use Rattle.yaml_listing.specs.declared.args.yaml_command_t.TheVariants.{Decode, Scan, ScanLimit}

-- a command other than `calls` has no word more
pub two_spell :
    (command setting : List ℕ) → IsCommand command → IsSetting setting → command ≢ codes "calls"
    → Spells (command ∷ setting ∷ [])
two_spell command setting (inl scan) s n =
    let named = s.1 in
    inl (Scan s.0, record { words_are = cc; right = refl })
two_spell command setting (inr (inl calls)) s n = absurd (n calls)
two_spell command setting (inr (inr (inl decode))) s n =
    let named = s.1 in
    inl (Decode s.0, record { words_are = cc; right = refl })
two_spell command setting (inr (inr (inr follow))) s n =
    let named = s.1 in
    inr (s.0, cc)

-- a key limit after `scan`
pub limit_spells :
    (command setting word : List ℕ) → command ≡ codes "scan" → IsSetting setting → IsLimit word
    → Spells (command ∷ setting ∷ word ∷ [])
limit_spells command setting word scan s l =
    let named = s.1 in
    let spelled = l.2 in
    inl (ScanLimit s.0 l.0, record { words_are = cc; right = l.1 })

-- what holds of three texts and any texts after them holds of those of a list that begins with these items
pub begins_so :
    {A : Type 0} (bytes : A → List ℕ) (P : List (List ℕ) → Type 0) (items : List A) (a b c : A) (at bt ct : List ℕ)
    → 4 ≤ length items → a ≡ slice_index_or items 0 a → b ≡ slice_index_or items 1 b → c ≡ slice_index_or items 2 c
    → at ≡ bytes a → bt ≡ bytes b → ct ≡ bytes c → ((rest : List (List ℕ)) → P (at ∷ bt ∷ ct ∷ rest))
    → P (map bytes items)
begins_so bytes P [] a b c at bt ct l p q r e f g h = absurd (omega arith)
begins_so bytes P (x ∷ []) a b c at bt ct l p q r e f g h = absurd (omega arith)
begins_so bytes P (x ∷ y ∷ []) a b c at bt ct l p q r e f g h = absurd (omega arith)
begins_so bytes P (x ∷ y ∷ z ∷ rest) a b c at bt ct l p q r e f g h =
    let first : a ≡ x = p in
    let second : b ≡ y = q in
    let third : c ≡ z = r in
    let same : (at ∷ bt ∷ ct ∷ map bytes rest) ≡ (bytes x ∷ bytes y ∷ bytes z ∷ map bytes rest) = cc in
    subst P same (h (map bytes rest))
