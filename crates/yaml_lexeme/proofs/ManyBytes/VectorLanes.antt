-- Lanes that flag the bytes that pass a test: 255 for these, and 0 for the others.
use Rattle.std.proofs.Common.{◌≡◌, ◌≤◌, ◌^◌, ◌%◌, ◌||◌, ℕ, Bool, true, false, cond, eqb, List, [], ◌∷◌, map, length}
use Rattle.std.proofs.Common.{replicate, refl, ap, ◌∙◌, arith}
use Rattle.std.proofs.Math.Path.{fun_ext}
use Rattle.std.proofs.lemmas.Simd.{zip2_of_maps, zip2_splat_left, splat_is_map, map-map, mask_l-mod}
use Rattle.std.proofs.lemmas.List.{length-map}
use lib.Bits.{bit_or}
use lib.Lanes.{zip2, mask_l, top}
use Rattle.yaml_lexeme.specs.Classes.{is_one_of}

abbrev flag : Bool → ℕ
flag b = cond b 255 0

abbrev pub Flags : (ℕ → Bool) → List ℕ → List ℕ → Type 0
Flags p v lanes = lanes ≡ map (λ x. flag (p x)) v

flag-or : (a b : Bool) → bit_or (flag a) (flag b) ≡ flag (a || b)
flag-or true true = refl
flag-or true false = refl
flag-or false true = refl
flag-or false false = refl

top-flag : (b : Bool) → top 7 (flag b) ≡ b
top-flag true = refl
top-flag false = refl

pub either_flags : (p q : ℕ → Bool) (v : List ℕ) {a b : List ℕ} → Flags p v a → Flags q v b
    → Flags (λ x. p x || q x) v (zip2 bit_or a b)
either_flags p q v e f =
    zip2_of_maps bit_or (λ x. flag (p x)) (λ x. flag (q x)) v e f
    ∙ ap (λ (h : ℕ → ℕ). map h v) (fun_ext (λ x. flag-or (p x) (q x)))

-- the mask of the flags
pub flags_masked : (p : ℕ → Bool) (v lanes : List ℕ) → length v ≤ 64 → Flags p v lanes
    → mask_l (map (top 7) lanes) % 2 ^ 64 ≡ mask_l (map p v)
flags_masked p v lanes short e =
    let same = ap (λ (h : ℕ → Bool). map h v) (fun_ext (λ x. top-flag (p x))) in
    ap (λ l. mask_l l % 2 ^ 64) (ap (map (top 7)) e ∙ map-map (top 7) (λ x. flag (p x)) v ∙ same)
    ∙ mask_l-mod (map p v) 64 (omega (arith, length-map v p))

-- the lanes that equal one of the bytes, as they are computed
abbrev pub lanes_of : List ℕ → List ℕ → List ℕ
lanes_of [] v = replicate 16 0
lanes_of (y ∷ ys) v = zip2 bit_or (zip2 (λ a b. flag (eqb a b)) (replicate 16 y) v) (lanes_of ys v)

pub lanes_flag : (ys v : List ℕ) → length v ≡ 16 → Flags (is_one_of ys) v (lanes_of ys v)
lanes_flag [] v long = splat_is_map v 16 0 long
lanes_flag (y ∷ ys) v long =
    either_flags (eqb y) (is_one_of ys) v (zip2_splat_left (λ a b. flag (eqb a b)) y 16 v long) (lanes_flag ys v long)
