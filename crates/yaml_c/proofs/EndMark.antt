-- The mark at a text's end is that after all its characters.
use Rattle.std.proofs.Common.{◌≡◌, ℕ, List, [], length, drop, sym, ap, ◌∙◌, subst, arith}
use Rattle.std.proofs.Math.Bool.{and-false}
use Rattle.std.proofs.Math.Seq.{take-length, drop-length}
use Rattle.yaml_text.specs.declared.types.yaml_mark_t.{yaml_mark_t}
use Rattle.yaml_text.specs.Chars.{utf8}
use Rattle.yaml_text.specs.Mark.{IsPlaceAt, mark_at, mark_of}

-- a text's end is a place
pub IsPlaceAt-end : (cs : List ℕ) → IsPlaceAt cs (length (utf8 cs)) (length cs)
IsPlaceAt-end cs =
    let none : drop (length cs) cs ≡ [] = drop-length cs in
    record {
      within = omega arith;
      index_is = ap (λ l. length (utf8 l)) (sym (take-length cs));
      whole = rw none (and-false _);
    }

-- the mark at that place is the one after all characters
pub mark_at-end : (cs bytes : List ℕ) (m : yaml_mark_t) → bytes ≡ utf8 cs
    → ((p : ℕ) → IsPlaceAt cs (length bytes) p → m ≡ mark_at cs p) → m ≡ mark_of cs
mark_at-end cs bytes m e h =
    let end = subst (λ (b : List ℕ). IsPlaceAt cs (length b) (length cs)) (sym e) (IsPlaceAt-end cs) in
    h (length cs) end ∙ ap mark_of (take-length cs)
