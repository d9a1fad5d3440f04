-- Characters with a byte after them that no text has are refused for that byte.
use Rattle.std.proofs.Common.{◌≡◌, ℕ, ◌+◌, List, [], ◌∷◌, length, Some, refl, sym, ap, ◌∙◌, subst, arith, zero-add}
use Rattle.std.specs.Char.{len_utf8}
use Rattle.std.proofs.lemmas.Str.{len_utf8_bounds}
use Rattle.yaml_text.specs.declared.types.yaml_encoding_t.TheVariants.{YAML_UTF8_ENCODING}
use Rattle.yaml_text.specs.Chars.{utf8}
use Rattle.yaml_text.specs.TextBytes.{AreChars}
use Rattle.yaml_text.specs.Decode.{front, refusal, refusal_of}
use Rattle.yaml_text.specs.Decoding.{BeginsWithNone, IsFront}
use Rattle.yaml_text.specs.Pieces.{StandsIn, fault_to_come, stand_in}
use Rattle.yaml_text.specs.Utf8.{width_of}
use Rattle.yaml_text.proofs.Characters.CharRanges.{char_range}
use Rattle.yaml_text.proofs.Characters.Utf8Spelling.{Stands, stands}
use Rattle.yaml_text.proofs.Decodings.DecodeReadings.{one_front}
use Rattle.yaml_text.proofs.Decodings.DecodeResults.{front_is}

none_begins : BeginsWithNone YAML_UTF8_ENCODING (0xFF ∷ [])
none_begins c ok begins =
    let r = char_range c ok in
    let s : Stands (0xFF ∷ []) c = subst (λ (x : List ℕ). Stands x c) (sym begins.1) (stands c begins.0 (omega (arith, r.1))) in
    let w : width_of 0xFF ≡ len_utf8 c = s.width in
    absurd (omega (arith, w, len_utf8_bounds c))

front_of : (cs : List ℕ) → AreChars cs → IsFront YAML_UTF8_ENCODING (stand_in cs) cs (0xFF ∷ [])
front_of cs each = record { parts = refl; each = each; longest = none_begins }

pub stands_in : StandsIn
unfolding front refusal
stands_in cs each =
    let same = one_front _ _ _ _ _ _ (front_is YAML_UTF8_ENCODING (stand_in cs)) (front_of cs each) in (
      λ k. record { encoding = YAML_UTF8_ENCODING; chars = same.0 k },
      (λ k. refusal_of YAML_UTF8_ENCODING (0 + length (utf8 (same.0 k))) (same.1 k)) ∙ ap (λ (n : ℕ). Some (fault_to_come n)) (zero-add (length (utf8 cs))),
    )
