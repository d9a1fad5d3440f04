-- The bytes that came so far of an input: what no bytes after them can change.
use Rattle.std.specs.Prelude.{◌≡◌, ℕ, ◌+◌, ◌≤◌, Bool, true, false, not, nat_le, List, [], ◌∷◌, ◌++◌, take, drop, length}
use Rattle.std.specs.Prelude.{Some, None}
use Rattle.yaml_text.specs.declared.types.yaml_encoding_t.{yaml_encoding_t}
use Rattle.yaml_text.specs.declared.types.yaml_encoding_t.TheVariants.{YAML_ANY_ENCODING, YAML_UTF8_ENCODING}
use Rattle.yaml_text.specs.declared.offence.problem_t.{problem_t}
use Rattle.yaml_text.specs.declared.offence.problem_t.TheVariants.{SHORT, HALF_UNIT, HALF_PAIR}
use Rattle.yaml_text.specs.Chars.{utf8}
use Rattle.yaml_text.specs.TextBytes.{AreChars, IsText}
use Rattle.yaml_text.specs.Utf8.{offence8}
use Rattle.yaml_text.specs.Fault.{Fault, reader_fault}
use Rattle.yaml_text.specs.Decode.{bom_len, encoding_of, front, front_len, offence, refusal}
use Rattle.yaml_text.specs.Kept.{KeptText}

-- What is to come does not change the encoding, nor which bytes are the byte order mark.
abbrev pub is_known : yaml_encoding_t → List ℕ → Bool
is_known YAML_ANY_ENCODING given = nat_le 3 (length given)
is_known setting given = true

-- What ends too soon may be the beginning of a character, once more bytes came.
abbrev pub ends_too_soon : problem_t → Bool
ends_too_soon SHORT = true
ends_too_soon HALF_UNIT = true
ends_too_soon HALF_PAIR = true
ends_too_soon problem = false

-- Bytes that begin with no character, whatever comes after them.
abbrev pub breaks : yaml_encoding_t → List ℕ → Bool
breaks e [] = false
breaks e (b ∷ bytes) = not (ends_too_soon (offence e (b ∷ bytes)).problem)

-- Something is wrong after the front that no bytes can mend.
abbrev pub is_broken : yaml_encoding_t → List ℕ → Bool
is_broken setting given = breaks (encoding_of setting given) (drop (front_len setting given) given)

-- It is wrong of every input that goes on from there, in the same place and after the same front.
abbrev pub StaysBroken : Type 0
StaysBroken = (setting : yaml_encoding_t) (given more : List ℕ) → is_known setting given ≡ true
    → is_broken setting given ≡ true → (front setting (given ++ more) ≡ front setting given)
    × (refusal setting (given ++ more) ≡ refusal setting given)

-- k keeps a beginning of the front of these bytes, which are in UTF-8.
pub record IsBegunOf (setting : yaml_encoding_t) (given : List ℕ) (k : KeptText) : Type 0 where
  pub utf8 : encoding_of setting given ≡ YAML_UTF8_ENCODING
  pub encoding : k.encoding ≡ YAML_UTF8_ENCODING
  pub own : k.own ≡ None
  pub start : k.start ≡ bom_len setting given
  pub text : IsText (take k.len (drop k.start given))
  pub within : k.start + k.len ≤ length given

-- The bytes of characters, and then one that no text has: it stands for what is to come.
abbrev pub stand_in : List ℕ → List ℕ
stand_in cs = utf8 cs ++ 0xFF ∷ []

-- The fault of that byte, n bytes into the input.
abbrev pub fault_to_come : ℕ → Fault
fault_to_come n = reader_fault n (offence8 (0xFF ∷ []))

-- The characters are the front of such bytes, and what is wrong with them is the byte after that.
abbrev pub StandsIn : Type 0
StandsIn = (cs : List ℕ) → AreChars cs
    → (front YAML_UTF8_ENCODING (stand_in cs) ≡ record { encoding = YAML_UTF8_ENCODING; chars = cs })
    × (refusal YAML_UTF8_ENCODING (stand_in cs) ≡ Some (fault_to_come (length (utf8 cs))))
