-- Where a value stands in the input as it is.
use Rattle.std.specs.Prelude.{ℕ, ◌+◌, ◌&&◌, nat_eq, nat_le, if◌then◌else◌, List, length, drop, Option, Some, None}
use Rattle.std.specs.List.{starts_with}
use Rattle.yaml_text.specs.declared.types.yaml_encoding_t.{yaml_encoding_t}
use Rattle.yaml_text.specs.declared.types.yaml_encoding_t.TheVariants.{YAML_ANY_ENCODING, YAML_UTF8_ENCODING}
use Rattle.yaml_text.specs.declared.types.yaml_encoding_t.TheVariants.{YAML_UTF16LE_ENCODING, YAML_UTF16BE_ENCODING}
use Rattle.yaml_text.specs.Decode.{bom_len, encoding_of}

-- An input, and how many of its bytes come before its text, unless that is in UTF-16.
pub record Spelled : Type 0 where
  pub input : List ℕ
  pub skipped : Option ℕ

-- a number of bytes, unless the encoding is UTF-16
abbrev pub unless_utf16 : yaml_encoding_t → ℕ → Option ℕ
unless_utf16 YAML_ANY_ENCODING n = Some n
unless_utf16 YAML_UTF8_ENCODING n = Some n
unless_utf16 YAML_UTF16LE_ENCODING n = None
unless_utf16 YAML_UTF16BE_ENCODING n = None

-- What comes before the text is the byte order mark that is dropped.
abbrev pub skipped_of : yaml_encoding_t → List ℕ → Option ℕ
skipped_of setting input = unless_utf16 (encoding_of setting input) (bom_len setting input)

-- an input with its encoding setting
abbrev pub spelled_in : yaml_encoding_t → List ℕ → Spelled
spelled_in setting input = record { input = input; skipped = skipped_of setting input }

-- the greatest number that 64 bits hold, which tells that there is no place
abbrev pub nowhere : ℕ
nowhere = 18446744073709551615

-- a place, if the bytes from there on begin with a value
abbrev pub place_if_there : List ℕ → List ℕ → ℕ → ℕ
place_if_there input value at =
    if nat_le at (length input) && starts_with nat_eq (drop at input) value then at else nowhere

-- the place that comes so many bytes after the text's beginning
abbrev pub place_after : List ℕ → List ℕ → Option ℕ → ℕ → ℕ
place_after input value None index = nowhere
place_after input value (Some skipped) index = place_if_there input value (skipped + index)

-- the place of a value that may stand so many bytes after an index in the text
abbrev pub place_of : Spelled → List ℕ → ℕ → Option ℕ → ℕ
place_of s value index None = nowhere
place_of s value index (Some before) = place_after s.input value s.skipped (index + before)
