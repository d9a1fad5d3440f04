-- What is kept of a text when its input is let go.
use Rattle.std.specs.Prelude.{ℕ, ◌≡◌, ◌+◌, ◌≤◌, List, length, take, drop, Option, unwrap_or}
use Rattle.std.specs.Str.{chars}
use Rattle.yaml_text.specs.declared.types.yaml_encoding_t.{yaml_encoding_t}
use Rattle.yaml_text.specs.TextBytes.{IsText}
use Rattle.yaml_text.specs.Text.{Text}

-- What is kept of it: its own bytes, or the part of the input that it borrows.
pub record KeptText : Type 0 where
  pub encoding : yaml_encoding_t
  pub own : Option (List ℕ)
  pub start : ℕ
  pub len : ℕ

-- Its bytes, in UTF-8.
abbrev pub kept_bytes : KeptText → List ℕ → List ℕ
kept_bytes k input = unwrap_or k.own (take k.len (drop k.start input))

-- It is kept of this text, which was decoded from this input.
pub record IsKeptOf (text : Text) (input : List ℕ) (k : KeptText) : Type 0 where
  pub is : text ≡ record { encoding = k.encoding; chars = chars (kept_bytes k input) }
  pub each : IsText (kept_bytes k input)
  pub within : k.start + k.len ≤ length input
