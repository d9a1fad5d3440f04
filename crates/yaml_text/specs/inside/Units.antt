-- What was read of UTF-16 so far.
use Rattle.std.specs.Prelude.{ℕ, ◌≡◌, ◌≤◌, Bool, List, ◌++◌, length, take}
use Rattle.std.specs.Str.{chars}
use Rattle.yaml_text.specs.TextBytes.{IsChar, IsText}
use Rattle.yaml_text.specs.Utf16.{spelling16, utf16}

-- The bytes begin with the spelling of c.
abbrev pub Begins16 : Bool → ℕ → List ℕ → Type 0
Begins16 big c bytes = (more : List ℕ) × (bytes ≡ spelling16 big c ++ more)

-- They begin with the spelling of no character.
abbrev pub BeginsWithNone16 : Bool → List ℕ → Type 0
BeginsWithNone16 big bytes = (c : ℕ) → IsChar c → Begins16 big c bytes → ⊥

-- The first bytes, up to a place, spell in UTF-16 what these bytes do in UTF-8.
pub record Reads16 (big : Bool) (bytes text : List ℕ) (at : ℕ) : Type 0 where
  pub within : at ≤ length bytes
  pub is_text : IsText text
  pub spelled : take at bytes ≡ utf16 big (chars text)
