-- Lists of characters of a text, and bytes that spell one, as laws and contracts of single calls name them.
use Rattle.std.specs.Prelude.{ℕ, ◌≡◌, List, IsTrue}
use Rattle.std.specs.List.{AllByRecursion}
use Rattle.std.specs.Str.{chars}
use Rattle.yaml_text.specs.Chars.{is_char, utf8}

-- A text may hold the character.
abbrev pub IsChar : ℕ → Type 0
IsChar c = IsTrue (is_char c)

-- A text may hold each of them.
abbrev pub AreChars : List ℕ → Type 0
AreChars cs = AllByRecursion IsChar cs

-- The bytes are the UTF-8 of characters of a text, which are `chars bytes`.
pub record IsText (bytes : List ℕ) : Type 0 where
  pub each : AreChars (chars bytes)
  pub spelled : utf8 (chars bytes) ≡ bytes
