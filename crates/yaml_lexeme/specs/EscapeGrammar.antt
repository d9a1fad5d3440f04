-- What the texts of escapes in double quotes are made of (YAML 1.1, 5.6 Escape Sequences).
use Rattle.std.specs.Prelude.{ℕ, ◌≡◌, ◌↔◌, ◌⊎◌, ◌<◌, true, false, List, ◌∷◌, ◌++◌, length, Some, None, Ok, Err}
use Rattle.std.specs.List.{list_all}
use Rattle.std.specs.Str.Parse.{digits_value}
use Rattle.yaml_text.specs.Classes.{is_hex}
use Rattle.yaml_lexeme.specs.declared.problem.yaml_problem_t.TheVariants.{UNKNOWN_ESCAPE, NO_HEX_DIGIT, NO_SCALAR_VALUE}
use Rattle.yaml_lexeme.specs.Escape.{backslash, simple_escape, hex_len, escape}
use Rattle.yaml_text.specs.Utf8.{is_scalar}
use Rattle.yaml_lexeme.specs.Grammar.{LongestRun}
use Rattle.yaml_lexeme.specs.Place.{Place, peek, first, skip}
use Rattle.yaml_lexeme.specs.Reading.{Offence, Found}

-- the next n characters are hex digits
pub record HexDigits (p : Place) (n : ℕ) (digits : List ℕ) : Type 0 where
  pub joined : p.rest ≡ digits ++ (skip n p).rest
  pub count : length digits ≡ n
  pub all : list_all is_hex digits ≡ true

-- a backslash and a character that stands for one
pub record SimpleEscape (p : Place) (f : Found ℕ) : Type 0 where
  pub sign : ℕ
  pub text : p.rest ≡ backslash ∷ sign ∷ f.end.rest
  pub gives : simple_escape sign ≡ Some f.value
  pub end : f.end ≡ skip 2 p

-- a backslash, `x`, `u` or `U`, and the 2, 4 or 8 hex digits of a character
pub record HexEscape (p : Place) (f : Found ℕ) : Type 0 where
  pub sign : ℕ
  pub digits : List ℕ
  pub text : p.rest ≡ (backslash ∷ sign ∷ digits) ++ f.end.rest
  pub some : 0 < hex_len sign
  pub hex : HexDigits (skip 2 p) (hex_len sign) digits
  pub value : f.value ≡ digits_value 16 digits
  pub scalar : is_scalar f.value ≡ true
  pub end : f.end ≡ skip (hex_len sign) (skip 2 p)

abbrev pub EscapeIsParts : Type 0
EscapeIsParts = (p : Place) (f : Found ℕ) → first p ≡ backslash →
    (escape p ≡ Ok f) ↔ (SimpleEscape p f ⊎ HexEscape p f)

-- the first of these that the text does not give: a character after the backslash that begins an escape, as many hex
-- digits as it needs, and a character that these spell
pub data EscapeRefused (p : Place) (e : Offence) : Type 0 where
  unknown : hex_len (peek p 1) ≡ 0 → simple_escape (peek p 1) ≡ None → e.problem ≡ UNKNOWN_ESCAPE → e.at ≡ p
      → EscapeRefused p e
  few_digits : (digits : Found (List ℕ)) → LongestRun is_hex (skip 2 p) digits.value digits.end
      → length digits.value < hex_len (peek p 1) → e.problem ≡ NO_HEX_DIGIT → e.at ≡ skip 2 p → EscapeRefused p e
  no_character : (digits : List ℕ) → 0 < hex_len (peek p 1) → HexDigits (skip 2 p) (hex_len (peek p 1)) digits
      → is_scalar (digits_value 16 digits) ≡ false → e.problem ≡ NO_SCALAR_VALUE → e.at ≡ skip 2 p → EscapeRefused p e

abbrev pub EscapeIsRefused : Type 0
EscapeIsRefused = (p : Place) (e : Offence) → (escape p ≡ Err e) ↔ EscapeRefused p e
