-- What the text of a block scalar's header, and that of the rest of a line, are made of (YAML 1.1, 9.2 Block Scalar
-- Header).
use Rattle.std.specs.Prelude.{ℕ, ◌≡◌, ◌↔◌, ◌⊎◌, ◌-◌, true, false, ◌==◌, List, [], ◌++◌, Some, None, Ok, Err}
use Rattle.yaml_text.specs.Classes.{is_blank, is_digit}
use Rattle.yaml_text.specs.ClassCalls.{is_breakz}
use Rattle.yaml_lexeme.specs.declared.block.chomp_t.TheVariants.{CLIP}
use Rattle.yaml_lexeme.specs.declared.block.header_t.{header_t}
use Rattle.yaml_lexeme.specs.declared.problem.yaml_problem_t.TheVariants.{INDICATOR_ZERO, NO_COMMENT_OR_BREAK}
use Rattle.yaml_lexeme.specs.Block.{is_sign, sign_of, header_of, header_at, after_line}
use Rattle.yaml_lexeme.specs.Classes.{is_in_line}
use Rattle.yaml_lexeme.specs.Grammar.{LongestRun}
use Rattle.yaml_lexeme.specs.Place.{Place, peek, first, skip, break_len}
use Rattle.yaml_lexeme.specs.Reading.{Offence, Found}

-- a digit from 1 to 9
pub record IndentDigit (c : ℕ) : Type 0 where
  pub digit : is_digit c ≡ true
  pub some : (c == 0x30) ≡ false

-- A header: a sign and a digit in either order, one of them, or neither.
pub data HeaderParts (p : Place) (f : Found header_t) : Type 0 where
  sign_alone : is_sign (first p) ≡ true → is_digit (peek p 1) ≡ false
      → f.value ≡ header_of (sign_of (first p)) None → f.end ≡ skip 1 p → HeaderParts p f
  sign_digit : is_sign (first p) ≡ true → IndentDigit (peek p 1)
      → f.value ≡ header_of (sign_of (first p)) (Some (peek p 1 - 0x30)) → f.end ≡ skip 2 p → HeaderParts p f
  digit_sign : IndentDigit (first p) → is_sign (peek p 1) ≡ true
      → f.value ≡ header_of (sign_of (peek p 1)) (Some (first p - 0x30)) → f.end ≡ skip 2 p → HeaderParts p f
  digit_alone : IndentDigit (first p) → is_sign (peek p 1) ≡ false
      → f.value ≡ header_of CLIP (Some (first p - 0x30)) → f.end ≡ skip 1 p → HeaderParts p f
  neither : is_sign (first p) ≡ false → is_digit (first p) ≡ false → f.value ≡ header_of CLIP None → f.end ≡ p
      → HeaderParts p f

-- the digit is 0, at p or after a sign
pub data HeaderRefused (p : Place) (e : Offence) : Type 0 where
  zero_first : first p ≡ 0x30 → e.problem ≡ INDICATOR_ZERO → e.at ≡ p → HeaderRefused p e
  zero_second : is_sign (first p) ≡ true → peek p 1 ≡ 0x30 → e.problem ≡ INDICATOR_ZERO → e.at ≡ skip 1 p
      → HeaderRefused p e

abbrev pub HeaderIsParts : Type 0
HeaderIsParts = (p : Place) (f : Found header_t) → (header_at p ≡ Ok f) ↔ HeaderParts p f

abbrev pub HeaderIsRefused : Type 0
HeaderIsRefused = (p : Place) (e : Offence) → (header_at p ≡ Err e) ↔ HeaderRefused p e

-- a comment from `#` up to a break or the end, or nothing
abbrev pub CommentText : Place → Found (List ℕ) → Type 0
CommentText p f =
    ((first p ≡ 0x23) × LongestRun is_in_line p f.value f.end)
    ⊎ (((first p == 0x23) ≡ false) × (f.value ≡ []) × (f.end ≡ p))

-- The rest of a line: blanks, a comment, each if there are any, and a break or the end of the text.
pub record LineEnd (p q : Place) : Type 0 where
  pub blanks : Found (List ℕ)
  pub comment : Found (List ℕ)
  pub spaces : LongestRun is_blank p blanks.value blanks.end
  pub comment_is : CommentText blanks.end comment
  pub text : p.rest ≡ blanks.value ++ comment.value ++ comment.end.rest
  pub stops : is_breakz (first comment.end) ≡ true
  pub end : q ≡ skip (break_len comment.end) comment.end

-- neither a comment, nor a break, nor the end comes after the blanks
pub record LineEndRefused (p : Place) (e : Offence) : Type 0 where
  pub blanks : List ℕ
  pub spaces : LongestRun is_blank p blanks e.at
  pub no_comment : (first e.at == 0x23) ≡ false
  pub no_end : is_breakz (first e.at) ≡ false
  pub problem : e.problem ≡ NO_COMMENT_OR_BREAK

abbrev pub LineEndIsParts : Type 0
LineEndIsParts = (p q : Place) → (after_line p ≡ Ok q) ↔ LineEnd p q

abbrev pub LineEndIsRefused : Type 0
LineEndIsRefused = (p : Place) (e : Offence) → (after_line p ≡ Err e) ↔ LineEndRefused p e
