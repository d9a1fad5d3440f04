-- Lexemes, as the layout sees them, and in their setting: what the lexemes before one make of it. Lists of lexemes are
-- newest first, so the lexemes before one are its tail.
use Rattle.std.specs.Prelude.{ℕ, Bool, true, false, List, [], ◌∷◌, nat_eq, Option, Some, None}
use Rattle.yaml_text.specs.declared.types.yaml_mark_t.{yaml_mark_t}
use Rattle.yaml_scan.specs.Kind.{Kind}
use Rattle.yaml_scan.specs.Token.{unnamed_yaml_token_t_data, zero_mark}

-- a lexeme
pub record Lexeme : Type 0 where
  pub kind : Kind
  pub token_data : unnamed_yaml_token_t_data
  -- the mark of the end of the gap before it
  pub gap_end : yaml_mark_t
  pub start : yaml_mark_t
  pub end : yaml_mark_t
  -- how far was read for it
  pub reach : yaml_mark_t
  -- how many characters of the text are before its reach
  pub place : ℕ
  -- of a plain scalar, whether a break is in its trailing separator
  pub passed_break : Bool

-- a lexeme in its setting
pub record Laid : Type 0 where
  pub lexeme : Lexeme
  -- how many lexemes are before it
  pub number : ℕ
  -- the depth at which it is read
  pub depth : ℕ
  -- whether a key is allowed at it
  pub key_allowed : Bool
  -- the candidate that it completes, by its number
  pub completed : Option ℕ
  -- the greatest level that is open at it
  pub level : Option ℕ
  -- the columns that it closes, greatest first
  pub closed : List ℕ

-- the column of its start
abbrev pub column : Laid → ℕ
column i = i.lexeme.start.column

-- whether it is not there
abbrev pub is_none : {A : Type 0} → Option A → Bool
is_none None = true
is_none (Some a) = false

-- the number is there, and is this one
abbrev pub names : ℕ → Option ℕ → Bool
names n None = false
names n (Some m) = nat_eq m n

-- how far the last lexeme was read
abbrev pub reach : List Laid → yaml_mark_t
reach [] = zero_mark
reach (i ∷ H) = i.lexeme.reach
