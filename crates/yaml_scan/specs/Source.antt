-- What is read of a text, place by place. A place is the number of characters before it.
use Rattle.std.specs.Prelude.{ℕ, Bool, Option, Result}
use Rattle.yaml_text.specs.Fault.{Fault}
use Rattle.yaml_text.specs.declared.types.yaml_mark_t.{yaml_mark_t}
use Rattle.yaml_scan.specs.Kind.{Kind}
use Rattle.yaml_scan.specs.Token.{unnamed_yaml_token_t_data}

-- a lexeme of a kind from a start on
pub record Reading : Type 0 where
  pub token_data : unnamed_yaml_token_t_data
  pub end : yaml_mark_t
  pub reach : yaml_mark_t
  -- the place of the reach
  pub place : ℕ
  pub passed_break : Bool

-- what is wrong with a lexeme
pub record Offence : Type 0 where
  pub fault : Fault
  -- the place of its problem
  pub place : ℕ

-- what a step asks of a text
pub record Source : Type 0 where
  -- how many characters the text has
  pub size : ℕ
  -- the mark of a place
  pub mark : ℕ → yaml_mark_t
  -- where a gap ends: in flow or not, a key allowed before it or not, from a place on
  pub gap : Bool → Bool → ℕ → ℕ
  -- the kind of lexeme, in flow or not, that starts at a place
  pub kind : Bool → ℕ → Option Kind
  -- the lexeme of a kind, at a depth and a level, from a place on, or its offence
  pub read : Kind → ℕ → Option ℕ → ℕ → Result Reading Offence
