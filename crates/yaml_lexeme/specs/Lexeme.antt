-- Lexemes, and what they are made of.
use Rattle.std.specs.Prelude.{ℕ, Bool, false, List}
use Rattle.yaml_text.specs.declared.types.yaml_mark_t.{yaml_mark_t}
use Rattle.yaml_text.specs.declared.types.yaml_scalar_style_t.{yaml_scalar_style_t}
use Rattle.yaml_text.specs.Token.{TokenData}
use Rattle.yaml_text.specs.Token.TokenData.{SCALAR}
use Rattle.yaml_lexeme.specs.Place.{Place}
use Rattle.yaml_lexeme.specs.Reading.{Read, found, ◌>>=◌}

-- A lexeme: what its token says, the mark of its start and the mark after it.
pub record Lexeme : Type 0 where
  pub token_data : TokenData
  pub start_mark : yaml_mark_t
  pub end_mark : yaml_mark_t
  -- the mark up to which was read for it
  pub reach : yaml_mark_t
  -- of a plain scalar, whether a break is in its trailing separator
  pub passed_break : Bool

-- A scalar: the bytes of its value, and the mark after its last character.
pub record Scalar : Type 0 where
  pub value : List ℕ
  pub end : yaml_mark_t
  -- whether a break is in the separator after it
  pub passed_break : Bool

-- A directive: what it says, and the mark after that.
pub record Directive : Type 0 where
  pub says : TokenData
  pub end : yaml_mark_t

-- MAKING THEM

-- what was read at p, as the lexeme that `make` makes of p's mark, of the value, and of the mark after it
abbrev pub lexeme : {A : Type 0} → (yaml_mark_t → A → yaml_mark_t → Lexeme) → Place → Read A → Read Lexeme
lexeme make p r = r >>= λ x. found (make p.mark x.value x.end.mark) x.end

-- what ends where its token ends
abbrev pub whole_of : TokenData → yaml_mark_t → yaml_mark_t → Lexeme
whole_of says start end =
    record { token_data = says; start_mark = start; end_mark = end; reach = end; passed_break = false }

-- the same of a value, which `says` makes the token's data of
abbrev pub whole : {A : Type 0} → (A → TokenData) → yaml_mark_t → A → yaml_mark_t → Lexeme
whole says start value end = whole_of (says value) start end

-- a plain or block scalar, after whose token more is read
abbrev pub scalar_to : yaml_scalar_style_t → yaml_mark_t → Scalar → yaml_mark_t → Lexeme
scalar_to style start s reach = record {
  token_data = SCALAR s.value style;
  start_mark = start;
  end_mark = s.end;
  reach = reach;
  passed_break = s.passed_break;
}

-- a directive, after whose token the rest of the line is read
abbrev pub directive_to : yaml_mark_t → Directive → yaml_mark_t → Lexeme
directive_to start d reach =
    record { token_data = d.says; start_mark = start; end_mark = d.end; reach = reach; passed_break = false }
