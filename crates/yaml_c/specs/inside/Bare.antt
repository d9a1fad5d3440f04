-- Tokens that say nothing besides their type.
use Rattle.std.specs.Prelude.{◌≡◌, ℕ, [], pos, false, None}
use Rattle.yaml_text.specs.declared.types.yaml_mark_t.{yaml_mark_t}
use Rattle.yaml_text.specs.declared.types.yaml_token_type_t.{yaml_token_type_t}
use Rattle.yaml_text.specs.Token.{TokenData, type_of}
use Rattle.yaml_text.specs.Types.{token_type_number}
use Rattle.yaml_scan.specs.TokenTypes.{is_last_type}
use Rattle.yaml_c.specs.Record.{detail_of, first_text, held, major_of, mark_of, minor_of, second_text, sign_len}
use Rattle.yaml_c.specs.Spelled.{nowhere}
use Rattle.yaml_c.specs.declared.record.bogzhami_token.{bogzhami_token}

-- Its record has zeros and no place in the input, and it has no texts. It is not the stream end.
pub record IsBare (d : TokenData) : Type 0 where
  pub first : first_text d ≡ []
  pub second : second_text d ≡ []
  pub detail : detail_of d ≡ 0
  pub major : major_of d ≡ pos 0
  pub minor : minor_of d ≡ pos 0
  pub no_value : sign_len d ≡ None
  pub goes_on : is_last_type (type_of d) ≡ false

-- a record of the type and the marks of a token, and of nothing else that it says
abbrev pub with_marks : ℕ → yaml_token_type_t → yaml_mark_t → yaml_mark_t → bogzhami_token
with_marks at kind start end = record {
  token_type = token_type_number kind;
  detail = 0;
  major = pos 0;
  minor = pos 0;
  text_at = held at;
  first_len = 0;
  second_len = 0;
  start_mark = mark_of start;
  end_mark = mark_of end;
  input_at = nowhere;
}
