-- Tokens as plain records, whose texts are elsewhere.
use Rattle.std.specs.Prelude.{ℕ, ◌+◌, ℤ, pos, List, [], ◌∷◌, ◌++◌, length, min, Option, Some, None}
use Rattle.yaml_text.specs.declared.types.yaml_mark_t.{yaml_mark_t}
use Rattle.yaml_text.specs.declared.types.yaml_scalar_style_t.{yaml_scalar_style_t}
use Rattle.yaml_text.specs.declared.types.yaml_scalar_style_t.TheVariants.{
  YAML_PLAIN_SCALAR_STYLE,
  YAML_SINGLE_QUOTED_SCALAR_STYLE,
  YAML_DOUBLE_QUOTED_SCALAR_STYLE,
}
use Rattle.yaml_text.specs.Token.{Token, TokenData, type_of}
use Rattle.yaml_text.specs.Token.TokenData.{STREAM_START, VERSION_DIRECTIVE, TAG_DIRECTIVE, ALIAS, ANCHOR, TAG, SCALAR}
use Rattle.yaml_text.specs.Types.{token_type_number, scalar_style_number, encoding_number}
use Rattle.yaml_c.specs.Spelled.{Spelled, place_of}
use Rattle.yaml_c.specs.declared.record.bogzhami_mark.{bogzhami_mark}
use Rattle.yaml_c.specs.declared.record.bogzhami_token.{bogzhami_token}

-- A number as 64 bits hold it: itself, or the greatest that they hold if it is greater.
abbrev pub held : ℕ → ℕ
held n = min n 18446744073709551615

-- a mark as a record
abbrev pub mark_of : yaml_mark_t → bogzhami_mark
mark_of m = record { index = m.index; line = m.line; column = m.column }

-- a token's first text: a handle, a name or a value
abbrev pub first_text : TokenData → List ℕ
first_text (TAG_DIRECTIVE handle prefix) = handle
first_text (TAG handle suffix) = handle
first_text (ALIAS value) = value
first_text (ANCHOR value) = value
first_text (SCALAR value style) = value
first_text _ = []

-- its second text: a prefix or a suffix
abbrev pub second_text : TokenData → List ℕ
second_text (TAG_DIRECTIVE handle prefix) = prefix
second_text (TAG handle suffix) = suffix
second_text _ = []

-- the number of a stream's encoding or of a scalar's style
abbrev pub detail_of : TokenData → ℕ
detail_of (STREAM_START encoding) = encoding_number encoding
detail_of (SCALAR value style) = scalar_style_number style
detail_of _ = 0

-- the major number of a version
abbrev pub major_of : TokenData → ℤ
major_of (VERSION_DIRECTIVE major minor) = major
major_of _ = pos 0

-- the minor number of a version
abbrev pub minor_of : TokenData → ℤ
minor_of (VERSION_DIRECTIVE major minor) = minor
minor_of _ = pos 0

-- the texts of a token, the first and then the second
abbrev pub texts_of : Token → List ℕ
texts_of t = first_text t.token_data ++ second_text t.token_data

-- how many bytes a scalar has before its value, if it may stand in the input as it is: a quote, or nothing
abbrev pub quote_len : yaml_scalar_style_t → Option ℕ
quote_len YAML_PLAIN_SCALAR_STYLE = Some 0
quote_len YAML_SINGLE_QUOTED_SCALAR_STYLE = Some 1
quote_len YAML_DOUBLE_QUOTED_SCALAR_STYLE = Some 1
quote_len _ = None

-- how many bytes a token has before its value, if it may stand in the input as it is: a quote, `*`, `&`, or nothing
abbrev pub sign_len : TokenData → Option ℕ
sign_len (ALIAS value) = Some 1
sign_len (ANCHOR value) = Some 1
sign_len (SCALAR value style) = quote_len style
sign_len _ = None

-- where a token's value stands in the input as it is
abbrev pub input_at : Spelled → Token → ℕ
input_at s t = place_of s (first_text t.token_data) t.start_mark.index (sign_len t.token_data)

-- the record of a token of an input, whose texts begin at a place
abbrev pub record_of : Spelled → ℕ → Token → bogzhami_token
record_of s at t = record {
  token_type = token_type_number (type_of t.token_data);
  detail = detail_of t.token_data;
  major = major_of t.token_data;
  minor = minor_of t.token_data;
  text_at = held at;
  first_len = length (first_text t.token_data);
  second_len = length (second_text t.token_data);
  start_mark = mark_of t.start_mark;
  end_mark = mark_of t.end_mark;
  input_at = input_at s t;
}

-- the records of tokens of an input, whose texts follow one another from a place on
abbrev pub records_of : Spelled → ℕ → List Token → List bogzhami_token
records_of s at [] = []
records_of s at (t ∷ ts) = record_of s at t ∷ records_of s (at + length (texts_of t)) ts

-- the texts of tokens, one after the other
abbrev pub all_texts : List Token → List ℕ
all_texts [] = []
all_texts (t ∷ ts) = texts_of t ++ all_texts ts
