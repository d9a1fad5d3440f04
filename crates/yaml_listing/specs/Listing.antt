-- The lines that the program writes.
use Rattle.std.specs.Prelude.{ℕ, ◌/◌, ◌%◌, ℤ, Bool, true, false, List, [], ◌∷◌, ◌++◌, length, flat_map, codes}
use Rattle.std.specs.Prelude.{Option, Some, None, Result, Ok, Err}
use Rattle.std.specs.List.{join_by}
use Rattle.std.specs.Char.{digit_char}
use Rattle.std.specs.Fmt.{decimal, signed_decimal}
use Rattle.yaml_text.specs.declared.types.yaml_encoding_t.{yaml_encoding_t}
use Rattle.yaml_text.specs.declared.types.yaml_encoding_t.TheVariants.{
  YAML_ANY_ENCODING,
  YAML_UTF8_ENCODING,
  YAML_UTF16LE_ENCODING,
  YAML_UTF16BE_ENCODING,
}
use Rattle.yaml_text.specs.declared.types.yaml_error_type_t.{yaml_error_type_t}
use Rattle.yaml_text.specs.declared.types.yaml_error_type_t.TheVariants.{
  YAML_MEMORY_ERROR,
  YAML_READER_ERROR,
  YAML_SCANNER_ERROR,
}
use Rattle.yaml_text.specs.declared.types.yaml_mark_t.{yaml_mark_t}
use Rattle.yaml_text.specs.declared.types.yaml_scalar_style_t.{yaml_scalar_style_t}
use Rattle.yaml_text.specs.declared.types.yaml_scalar_style_t.TheVariants.{
  YAML_ANY_SCALAR_STYLE,
  YAML_PLAIN_SCALAR_STYLE,
  YAML_SINGLE_QUOTED_SCALAR_STYLE,
  YAML_DOUBLE_QUOTED_SCALAR_STYLE,
  YAML_LITERAL_SCALAR_STYLE,
  YAML_FOLDED_SCALAR_STYLE,
}
use Rattle.yaml_text.specs.declared.types.yaml_token_type_t.{yaml_token_type_t}
use Rattle.yaml_text.specs.declared.types.yaml_token_type_t.TheVariants.{
  YAML_NO_TOKEN,
  YAML_STREAM_START_TOKEN,
  YAML_STREAM_END_TOKEN,
  YAML_VERSION_DIRECTIVE_TOKEN,
  YAML_TAG_DIRECTIVE_TOKEN,
  YAML_DOCUMENT_START_TOKEN,
  YAML_DOCUMENT_END_TOKEN,
  YAML_BLOCK_SEQUENCE_START_TOKEN,
  YAML_BLOCK_MAPPING_START_TOKEN,
  YAML_BLOCK_END_TOKEN,
  YAML_FLOW_SEQUENCE_START_TOKEN,
  YAML_FLOW_SEQUENCE_END_TOKEN,
  YAML_FLOW_MAPPING_START_TOKEN,
  YAML_FLOW_MAPPING_END_TOKEN,
  YAML_BLOCK_ENTRY_TOKEN,
  YAML_FLOW_ENTRY_TOKEN,
  YAML_KEY_TOKEN,
  YAML_VALUE_TOKEN,
  YAML_ALIAS_TOKEN,
  YAML_ANCHOR_TOKEN,
  YAML_TAG_TOKEN,
  YAML_SCALAR_TOKEN,
}
use Rattle.yaml_text.specs.Token.{Token, TokenData}
use Rattle.yaml_text.specs.Token.TokenData.{STREAM_START, VERSION_DIRECTIVE, TAG_DIRECTIVE, ALIAS, ANCHOR, TAG, SCALAR}
use Rattle.yaml_text.specs.Token.{type_of}
use Rattle.yaml_text.specs.Chars.{utf8}
use Rattle.yaml_text.specs.Mark.{mark_of}
use Rattle.yaml_text.specs.Text.{Text}
use Rattle.yaml_text.specs.Fault.{Fault}
use Rattle.yaml_scan.specs.Seen.{Seen}
use Rattle.yaml_scan.specs.Seen.Seen.{TOKEN, PEEKED, SKIPPED, NOTHING, FAULT}

-- a line of these parts, with a space between each two
abbrev pub line_by : {X : Type 0} → (X → List ℕ) → List X → List ℕ
line_by text parts = join_by text (codes " ") parts ++ 10 ∷ []

-- the text of parts, with a space between each two
abbrev pub parts_text : List (List ℕ) → List ℕ
parts_text parts = join_by (λ part. part) (codes " ") parts

-- a line of these texts
abbrev pub line : List (List ℕ) → List ℕ
line parts = line_by (λ part. part) parts

-- index:line:column
abbrev pub mark_text : yaml_mark_t → List ℕ
mark_text m =
    join_by (λ part. part) (codes ":") (decimal m.index ∷ decimal m.line ∷ decimal m.column ∷ [])

-- the word of an encoding that a text has
abbrev pub encoding_word : yaml_encoding_t → List ℕ
encoding_word YAML_ANY_ENCODING = []
encoding_word YAML_UTF8_ENCODING = codes "UTF8"
encoding_word YAML_UTF16LE_ENCODING = codes "UTF16LE"
encoding_word YAML_UTF16BE_ENCODING = codes "UTF16BE"

-- a text that may be missing
abbrev pub text_or : List ℕ → Option (List ℕ) → List ℕ
text_or other None = other
text_or other (Some text) = text

-- offset, value and problem of a reader fault
abbrev pub reader_line : ℕ → ℤ → List ℕ → List ℕ
reader_line offset value problem =
    line (codes "FAULT" ∷ codes "reader" ∷ decimal offset ∷ signed_decimal value ∷ problem ∷ [])

-- the mark of a scanner fault's context, the mark of its problem, and both texts
abbrev pub scanner_line : yaml_mark_t → List ℕ → yaml_mark_t → List ℕ → List ℕ
scanner_line context_mark context problem_mark problem =
    line (codes "FAULT" ∷ codes "scanner" ∷ mark_text context_mark ∷ mark_text problem_mark
    ∷ (context ++ codes ";") ∷ problem ∷ [])

-- the line of a fault of the kind
abbrev pub fault_line_as : yaml_error_type_t → Fault → List ℕ
fault_line_as YAML_READER_ERROR f = reader_line f.offset f.value (text_or [] f.problem)
fault_line_as YAML_SCANNER_ERROR f =
    scanner_line f.context_mark (text_or (codes "-") f.context) f.problem_mark (text_or [] f.problem)
fault_line_as YAML_MEMORY_ERROR f = line (codes "FAULT" ∷ codes "memory" ∷ [])
fault_line_as _ f = []

-- the line of a fault
abbrev pub fault_line : Fault → List ℕ
fault_line f = fault_line_as f.error f

-- the line of a decoded text: its encoding, the number of its bytes and the mark of its end
abbrev pub text_line : Text → List ℕ
text_line t =
    line (codes "TEXT" ∷ encoding_word t.encoding ∷ decimal (length (utf8 t.chars))
    ∷ mark_text (mark_of t.chars) ∷ [])

-- the line of what an input decodes to
abbrev pub decode_line : Result Text Fault → List ℕ
decode_line (Ok text) = text_line text
decode_line (Err fault) = fault_line fault

-- TOKENS
-- a byte as two hexadecimal digits, in lower case
abbrev pub byte_text : ℕ → List ℕ
byte_text b = digit_char (b / 16) ∷ digit_char (b % 16) ∷ []

-- the bytes of a token's text, or `-` if there are none
abbrev pub bytes_text : List ℕ → List ℕ
bytes_text [] = codes "-"
bytes_text (b ∷ bs) = flat_map byte_text (b ∷ bs)

-- the name of a type of tokens
abbrev pub type_name : yaml_token_type_t → List ℕ
type_name YAML_NO_TOKEN = codes "NO-TOKEN"
type_name YAML_STREAM_START_TOKEN = codes "STREAM-START"
type_name YAML_STREAM_END_TOKEN = codes "STREAM-END"
type_name YAML_VERSION_DIRECTIVE_TOKEN = codes "VERSION-DIRECTIVE"
type_name YAML_TAG_DIRECTIVE_TOKEN = codes "TAG-DIRECTIVE"
type_name YAML_DOCUMENT_START_TOKEN = codes "DOCUMENT-START"
type_name YAML_DOCUMENT_END_TOKEN = codes "DOCUMENT-END"
type_name YAML_BLOCK_SEQUENCE_START_TOKEN = codes "BLOCK-SEQUENCE-START"
type_name YAML_BLOCK_MAPPING_START_TOKEN = codes "BLOCK-MAPPING-START"
type_name YAML_BLOCK_END_TOKEN = codes "BLOCK-END"
type_name YAML_FLOW_SEQUENCE_START_TOKEN = codes "FLOW-SEQUENCE-START"
type_name YAML_FLOW_SEQUENCE_END_TOKEN = codes "FLOW-SEQUENCE-END"
type_name YAML_FLOW_MAPPING_START_TOKEN = codes "FLOW-MAPPING-START"
type_name YAML_FLOW_MAPPING_END_TOKEN = codes "FLOW-MAPPING-END"
type_name YAML_BLOCK_ENTRY_TOKEN = codes "BLOCK-ENTRY"
type_name YAML_FLOW_ENTRY_TOKEN = codes "FLOW-ENTRY"
type_name YAML_KEY_TOKEN = codes "KEY"
type_name YAML_VALUE_TOKEN = codes "VALUE"
type_name YAML_ALIAS_TOKEN = codes "ALIAS"
type_name YAML_ANCHOR_TOKEN = codes "ANCHOR"
type_name YAML_TAG_TOKEN = codes "TAG"
type_name YAML_SCALAR_TOKEN = codes "SCALAR"

-- the word of a style that a scalar has
abbrev pub style_word : yaml_scalar_style_t → List ℕ
style_word YAML_ANY_SCALAR_STYLE = []
style_word YAML_PLAIN_SCALAR_STYLE = codes "plain"
style_word YAML_SINGLE_QUOTED_SCALAR_STYLE = codes "single"
style_word YAML_DOUBLE_QUOTED_SCALAR_STYLE = codes "double"
style_word YAML_LITERAL_SCALAR_STYLE = codes "literal"
style_word YAML_FOLDED_SCALAR_STYLE = codes "folded"

-- the marks of a token; the empty token has none
abbrev pub mark_parts : yaml_token_type_t → yaml_mark_t → yaml_mark_t → List (List ℕ)
mark_parts YAML_NO_TOKEN start end = []
mark_parts _ start end = mark_text start ∷ mark_text end ∷ []

-- a token's type and marks
abbrev pub head_parts : yaml_token_type_t → yaml_mark_t → yaml_mark_t → List (List ℕ)
head_parts kind start end = type_name kind ∷ mark_parts kind start end

-- what a token says, without its type
abbrev pub data_parts : TokenData → List (List ℕ)
data_parts (STREAM_START encoding) = encoding_word encoding ∷ []
data_parts (VERSION_DIRECTIVE major minor) = signed_decimal major ∷ signed_decimal minor ∷ []
data_parts (TAG_DIRECTIVE handle prefix) = bytes_text handle ∷ bytes_text prefix ∷ []
data_parts (ALIAS value) = bytes_text value ∷ []
data_parts (ANCHOR value) = bytes_text value ∷ []
data_parts (TAG handle suffix) = bytes_text handle ∷ bytes_text suffix ∷ []
data_parts (SCALAR value style) = style_word style ∷ bytes_text value ∷ []
data_parts _ = []

-- the line of a token
abbrev pub token_line : Token → List ℕ
token_line t = line (head_parts (type_of t.token_data) t.start_mark t.end_mark ++ data_parts t.token_data)

-- the line of a token that is shown and stays
abbrev pub peek_line : yaml_token_type_t → yaml_mark_t → yaml_mark_t → List ℕ
peek_line kind start end = line (codes "PEEK" ∷ head_parts kind start end)

-- ANSWERS
-- the lines of tokens
abbrev pub token_lines : List Token → List ℕ
token_lines tokens = flat_map token_line tokens

-- the line of a fault, if there is one
abbrev pub fault_lines : Option Fault → List ℕ
fault_lines None = []
fault_lines (Some fault) = fault_line fault

-- the line of an answer to a call
abbrev pub answer_line : Seen → List ℕ
answer_line (TOKEN token) = token_line token
answer_line (PEEKED kind start end) = peek_line kind start end
answer_line SKIPPED = line (codes "SKIP" ∷ [])
answer_line NOTHING = line (codes "SKIP" ∷ codes "NOTHING" ∷ [])
answer_line (FAULT fault) = fault_line fault

-- the lines of answers
abbrev pub answer_lines : List Seen → List ℕ
answer_lines answers = flat_map answer_line answers

-- whether an answer is a fault
abbrev pub is_fault : Seen → Bool
is_fault (FAULT fault) = true
is_fault _ = false
