-- Tokens: what they say, and where they are.
use Rattle.std.specs.Prelude.{ℕ, ℤ, List}
use Rattle.yaml_text.specs.declared.types.yaml_mark_t.{yaml_mark_t}
use Rattle.yaml_text.specs.declared.types.yaml_encoding_t.{yaml_encoding_t}
use Rattle.yaml_text.specs.declared.types.yaml_scalar_style_t.{yaml_scalar_style_t}
use Rattle.yaml_text.specs.declared.types.yaml_token_type_t.{yaml_token_type_t}
use Rattle.yaml_text.specs.declared.types.yaml_token_type_t.TheVariants as types
use Rattle.yaml_text.specs.declared.token.unnamed_yaml_token_t_data.{unnamed_yaml_token_t_data}
use Rattle.yaml_text.specs.declared.token.unnamed_yaml_token_t_data.TheVariants as code
use Rattle.yaml_text.specs.declared.token.yaml_token_t.{yaml_token_t}

-- What a token says. Its texts are lists of bytes.
pub data TokenData : Type 0 where
  NO_TOKEN : TokenData
  STREAM_START : (encoding : yaml_encoding_t) → TokenData
  STREAM_END : TokenData
  VERSION_DIRECTIVE : (major : ℤ) (minor : ℤ) → TokenData
  TAG_DIRECTIVE : (handle : List ℕ) (prefix : List ℕ) → TokenData
  DOCUMENT_START : TokenData
  DOCUMENT_END : TokenData
  BLOCK_SEQUENCE_START : TokenData
  BLOCK_MAPPING_START : TokenData
  BLOCK_END : TokenData
  FLOW_SEQUENCE_START : TokenData
  FLOW_SEQUENCE_END : TokenData
  FLOW_MAPPING_START : TokenData
  FLOW_MAPPING_END : TokenData
  BLOCK_ENTRY : TokenData
  FLOW_ENTRY : TokenData
  KEY : TokenData
  VALUE : TokenData
  ALIAS : (value : List ℕ) → TokenData
  ANCHOR : (value : List ℕ) → TokenData
  TAG : (handle : List ℕ) (suffix : List ℕ) → TokenData
  SCALAR : (value : List ℕ) (style : yaml_scalar_style_t) → TokenData

-- A token: what it says, the mark of its start, and the mark after it.
pub record Token : Type 0 where
  pub token_data : TokenData
  pub start_mark : yaml_mark_t
  pub end_mark : yaml_mark_t

-- What a token of the code says, as the definitions see it: of a text its bytes, whatever its capacity.
abbrev pub data_of : unnamed_yaml_token_t_data → TokenData
data_of code.NO_TOKEN = NO_TOKEN
data_of (code.STREAM_START encoding) = STREAM_START encoding
data_of code.STREAM_END = STREAM_END
data_of (code.VERSION_DIRECTIVE major minor) = VERSION_DIRECTIVE major minor
data_of (code.TAG_DIRECTIVE handle prefix) = TAG_DIRECTIVE handle.items prefix.items
data_of code.DOCUMENT_START = DOCUMENT_START
data_of code.DOCUMENT_END = DOCUMENT_END
data_of code.BLOCK_SEQUENCE_START = BLOCK_SEQUENCE_START
data_of code.BLOCK_MAPPING_START = BLOCK_MAPPING_START
data_of code.BLOCK_END = BLOCK_END
data_of code.FLOW_SEQUENCE_START = FLOW_SEQUENCE_START
data_of code.FLOW_SEQUENCE_END = FLOW_SEQUENCE_END
data_of code.FLOW_MAPPING_START = FLOW_MAPPING_START
data_of code.FLOW_MAPPING_END = FLOW_MAPPING_END
data_of code.BLOCK_ENTRY = BLOCK_ENTRY
data_of code.FLOW_ENTRY = FLOW_ENTRY
data_of code.KEY = KEY
data_of code.VALUE = VALUE
data_of (code.ALIAS value) = ALIAS value.items
data_of (code.ANCHOR value) = ANCHOR value.items
data_of (code.TAG handle suffix) = TAG handle.items suffix.items
data_of (code.SCALAR value style) = SCALAR value.items style

-- A token of the code, as the definitions see it.
abbrev pub token_of : yaml_token_t → Token
token_of token = record {
  token_data = data_of token.token_data;
  start_mark = token.start_mark;
  end_mark = token.end_mark;
}

-- The type of what a token says.
abbrev pub type_of : TokenData → yaml_token_type_t
type_of NO_TOKEN = types.YAML_NO_TOKEN
type_of (STREAM_START encoding) = types.YAML_STREAM_START_TOKEN
type_of STREAM_END = types.YAML_STREAM_END_TOKEN
type_of (VERSION_DIRECTIVE major minor) = types.YAML_VERSION_DIRECTIVE_TOKEN
type_of (TAG_DIRECTIVE handle prefix) = types.YAML_TAG_DIRECTIVE_TOKEN
type_of DOCUMENT_START = types.YAML_DOCUMENT_START_TOKEN
type_of DOCUMENT_END = types.YAML_DOCUMENT_END_TOKEN
type_of BLOCK_SEQUENCE_START = types.YAML_BLOCK_SEQUENCE_START_TOKEN
type_of BLOCK_MAPPING_START = types.YAML_BLOCK_MAPPING_START_TOKEN
type_of BLOCK_END = types.YAML_BLOCK_END_TOKEN
type_of FLOW_SEQUENCE_START = types.YAML_FLOW_SEQUENCE_START_TOKEN
type_of FLOW_SEQUENCE_END = types.YAML_FLOW_SEQUENCE_END_TOKEN
type_of FLOW_MAPPING_START = types.YAML_FLOW_MAPPING_START_TOKEN
type_of FLOW_MAPPING_END = types.YAML_FLOW_MAPPING_END_TOKEN
type_of BLOCK_ENTRY = types.YAML_BLOCK_ENTRY_TOKEN
type_of FLOW_ENTRY = types.YAML_FLOW_ENTRY_TOKEN
type_of KEY = types.YAML_KEY_TOKEN
type_of VALUE = types.YAML_VALUE_TOKEN
type_of (ALIAS value) = types.YAML_ALIAS_TOKEN
type_of (ANCHOR value) = types.YAML_ANCHOR_TOKEN
type_of (TAG handle suffix) = types.YAML_TAG_TOKEN
type_of (SCALAR value style) = types.YAML_SCALAR_TOKEN
