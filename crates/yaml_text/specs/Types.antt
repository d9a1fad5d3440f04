-- The numbers of the variants of each enum. They are those of libyaml's header `yaml.h`, whose C enums count from 0 in
-- the order in which it declares them. Values are compared by these numbers, and hashed as them.
use Rattle.std.specs.Prelude.{ℕ}
use Rattle.yaml_text.specs.declared.types.yaml_encoding_t.{yaml_encoding_t}
use Rattle.yaml_text.specs.declared.types.yaml_encoding_t.TheVariants.{
  YAML_ANY_ENCODING,
  YAML_UTF8_ENCODING,
  YAML_UTF16LE_ENCODING,
  YAML_UTF16BE_ENCODING,
}
use Rattle.yaml_text.specs.declared.types.yaml_error_type_t.{yaml_error_type_t}
use Rattle.yaml_text.specs.declared.types.yaml_error_type_t.TheVariants.{
  YAML_NO_ERROR,
  YAML_MEMORY_ERROR,
  YAML_READER_ERROR,
  YAML_SCANNER_ERROR,
  YAML_PARSER_ERROR,
  YAML_COMPOSER_ERROR,
  YAML_WRITER_ERROR,
  YAML_EMITTER_ERROR,
}
use Rattle.yaml_text.specs.declared.types.yaml_break_t.{yaml_break_t}
use Rattle.yaml_text.specs.declared.types.yaml_break_t.TheVariants.{
  YAML_ANY_BREAK,
  YAML_CR_BREAK,
  YAML_LN_BREAK,
  YAML_CRLN_BREAK,
}
use Rattle.yaml_text.specs.declared.types.yaml_scalar_style_t.{yaml_scalar_style_t}
use Rattle.yaml_text.specs.declared.types.yaml_scalar_style_t.TheVariants.{
  YAML_ANY_SCALAR_STYLE,
  YAML_PLAIN_SCALAR_STYLE,
  YAML_SINGLE_QUOTED_SCALAR_STYLE,
  YAML_DOUBLE_QUOTED_SCALAR_STYLE,
  YAML_LITERAL_SCALAR_STYLE,
  YAML_FOLDED_SCALAR_STYLE,
}
use Rattle.yaml_text.specs.declared.types.yaml_sequence_style_t.{yaml_sequence_style_t}
use Rattle.yaml_text.specs.declared.types.yaml_sequence_style_t.TheVariants.{
  YAML_ANY_SEQUENCE_STYLE,
  YAML_BLOCK_SEQUENCE_STYLE,
  YAML_FLOW_SEQUENCE_STYLE,
}
use Rattle.yaml_text.specs.declared.types.yaml_mapping_style_t.{yaml_mapping_style_t}
use Rattle.yaml_text.specs.declared.types.yaml_mapping_style_t.TheVariants.{
  YAML_ANY_MAPPING_STYLE,
  YAML_BLOCK_MAPPING_STYLE,
  YAML_FLOW_MAPPING_STYLE,
}
use Rattle.yaml_text.specs.declared.types.yaml_token_type_t.{yaml_token_type_t}
use Rattle.yaml_text.specs.declared.types.yaml_token_type_t.TheVariants.{
  YAML_NO_TOKEN,
  YAML_STREAM_START_TOKEN,
  YAML_STREAM_END_TOKEN,
  YAML_VERSION_DIRECTIVE_TOKEN,
  YAML_TAG_DIRECTIVE_TOKEN,
  YAML_DOCUMENT_START_TOKEN,
  YAML_DOCUMENT_END_TOKEN,
  YAML_BLOCK_SEQUENCE_START_TOKEN,
  YAML_BLOCK_MAPPING_START_TOKEN,
  YAML_BLOCK_END_TOKEN,
  YAML_FLOW_SEQUENCE_START_TOKEN,
  YAML_FLOW_SEQUENCE_END_TOKEN,
  YAML_FLOW_MAPPING_START_TOKEN,
  YAML_FLOW_MAPPING_END_TOKEN,
  YAML_BLOCK_ENTRY_TOKEN,
  YAML_FLOW_ENTRY_TOKEN,
  YAML_KEY_TOKEN,
  YAML_VALUE_TOKEN,
  YAML_ALIAS_TOKEN,
  YAML_ANCHOR_TOKEN,
  YAML_TAG_TOKEN,
  YAML_SCALAR_TOKEN,
}

-- The number of an encoding.
abbrev pub encoding_number : yaml_encoding_t → ℕ
encoding_number YAML_ANY_ENCODING = 0
encoding_number YAML_UTF8_ENCODING = 1
encoding_number YAML_UTF16LE_ENCODING = 2
encoding_number YAML_UTF16BE_ENCODING = 3

-- The number of a kind of fault.
abbrev pub error_type_number : yaml_error_type_t → ℕ
error_type_number YAML_NO_ERROR = 0
error_type_number YAML_MEMORY_ERROR = 1
error_type_number YAML_READER_ERROR = 2
error_type_number YAML_SCANNER_ERROR = 3
error_type_number YAML_PARSER_ERROR = 4
error_type_number YAML_COMPOSER_ERROR = 5
error_type_number YAML_WRITER_ERROR = 6
error_type_number YAML_EMITTER_ERROR = 7

-- The number of a break.
abbrev pub break_number : yaml_break_t → ℕ
break_number YAML_ANY_BREAK = 0
break_number YAML_CR_BREAK = 1
break_number YAML_LN_BREAK = 2
break_number YAML_CRLN_BREAK = 3

-- The number of a scalar style.
abbrev pub scalar_style_number : yaml_scalar_style_t → ℕ
scalar_style_number YAML_ANY_SCALAR_STYLE = 0
scalar_style_number YAML_PLAIN_SCALAR_STYLE = 1
scalar_style_number YAML_SINGLE_QUOTED_SCALAR_STYLE = 2
scalar_style_number YAML_DOUBLE_QUOTED_SCALAR_STYLE = 3
scalar_style_number YAML_LITERAL_SCALAR_STYLE = 4
scalar_style_number YAML_FOLDED_SCALAR_STYLE = 5

-- The number of a sequence style.
abbrev pub sequence_style_number : yaml_sequence_style_t → ℕ
sequence_style_number YAML_ANY_SEQUENCE_STYLE = 0
sequence_style_number YAML_BLOCK_SEQUENCE_STYLE = 1
sequence_style_number YAML_FLOW_SEQUENCE_STYLE = 2

-- The number of a mapping style.
abbrev pub mapping_style_number : yaml_mapping_style_t → ℕ
mapping_style_number YAML_ANY_MAPPING_STYLE = 0
mapping_style_number YAML_BLOCK_MAPPING_STYLE = 1
mapping_style_number YAML_FLOW_MAPPING_STYLE = 2

-- The number of a type of token.
abbrev pub token_type_number : yaml_token_type_t → ℕ
token_type_number YAML_NO_TOKEN = 0
token_type_number YAML_STREAM_START_TOKEN = 1
token_type_number YAML_STREAM_END_TOKEN = 2
token_type_number YAML_VERSION_DIRECTIVE_TOKEN = 3
token_type_number YAML_TAG_DIRECTIVE_TOKEN = 4
token_type_number YAML_DOCUMENT_START_TOKEN = 5
token_type_number YAML_DOCUMENT_END_TOKEN = 6
token_type_number YAML_BLOCK_SEQUENCE_START_TOKEN = 7
token_type_number YAML_BLOCK_MAPPING_START_TOKEN = 8
token_type_number YAML_BLOCK_END_TOKEN = 9
token_type_number YAML_FLOW_SEQUENCE_START_TOKEN = 10
token_type_number YAML_FLOW_SEQUENCE_END_TOKEN = 11
token_type_number YAML_FLOW_MAPPING_START_TOKEN = 12
token_type_number YAML_FLOW_MAPPING_END_TOKEN = 13
token_type_number YAML_BLOCK_ENTRY_TOKEN = 14
token_type_number YAML_FLOW_ENTRY_TOKEN = 15
token_type_number YAML_KEY_TOKEN = 16
token_type_number YAML_VALUE_TOKEN = 17
token_type_number YAML_ALIAS_TOKEN = 18
token_type_number YAML_ANCHOR_TOKEN = 19
token_type_number YAML_TAG_TOKEN = 20
token_type_number YAML_SCALAR_TOKEN = 21
