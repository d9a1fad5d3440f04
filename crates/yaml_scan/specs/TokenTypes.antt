-- The types of tokens that laws speak of.
use Rattle.std.specs.Prelude.{Bool, true, false}
use Rattle.yaml_text.specs.declared.types.yaml_token_type_t.{yaml_token_type_t}
use Rattle.yaml_text.specs.declared.types.yaml_token_type_t.TheVariants.{YAML_BLOCK_SEQUENCE_START_TOKEN}
use Rattle.yaml_text.specs.declared.types.yaml_token_type_t.TheVariants.{YAML_BLOCK_MAPPING_START_TOKEN}
use Rattle.yaml_text.specs.declared.types.yaml_token_type_t.TheVariants.{YAML_BLOCK_END_TOKEN, YAML_KEY_TOKEN}
use Rattle.yaml_text.specs.declared.types.yaml_token_type_t.TheVariants.{YAML_VALUE_TOKEN, YAML_STREAM_END_TOKEN}

-- of a BLOCK-END
abbrev pub is_end_type : yaml_token_type_t → Bool
is_end_type YAML_BLOCK_END_TOKEN = true
is_end_type _ = false

-- of a start of a block
abbrev pub is_start_type : yaml_token_type_t → Bool
is_start_type YAML_BLOCK_SEQUENCE_START_TOKEN = true
is_start_type YAML_BLOCK_MAPPING_START_TOKEN = true
is_start_type _ = false

-- of a KEY
abbrev pub is_key_type : yaml_token_type_t → Bool
is_key_type YAML_KEY_TOKEN = true
is_key_type _ = false

-- of a VALUE
abbrev pub is_value_type : yaml_token_type_t → Bool
is_value_type YAML_VALUE_TOKEN = true
is_value_type _ = false

-- the type of the last token of a stream
abbrev pub is_last_type : yaml_token_type_t → Bool
is_last_type YAML_STREAM_END_TOKEN = true
is_last_type _ = false
