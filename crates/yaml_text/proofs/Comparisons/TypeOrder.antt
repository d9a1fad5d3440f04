-- Types of tokens are compared by their numbers.
use Rattle.std.proofs.Common.{◌≡◌, refl}
use Rattle.std.specs.Ordering.{nat_cmp}
use Rattle.std.specs.declared.cmp.Ordering.{Ordering}
use Rattle.yaml_text.specs.Types.{token_type_number}
use Rattle.yaml_text.specs.declared.types.yaml_token_type_t.{yaml_token_type_t}
use Rattle.yaml_text.specs.declared.types.yaml_token_type_t.TheVariants as types
use Rattle.yaml_text.specs.contracts.types.yaml_token_type_tOrd.TheImpl as type_order

-- what `cmp` of two types of tokens answers
abbrev pub compared : yaml_token_type_t → yaml_token_type_t → Ordering
compared = (type_order.ghosts).cmp

pub compared-is : (a b : yaml_token_type_t) → compared a b ≡ nat_cmp (token_type_number a) (token_type_number b)
compared-is types.YAML_NO_TOKEN types.YAML_NO_TOKEN = refl
compared-is types.YAML_STREAM_START_TOKEN types.YAML_STREAM_START_TOKEN = refl
compared-is types.YAML_STREAM_END_TOKEN types.YAML_STREAM_END_TOKEN = refl
compared-is types.YAML_VERSION_DIRECTIVE_TOKEN types.YAML_VERSION_DIRECTIVE_TOKEN = refl
compared-is types.YAML_TAG_DIRECTIVE_TOKEN types.YAML_TAG_DIRECTIVE_TOKEN = refl
compared-is types.YAML_DOCUMENT_START_TOKEN types.YAML_DOCUMENT_START_TOKEN = refl
compared-is types.YAML_DOCUMENT_END_TOKEN types.YAML_DOCUMENT_END_TOKEN = refl
compared-is types.YAML_BLOCK_SEQUENCE_START_TOKEN types.YAML_BLOCK_SEQUENCE_START_TOKEN = refl
compared-is types.YAML_BLOCK_MAPPING_START_TOKEN types.YAML_BLOCK_MAPPING_START_TOKEN = refl
compared-is types.YAML_BLOCK_END_TOKEN types.YAML_BLOCK_END_TOKEN = refl
compared-is types.YAML_FLOW_SEQUENCE_START_TOKEN types.YAML_FLOW_SEQUENCE_START_TOKEN = refl
compared-is types.YAML_FLOW_SEQUENCE_END_TOKEN types.YAML_FLOW_SEQUENCE_END_TOKEN = refl
compared-is types.YAML_FLOW_MAPPING_START_TOKEN types.YAML_FLOW_MAPPING_START_TOKEN = refl
compared-is types.YAML_FLOW_MAPPING_END_TOKEN types.YAML_FLOW_MAPPING_END_TOKEN = refl
compared-is types.YAML_BLOCK_ENTRY_TOKEN types.YAML_BLOCK_ENTRY_TOKEN = refl
compared-is types.YAML_FLOW_ENTRY_TOKEN types.YAML_FLOW_ENTRY_TOKEN = refl
compared-is types.YAML_KEY_TOKEN types.YAML_KEY_TOKEN = refl
compared-is types.YAML_VALUE_TOKEN types.YAML_VALUE_TOKEN = refl
compared-is types.YAML_ALIAS_TOKEN types.YAML_ALIAS_TOKEN = refl
compared-is types.YAML_ANCHOR_TOKEN types.YAML_ANCHOR_TOKEN = refl
compared-is types.YAML_TAG_TOKEN types.YAML_TAG_TOKEN = refl
compared-is types.YAML_SCALAR_TOKEN types.YAML_SCALAR_TOKEN = refl
compared-is _ _ = refl
