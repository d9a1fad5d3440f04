-- The kinds of lexemes, and what the layout needs to know of them.
use Rattle.std.specs.Prelude.{Bool, true, false}
pub use Rattle.yaml_lexeme.specs.declared.kind.yaml_lexeme_kind_t.{yaml_lexeme_kind_t as Kind}
use Rattle.yaml_lexeme.specs.declared.kind.yaml_lexeme_kind_t.TheVariants.{STREAM_END, DIRECTIVE, DOCUMENT_START}
use Rattle.yaml_lexeme.specs.declared.kind.yaml_lexeme_kind_t.TheVariants.{DOCUMENT_END, FLOW_SEQUENCE_START}
use Rattle.yaml_lexeme.specs.declared.kind.yaml_lexeme_kind_t.TheVariants.{FLOW_MAPPING_START, FLOW_SEQUENCE_END}
use Rattle.yaml_lexeme.specs.declared.kind.yaml_lexeme_kind_t.TheVariants.{FLOW_MAPPING_END, FLOW_ENTRY, BLOCK_ENTRY}
use Rattle.yaml_lexeme.specs.declared.kind.yaml_lexeme_kind_t.TheVariants.{KEY, VALUE, ALIAS, ANCHOR, TAG, LITERAL}
use Rattle.yaml_lexeme.specs.declared.kind.yaml_lexeme_kind_t.TheVariants.{FOLDED, SINGLE_QUOTED, DOUBLE_QUOTED, PLAIN}

-- the stream end
abbrev pub is_stream_end : Kind → Bool
is_stream_end STREAM_END = true
is_stream_end _ = false

-- `[` and `{`
abbrev pub is_flow_start : Kind → Bool
is_flow_start FLOW_SEQUENCE_START = true
is_flow_start FLOW_MAPPING_START = true
is_flow_start _ = false

-- `]` and `}`
abbrev pub is_flow_end : Kind → Bool
is_flow_end FLOW_SEQUENCE_END = true
is_flow_end FLOW_MAPPING_END = true
is_flow_end _ = false

-- `-`
abbrev pub is_block_entry : Kind → Bool
is_block_entry BLOCK_ENTRY = true
is_block_entry _ = false

-- `?`
abbrev pub is_key : Kind → Bool
is_key KEY = true
is_key _ = false

-- `:`
abbrev pub is_value : Kind → Bool
is_value VALUE = true
is_value _ = false

-- a plain scalar
abbrev pub is_plain : Kind → Bool
is_plain PLAIN = true
is_plain _ = false

-- what may come before a `:` as a key: flow starts, anchors, aliases, tags, quoted and plain scalars
abbrev pub is_candidate_kind : Kind → Bool
is_candidate_kind FLOW_SEQUENCE_START = true
is_candidate_kind FLOW_MAPPING_START = true
is_candidate_kind ALIAS = true
is_candidate_kind ANCHOR = true
is_candidate_kind TAG = true
is_candidate_kind SINGLE_QUOTED = true
is_candidate_kind DOUBLE_QUOTED = true
is_candidate_kind PLAIN = true
is_candidate_kind _ = false

-- a key is allowed after it at any depth: flow starts, `,`, `-`, block scalars
abbrev pub invites_key : Kind → Bool
invites_key FLOW_SEQUENCE_START = true
invites_key FLOW_MAPPING_START = true
invites_key FLOW_ENTRY = true
invites_key BLOCK_ENTRY = true
invites_key LITERAL = true
invites_key FOLDED = true
invites_key _ = false

-- closes all levels: the stream end, a directive, a document marker
abbrev pub closes_all : Kind → Bool
closes_all STREAM_END = true
closes_all DIRECTIVE = true
closes_all DOCUMENT_START = true
closes_all DOCUMENT_END = true
closes_all _ = false
