-- Kinds that are read in one way: which of them it is, and which of them need no memory.
use Rattle.std.specs.Prelude.{ℕ, Bool, true, false, if◌then◌else◌, List}
use Rattle.yaml_text.specs.Token.{TokenData, TokenData as token}
use Rattle.yaml_text.specs.declared.types.yaml_scalar_style_t.{yaml_scalar_style_t}
use Rattle.yaml_text.specs.declared.types.yaml_scalar_style_t.TheVariants as styles
use Rattle.yaml_lexeme.specs.declared.kind.yaml_lexeme_kind_t.{yaml_lexeme_kind_t}
use Rattle.yaml_lexeme.specs.Name.{name}
use Rattle.yaml_lexeme.specs.declared.kind.yaml_lexeme_kind_t.TheVariants as kind

-- what an anchor or an alias says
abbrev pub anchor_or_alias : Bool → List ℕ → TokenData
anchor_or_alias anchor name = if anchor then token.ANCHOR name else token.ALIAS name

-- the kind of a quoted scalar, and of a literal or folded one
abbrev pub quoted_kind : Bool → yaml_lexeme_kind_t
quoted_kind single = if single then kind.SINGLE_QUOTED else kind.DOUBLE_QUOTED

abbrev pub block_kind : Bool → yaml_lexeme_kind_t
block_kind folded = if folded then kind.FOLDED else kind.LITERAL

-- the kind of an anchor or an alias
abbrev pub name_kind : Bool → yaml_lexeme_kind_t
name_kind anchor = if anchor then kind.ANCHOR else kind.ALIAS

-- the kind of a document marker: of `---`, which starts a document, or of `...`, which ends one
abbrev pub marker_kind : Bool → yaml_lexeme_kind_t
marker_kind start = if start then kind.DOCUMENT_START else kind.DOCUMENT_END

-- kinds whose lexemes need no memory, and are never refused
abbrev pub is_bare : yaml_lexeme_kind_t → Bool
is_bare kind.STREAM_END = true
is_bare kind.DOCUMENT_START = true
is_bare kind.DOCUMENT_END = true
is_bare kind.FLOW_SEQUENCE_START = true
is_bare kind.FLOW_MAPPING_START = true
is_bare kind.FLOW_SEQUENCE_END = true
is_bare kind.FLOW_MAPPING_END = true
is_bare kind.FLOW_ENTRY = true
is_bare kind.BLOCK_ENTRY = true
is_bare kind.KEY = true
is_bare kind.VALUE = true
is_bare kind.DIRECTIVE = false
is_bare kind.ALIAS = false
is_bare kind.ANCHOR = false
is_bare kind.TAG = false
is_bare kind.LITERAL = false
is_bare kind.FOLDED = false
is_bare kind.SINGLE_QUOTED = false
is_bare kind.DOUBLE_QUOTED = false
is_bare kind.PLAIN = false

-- kinds whose lexemes are one character
abbrev pub is_character : yaml_lexeme_kind_t → Bool
is_character kind.STREAM_END = false
is_character kind.DOCUMENT_START = false
is_character kind.DOCUMENT_END = false
is_character k = is_bare k

-- the style of a literal or folded scalar, and of a quoted one
abbrev pub block_style : Bool → yaml_scalar_style_t
block_style folded = if folded then styles.YAML_FOLDED_SCALAR_STYLE else styles.YAML_LITERAL_SCALAR_STYLE

abbrev pub quoted_style : Bool → yaml_scalar_style_t
quoted_style single = if single then styles.YAML_SINGLE_QUOTED_SCALAR_STYLE else styles.YAML_DOUBLE_QUOTED_SCALAR_STYLE

-- what a quoted scalar says
abbrev pub quoted_as : yaml_scalar_style_t → List ℕ → TokenData
quoted_as style value = token.SCALAR value style
