-- Lexemes of every kind.
use Rattle.std.specs.Prelude.{ℕ, Bool, true, false, nat_lt}
use Rattle.yaml_text.specs.declared.types.yaml_scalar_style_t.TheVariants as styles
use Rattle.yaml_text.specs.Token.{TokenData, TokenData as token}
use Rattle.yaml_lexeme.specs.declared.kind.yaml_lexeme_kind_t.{yaml_lexeme_kind_t}
use Rattle.yaml_lexeme.specs.declared.kind.yaml_lexeme_kind_t.TheVariants as kind
use Rattle.yaml_lexeme.specs.declared.lex.yaml_context_t.{yaml_context_t}
use Rattle.yaml_lexeme.specs.Lexeme.{Lexeme, lexeme, whole, scalar_to, directive_to}
use Rattle.yaml_lexeme.specs.StreamEnd.{at_end}
use Rattle.yaml_lexeme.specs.Place.{Place, skip}
use Rattle.yaml_lexeme.specs.Reading.{Read, found}
use Rattle.yaml_lexeme.specs.Quoted.{quoted}
use Rattle.yaml_lexeme.specs.Plain.{plain}
use Rattle.yaml_lexeme.specs.Block.{above, block}
use Rattle.yaml_lexeme.specs.Name.{name}
use Rattle.yaml_lexeme.specs.Tag.{tag}
use Rattle.yaml_lexeme.specs.Directive.{directive}

abbrev pub in_flow : yaml_context_t → Bool
in_flow context = nat_lt 0 context.depth

-- the least column of a line that goes on: the greatest open level + 1, or 0 if none is open
abbrev pub least : yaml_context_t → ℕ
least context = above context.level

-- what a lexeme of one character, or a document marker, says
abbrev pub says_of : yaml_lexeme_kind_t → TokenData
says_of kind.DOCUMENT_START = token.DOCUMENT_START
says_of kind.DOCUMENT_END = token.DOCUMENT_END
says_of kind.FLOW_SEQUENCE_START = token.FLOW_SEQUENCE_START
says_of kind.FLOW_MAPPING_START = token.FLOW_MAPPING_START
says_of kind.FLOW_SEQUENCE_END = token.FLOW_SEQUENCE_END
says_of kind.FLOW_MAPPING_END = token.FLOW_MAPPING_END
says_of kind.FLOW_ENTRY = token.FLOW_ENTRY
says_of kind.BLOCK_ENTRY = token.BLOCK_ENTRY
says_of kind.KEY = token.KEY
says_of kind.VALUE = token.VALUE
says_of k = token.NO_TOKEN

-- how many characters it takes
abbrev pub len_of : yaml_lexeme_kind_t → ℕ
len_of kind.DOCUMENT_START = 3
len_of kind.DOCUMENT_END = 3
len_of k = 1

-- the lexeme of the kind that is at a place, or its first offence
unfoldable pub lex : yaml_lexeme_kind_t → yaml_context_t → Place → Read Lexeme
lex kind.STREAM_END context p = at_end p
lex kind.DIRECTIVE context p = lexeme directive_to p (directive p)
lex kind.ALIAS context p = lexeme (whole token.ALIAS) p (name p)
lex kind.ANCHOR context p = lexeme (whole token.ANCHOR) p (name p)
lex kind.TAG context p = lexeme (whole (λ t. t)) p (tag (in_flow context) p)
lex kind.LITERAL context p = lexeme (scalar_to styles.YAML_LITERAL_SCALAR_STYLE) p (block false context.level p)
lex kind.FOLDED context p = lexeme (scalar_to styles.YAML_FOLDED_SCALAR_STYLE) p (block true context.level p)
lex kind.SINGLE_QUOTED context p =
    lexeme (whole (λ v. token.SCALAR v styles.YAML_SINGLE_QUOTED_SCALAR_STYLE)) p (quoted true p)
lex kind.DOUBLE_QUOTED context p =
    lexeme (whole (λ v. token.SCALAR v styles.YAML_DOUBLE_QUOTED_SCALAR_STYLE)) p (quoted false p)
lex kind.PLAIN context p =
    lexeme (scalar_to styles.YAML_PLAIN_SCALAR_STYLE) p (plain (in_flow context) (least context) p)
lex k context p = lexeme (whole says_of) p (found k (skip (len_of k) p))
