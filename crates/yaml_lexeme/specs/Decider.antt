-- What is right after a lexeme that may be a key, and decides whether it is one.
use Rattle.std.specs.Prelude.{◌≡◌, Bool, ◌+◌, true, false}
use Rattle.yaml_lexeme.specs.Place.{Place}
use Rattle.yaml_lexeme.specs.Gap.{gap}
use Rattle.yaml_lexeme.specs.declared.kind.yaml_lexeme_kind_t.{yaml_lexeme_kind_t}
use Rattle.yaml_lexeme.specs.declared.kind.yaml_lexeme_kind_t.TheVariants as kind
use Rattle.yaml_text.specs.declared.types.yaml_mark_t.{yaml_mark_t}

-- the gap at p ends at q, whether tabs are allowed or not
abbrev pub IsGap : Place → Place → Bool → Type 0
IsGap p q broken = (flow allowed : Bool) → gap flow allowed p ≡ (q, broken)

-- what may decide, right after a lexeme, whether that is a key: a `:`, and in flow a `,`, `]` or `}`
abbrev pub decides : Bool → yaml_lexeme_kind_t → Bool
decides flow kind.VALUE = true
decides flow kind.FLOW_ENTRY = flow
decides flow kind.FLOW_SEQUENCE_END = flow
decides flow kind.FLOW_MAPPING_END = flow
decides flow k = false

-- the mark after a character of ASCII that is no break
abbrev pub one_on : yaml_mark_t → yaml_mark_t
one_on m = record { index = m.index + 1; line = m.line; column = m.column + 1 }
