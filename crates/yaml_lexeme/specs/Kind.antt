-- What kind of lexeme is at a place.
use Rattle.std.specs.Prelude.{ℕ, Bool, not, ◌&&◌, ◌||◌, ◌==◌, if◌then◌else◌, Option, Some, None, codes}
use Rattle.yaml_text.specs.Classes.{is_z}
use Rattle.yaml_lexeme.specs.declared.kind.yaml_lexeme_kind_t.{yaml_lexeme_kind_t}
use Rattle.yaml_lexeme.specs.declared.kind.yaml_lexeme_kind_t.TheVariants as kind
use Rattle.yaml_lexeme.specs.Classes.{ends, is_one_of}
use Rattle.yaml_lexeme.specs.Place.{Place, peek, first}

-- three of a character at the start of a line, which end there
abbrev pub is_marker_of : ℕ → Place → Bool
is_marker_of c p =
    (p.mark.column == 0 && (peek p 0 == c && peek p 1 == c)) && (peek p 2 == c && ends (peek p 3))

-- a document marker: `---` or `...` (YAML 1.1, 7.2 Document Boundary Markers)
abbrev pub is_marker : Place → Bool
is_marker p = is_marker_of 0x2D p || is_marker_of 0x2E p

-- the indicators (YAML 1.1, 5.3 Indicator Characters), which begin no plain scalar
abbrev pub is_indicator : ℕ → Bool
is_indicator c = is_one_of (codes "-?:,[]{}#&*!|>'\"%@`") c

-- `-` begins one, and outside of flow `?` and `:` do, if they do not end
abbrev pub starts_plain : Bool → ℕ → Bool
starts_plain flow c = not (ends c || is_indicator c) || (c == 0x2D || (not flow && (c == 0x3F || c == 0x3A)))

-- the first of these kinds that fits, if one does
unfoldable pub kind_at : Bool → Place → Option yaml_lexeme_kind_t
kind_at flow p =
    let c = first p in
    let alone = ends (peek p 1) in
    if is_z c then Some kind.STREAM_END
    else if p.mark.column == 0 && c == 0x25 then Some kind.DIRECTIVE
    else if is_marker_of 0x2D p then Some kind.DOCUMENT_START
    else if is_marker_of 0x2E p then Some kind.DOCUMENT_END
    else if c == 0x5B then Some kind.FLOW_SEQUENCE_START
    else if c == 0x7B then Some kind.FLOW_MAPPING_START
    else if c == 0x5D then Some kind.FLOW_SEQUENCE_END
    else if c == 0x7D then Some kind.FLOW_MAPPING_END
    else if c == 0x2C then Some kind.FLOW_ENTRY
    else if c == 0x2D && alone then Some kind.BLOCK_ENTRY
    else if c == 0x3F && (flow || alone) then Some kind.KEY
    else if c == 0x3A && (flow || alone) then Some kind.VALUE
    else if c == 0x2A then Some kind.ALIAS
    else if c == 0x26 then Some kind.ANCHOR
    else if c == 0x21 then Some kind.TAG
    else if c == 0x7C && not flow then Some kind.LITERAL
    else if c == 0x3E && not flow then Some kind.FOLDED
    else if c == 0x27 then Some kind.SINGLE_QUOTED
    else if c == 0x22 then Some kind.DOUBLE_QUOTED
    else if starts_plain flow c then Some kind.PLAIN
    else None
