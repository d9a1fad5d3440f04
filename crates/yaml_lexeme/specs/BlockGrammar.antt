-- Where a literal or folded scalar is refused.
use Rattle.std.specs.Prelude.{ℕ, ◌≡◌, ◌↔◌, Bool, List, Option, Ok, Err}
use Rattle.yaml_lexeme.specs.declared.block.header_t.{header_t}
use Rattle.yaml_lexeme.specs.Block.{EmptyLine, TextLine, after_indent, empty_line, set_indent, text_line, block}
use Rattle.yaml_lexeme.specs.HeaderGrammar.{HeaderParts, HeaderRefused, LineEnd, LineEndRefused}
use Rattle.yaml_lexeme.specs.Parts.{Piece, values, IsLongest, indent_of}
use Rattle.yaml_lexeme.specs.Place.{Place, skip}
use Rattle.yaml_lexeme.specs.Reading.{Offence, Found, over}

-- the first of these that the text does not give at p: the header, the rest of its line, the leading empty lines, and
-- text lines, of which there are as many as possible before the offence
pub data BlockRefused (level : Option ℕ) (p : Place) (e : Offence) : Type 0 where
  no_header : HeaderRefused (skip 1 p) e → BlockRefused level p e
  no_line_end : (header : Found header_t) → HeaderParts (skip 1 p) header → LineEndRefused header.end e
      → BlockRefused level p e
  no_leading : (header : Found header_t) (start : Place) (leading : List (Piece EmptyLine)) (q : Place)
      → HeaderParts (skip 1 p) header → LineEnd header.end start
      → IsLongest (empty_line (set_indent level header.value.digit)) start leading q (Err e) → BlockRefused level p e
  no_text : (header : Found header_t) (start : Place) (leading : List (Piece EmptyLine)) (first next : Place)
      (lines : List (Piece TextLine)) (q : Place) → HeaderParts (skip 1 p) header → LineEnd header.end start
      → IsLongest (empty_line (set_indent level header.value.digit)) start leading first over
      → after_indent (set_indent level header.value.digit) first ≡ Ok next
      → IsLongest (text_line (indent_of level header.value (values leading) next)) first lines q (Err e)
      → BlockRefused level p e

abbrev pub BlockIsRefused : Type 0
BlockIsRefused = (folded : Bool) (level : Option ℕ) (p : Place) (e : Offence) →
    (block folded level p ≡ Err e) ↔ BlockRefused level p e
