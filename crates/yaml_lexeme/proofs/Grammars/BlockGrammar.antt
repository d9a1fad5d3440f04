-- A literal or folded scalar is refused at the first of its parts that the text does not give.
use Rattle.std.proofs.Common.{◌≡◌, ℕ, Bool, List, Option, Some, Ok, Err, Result, refl, sym, ap, ◌∙◌}
use Rattle.yaml_lexeme.specs.declared.block.header_t.{header_t}
use Rattle.yaml_lexeme.specs.Lexeme.{Scalar}
use Rattle.yaml_lexeme.specs.Block.{EmptyLine, TextLine, header_at, after_line, after_indent, empty_line, set_indent, text_line, block}
use Rattle.yaml_lexeme.specs.BlockGrammar.{BlockRefused, BlockIsRefused}
use Rattle.yaml_lexeme.specs.BlockGrammar.BlockRefused.{no_header, no_line_end, no_leading, no_text}
use Rattle.yaml_lexeme.specs.Parts.{Piece, values, IsLongest, indent_of}
use Rattle.yaml_lexeme.specs.Place.{Place, skip}
use Rattle.yaml_lexeme.specs.Reading.{Offence, Found, Read, over, many}
use Rattle.yaml_lexeme.proofs.Grammars.HeaderGrammar as head
use Rattle.yaml_lexeme.proofs.Grammars.HeaderGrammar.{header_parts}
use Rattle.yaml_lexeme.proofs.Grammars.LineGrammar as law
use Rattle.yaml_lexeme.proofs.Grammars.LineGrammar.{line_parts}
use Rattle.yaml_lexeme.proofs.LongestLists.BlockLongest.{blank_advances, line_advances, at_end, after_lines, after_next, after_leading, after_start, after_header, block_is, not_refused, end_not_refused}
use Rattle.yaml_lexeme.proofs.LongestLists.LongestParts.{many_longest, many_refused, found_of, refused_of}

module _ (folded : Bool) (level : Option ℕ) (p : Place) (e : Offence) where
  end_refused : (s : Scalar) (indent : ℕ) (q : Place) (r : Result Place Offence) → text_line indent q ≡ over → after_indent (Some indent) q ≡ r → at_end s r ≡ Err e → BlockRefused level p e
  end_refused s indent q (Ok x) none is h = absurd cc
  end_refused s indent q (Err o) none is h = absurd (end_not_refused indent q o none is)

  lines_refused : (header : Found header_t) (start : Place) (leading : List (Piece EmptyLine)) (first next : Place) → header_at (skip 1 p) ≡ Ok header → after_line header.end ≡ Ok start
      → IsLongest (empty_line (set_indent level header.value.digit)) start leading first over → after_indent (set_indent level header.value.digit) first ≡ Ok next
      → (r : Read (List TextLine)) → many (text_line (indent_of level header.value (values leading) next)) first ≡ r → after_lines folded header.value.chomp (values leading) (indent_of level header.value (values leading) next) r ≡ Err e
      → BlockRefused level p e
  lines_refused header start leading first next eh es el en (Ok b) is h =
      let indent = indent_of level header.value (values leading) next in
      let l = many_longest (text_line indent) (line_advances indent) first b is in
      end_refused _ indent b.end (after_indent (Some indent) b.end) l.is.stops refl h
  lines_refused header start leading first next eh es el en (Err o) is h =
      let indent = indent_of level header.value (values leading) next in
      let same : o ≡ e = cc in
      let l = many_refused (text_line indent) (line_advances indent) first e (is ∙ ap (λ (x : Offence). Err x) same) in
      no_text header start leading first next l.0 l.1 ((header_parts (skip 1 p) header).0 eh) ((line_parts header.end start).0 es) el en l.2

  next_refused : (header : Found header_t) (start : Place) (leading : List (Piece EmptyLine)) (first : Place) → header_at (skip 1 p) ≡ Ok header → after_line header.end ≡ Ok start
      → IsLongest (empty_line (set_indent level header.value.digit)) start leading first over
      → (r : Result Place Offence) → after_indent (set_indent level header.value.digit) first ≡ r → after_next folded level header.value (record { value = values leading; end = first }) r ≡ Err e → BlockRefused level p e
  next_refused header start leading first eh es el (Ok next) is h =
      lines_refused header start leading first next eh es el is (many (text_line (indent_of level header.value (values leading) next)) first) refl h
  next_refused header start leading first eh es el (Err o) is h = absurd (not_refused (set_indent level header.value.digit) first o el.stops is)

  leading_refused : (header : Found header_t) (start : Place) → header_at (skip 1 p) ≡ Ok header → after_line header.end ≡ Ok start
      → (r : Read (List EmptyLine)) → many (empty_line (set_indent level header.value.digit)) start ≡ r → after_leading folded level header.value r ≡ Err e → BlockRefused level p e
  leading_refused header start eh es (Ok b) is h =
      let set = set_indent level header.value.digit in
      let l = many_longest (empty_line set) (blank_advances set) start b is in
      next_refused header start l.pieces b.end eh es l.is (after_indent set b.end) refl
      (sym (ap (λ (vs : List EmptyLine). after_next folded level header.value (record { value = vs; end = b.end }) (after_indent set b.end)) l.values_are) ∙ h)
  leading_refused header start eh es (Err o) is h =
      let set = set_indent level header.value.digit in
      let same : o ≡ e = cc in
      let l = many_refused (empty_line set) (blank_advances set) start e (is ∙ ap (λ (x : Offence). Err x) same) in
      no_leading header start l.0 l.1 ((header_parts (skip 1 p) header).0 eh) ((line_parts header.end start).0 es) l.2

  start_refused : (header : Found header_t) → header_at (skip 1 p) ≡ Ok header → (r : Result Place Offence) → after_line header.end ≡ r → after_start folded level header.value r ≡ Err e → BlockRefused level p e
  start_refused header eh (Ok start) is h = leading_refused header start eh is (many (empty_line (set_indent level header.value.digit)) start) refl h
  start_refused header eh (Err o) is h = let same : o ≡ e = cc in no_line_end header ((header_parts (skip 1 p) header).0 eh) ((law.line_refused header.end e).0 (is ∙ ap (λ (x : Offence). Err x) same))

  at_header : (r : Read header_t) → header_at (skip 1 p) ≡ r → after_header folded level r ≡ Err e → BlockRefused level p e
  at_header (Ok header) is h = start_refused header is (after_line header.end) refl h
  at_header (Err o) is h = let same : o ≡ e = cc in no_header ((head.header_refused (skip 1 p) e).0 (is ∙ ap (λ (x : Offence). Err x) same))

  from_header : (header : Found header_t) → header_at (skip 1 p) ≡ Ok header → block folded level p ≡ after_start folded level header.value (after_line header.end)
  from_header header eh = block_is folded level p ∙ ap (after_header folded level) eh

  block_refused_to : BlockRefused level p e → block folded level p ≡ Err e
  block_refused_to (no_header h) = block_is folded level p ∙ ap (after_header folded level) ((head.header_refused (skip 1 p) e).1 h)
  block_refused_to (no_line_end header eh h) = from_header header ((header_parts (skip 1 p) header).1 eh) ∙ ap (after_start folded level header.value) ((law.line_refused header.end e).1 h)
  block_refused_to (no_leading header start leading q eh es h) =
      let set = set_indent level header.value.digit in
      from_header header ((header_parts (skip 1 p) header).1 eh) ∙ ap (after_start folded level header.value) ((line_parts header.end start).1 es)
      ∙ ap (after_leading folded level header.value) (refused_of (empty_line set) (blank_advances set) start leading q e h)
  block_refused_to (no_text header start leading first next lines q eh es el en h) =
      let set = set_indent level header.value.digit in
      let indent = indent_of level header.value (values leading) next in
      from_header header ((header_parts (skip 1 p) header).1 eh) ∙ ap (after_start folded level header.value) ((line_parts header.end start).1 es)
      ∙ ap (after_leading folded level header.value) (found_of (empty_line set) (blank_advances set) start leading first el)
      ∙ ap (after_next folded level header.value (record { value = values leading; end = first })) en
      ∙ ap (after_lines folded header.value.chomp (values leading) indent) (refused_of (text_line indent) (line_advances indent) first lines q e h)

pub block_refused : BlockIsRefused
block_refused folded level p e = (λ h. at_header folded level p e (header_at (skip 1 p)) refl (sym (block_is folded level p) ∙ h), block_refused_to folded level p e)
