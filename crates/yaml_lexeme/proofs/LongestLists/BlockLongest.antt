-- Empty lines and text lines of a block scalar are the longest lists.
use Rattle.std.proofs.Common.{◌≡◌, ℕ, Bool, true, false, not, if◌then◌else◌, List, Option, Some, Ok, Err, Result, refl, sym, ap, ◌∙◌, subst}
use Rattle.yaml_lexeme.specs.declared.block.chomp_t.{chomp_t}
use Rattle.yaml_lexeme.specs.declared.block.header_t.{header_t}
use Rattle.yaml_lexeme.specs.Lexeme.{Scalar}
use Rattle.yaml_lexeme.proofs.LongestLists.LongestParts.{Advances, many_longest, many_refused, found_of, refused_of, others_begin}
use Rattle.yaml_lexeme.proofs.CountedMarks.WholeBlocks.{nearer_ahead, blank_nearer, text_nearer}
use Rattle.yaml_lexeme.proofs.Parts.ReadResults.{value_or, end_or, both}
use Rattle.yaml_lexeme.proofs.Readers.BlockLines.{blank_refused}
use Rattle.yaml_lexeme.proofs.Readers.BlocksAlike.{text_at, text_is, line_with}
use Rattle.yaml_lexeme.specs.Block.{EmptyLine, TextLine, header_at, after_line, after_indent, empty_line, is_text, next_line, text_line, set_indent, block}
use Rattle.yaml_lexeme.specs.Parts.{Piece, values, IsLongest, TextLineParts, TextLineIsParts, TextLineRefused, TextLineIsRefused, BlockParts, BlockIsLines, EmptyLinesAreLongest, TextLinesAreLongest, indent_of, block_scalar}
use Rattle.yaml_lexeme.specs.Parts.TextLineRefused.{own_indent, next_indent}
use Rattle.yaml_lexeme.specs.Place.{Place, skip}
use Rattle.yaml_lexeme.specs.Reading.{Offence, Found, Read, found, ◌>>=◌, Part, part, over, many}

pub blank_advances : (limit : Option ℕ) → Advances (empty_line limit)
blank_advances limit p = nearer_ahead p (empty_line limit p) (blank_nearer limit p)

pub line_advances : (indent : ℕ) → Advances (text_line indent)
line_advances indent p = nearer_ahead p (text_line indent p) (text_nearer indent p)

-- ---- a text line

abbrev with_empties : Place → Read (List EmptyLine) → Part TextLine
with_empties q r = r >>= λ empties. part (line_with q empties.value) empties.end

abbrev value_of : TextLine → Part TextLine → TextLine
value_of a (Ok (Some f)) = f.value
value_of a other = a

abbrev end_of : Place → Part TextLine → Place
end_of p (Ok (Some f)) = f.end
end_of p other = p

module _ (indent : ℕ) (p : Place) (f : Found TextLine) where
  empties_from : (q : Place) → after_indent (Some indent) p ≡ Ok q → is_text indent q ≡ true → (r : Read (List EmptyLine)) → many (empty_line (Some indent)) (next_line q) ≡ r → with_empties q r ≡ part f.value f.end → TextLineParts indent p f
  empties_from q i t (Ok b) e h =
      let l = many_longest (empty_line (Some indent)) (blank_advances (Some indent)) (next_line q) b e in
      record {
        start = q;
        empties = l.pieces;
        indent_is = i;
        text_is = t;
        longest = subst (λ (x : Place). IsLongest (empty_line (Some indent)) (next_line q) l.pieces x over) (ap (end_of b.end) h) l.is;
        value = sym (ap (value_of (line_with q b.value)) h) ∙ ap (λ (vs : List EmptyLine). line_with q vs) l.values_are;
      }
  empties_from q i t (Err o) e h = absurd cc

  text_from : (q : Place) → after_indent (Some indent) p ≡ Ok q → (b : Bool) → is_text indent q ≡ b → (if not b then over else with_empties q (many (empty_line (Some indent)) (next_line q))) ≡ part f.value f.end → TextLineParts indent p f
  text_from q i true t h = empties_from q i t (many (empty_line (Some indent)) (next_line q)) refl h
  text_from q i false t h = absurd cc

  line_from : (r : Result Place Offence) → after_indent (Some indent) p ≡ r → (r >>= text_at indent) ≡ part f.value f.end → TextLineParts indent p f
  line_from (Ok q) i h = text_from q i (is_text indent q) refl h
  line_from (Err o) i h = absurd cc

  line_to : TextLineParts indent p f → text_line indent p ≡ part f.value f.end
  line_to t =
      text_is indent p ∙ ap (λ (r : Result Place Offence). r >>= text_at indent) t.indent_is
      ∙ ap (λ (b : Bool). if not b then over else with_empties t.start (many (empty_line (Some indent)) (next_line t.start))) t.text_is
      ∙ ap (with_empties t.start) (found_of (empty_line (Some indent)) (blank_advances (Some indent)) (next_line t.start) t.empties f.end t.longest)
      ∙ ap (λ (v : TextLine). part v f.end) (sym t.value)

pub text_parts : TextLineIsParts
text_parts indent p f = (λ h. line_from indent p f (after_indent (Some indent) p) refl (sym (text_is indent p) ∙ h), line_to indent p f)

module _ (indent : ℕ) (p : Place) (e : Offence) where
  empties_refused : (q : Place) → after_indent (Some indent) p ≡ Ok q → is_text indent q ≡ true → (r : Read (List EmptyLine)) → many (empty_line (Some indent)) (next_line q) ≡ r → with_empties q r ≡ Err e → TextLineRefused indent p e
  empties_refused q i t (Ok b) is h = absurd cc
  empties_refused q i t (Err o) is h =
      let same : o ≡ e = cc in
      let l = many_refused (empty_line (Some indent)) (blank_advances (Some indent)) (next_line q) e (is ∙ ap (λ (x : Offence). Err x) same) in
      next_indent q l.0 l.1 i t l.2

  text_refused_from : (q : Place) → after_indent (Some indent) p ≡ Ok q → (b : Bool) → is_text indent q ≡ b → (if not b then over else with_empties q (many (empty_line (Some indent)) (next_line q))) ≡ Err e → TextLineRefused indent p e
  text_refused_from q i true t h = empties_refused q i t (many (empty_line (Some indent)) (next_line q)) refl h
  text_refused_from q i false t h = absurd cc

  line_refused_from : (r : Result Place Offence) → after_indent (Some indent) p ≡ r → (r >>= text_at indent) ≡ Err e → TextLineRefused indent p e
  line_refused_from (Ok q) i h = text_refused_from q i (is_text indent q) refl h
  line_refused_from (Err o) i h = let same : o ≡ e = cc in own_indent (i ∙ ap (λ (x : Offence). Err x) same)

  line_refused_to : TextLineRefused indent p e → text_line indent p ≡ Err e
  line_refused_to (own_indent i) = text_is indent p ∙ ap (λ (r : Result Place Offence). r >>= text_at indent) i
  line_refused_to (next_indent q empties x i t l) =
      text_is indent p ∙ ap (λ (r : Result Place Offence). r >>= text_at indent) i
      ∙ ap (λ (b : Bool). if not b then over else with_empties q (many (empty_line (Some indent)) (next_line q))) t
      ∙ ap (with_empties q) (refused_of (empty_line (Some indent)) (blank_advances (Some indent)) (next_line q) empties x e l)

pub text_refused : TextLineIsRefused
text_refused indent p e = (λ h. line_refused_from indent p e (after_indent (Some indent) p) refl (sym (text_is indent p) ∙ h), line_refused_to indent p e)

-- ---- the scalar

abbrev pub at_end : Scalar → Result Place Offence → Read Scalar
at_end s r = r >>= λ end. found s end

-- what is read after each part
abbrev pub after_lines : Bool → chomp_t → List EmptyLine → ℕ → Read (List TextLine) → Read Scalar
after_lines folded chomp leading indent r = r >>= λ lines. at_end (block_scalar folded chomp leading lines.value lines.end) (after_indent (Some indent) lines.end)

abbrev pub after_next : Bool → Option ℕ → header_t → Found (List EmptyLine) → Result Place Offence → Read Scalar
after_next folded level h leading r = r >>= λ next. after_lines folded h.chomp leading.value (indent_of level h leading.value next) (many (text_line (indent_of level h leading.value next)) leading.end)

abbrev pub after_leading : Bool → Option ℕ → header_t → Read (List EmptyLine) → Read Scalar
after_leading folded level h r = r >>= λ leading. after_next folded level h leading (after_indent (set_indent level h.digit) leading.end)

abbrev pub after_start : Bool → Option ℕ → header_t → Result Place Offence → Read Scalar
after_start folded level h r = r >>= λ start. after_leading folded level h (many (empty_line (set_indent level h.digit)) start)

abbrev pub after_header : Bool → Option ℕ → Read header_t → Read Scalar
after_header folded level r = r >>= λ header. after_start folded level header.value (after_line header.end)

pub block_is : (folded : Bool) (level : Option ℕ) (p : Place) → block folded level p ≡ after_header folded level (header_at (skip 1 p))
unfolding block
block_is folded level p = refl

end_from : (s : Scalar) (r : Result Place Offence) (f : Found Scalar) → at_end s r ≡ Ok f → (r ≡ Ok f.end) × (f.value ≡ s)
end_from s (Ok x) f h = (ap (λ (y : Place). Ok y) (ap (end_or x) h), sym (ap (value_or s) h))
end_from s (Err o) f h = absurd cc

module _ (folded : Bool) (level : Option ℕ) (p : Place) (f : Found Scalar) where
  lines_from : (header : Found header_t) (start : Place) (leading : List (Piece EmptyLine)) (first next : Place) → header_at (skip 1 p) ≡ Ok header → after_line header.end ≡ Ok start
      → IsLongest (empty_line (set_indent level header.value.digit)) start leading first over → after_indent (set_indent level header.value.digit) first ≡ Ok next
      → (r : Read (List TextLine)) → many (text_line (indent_of level header.value (values leading) next)) first ≡ r → after_lines folded header.value.chomp (values leading) (indent_of level header.value (values leading) next) r ≡ Ok f
      → BlockParts folded level p f
  lines_from header start leading first next eh es el en (Ok b) e h =
      let indent = indent_of level header.value (values leading) next in
      let l = many_longest (text_line indent) (line_advances indent) first b e in
      let t = end_from (block_scalar folded header.value.chomp (values leading) b.value b.end) (after_indent (Some indent) b.end) f h in
      record {
        header = header;
        start = start;
        leading = leading;
        first = first;
        next = next;
        lines = l.pieces;
        last = b.end;
        header_is = eh;
        start_is = es;
        leading_is = el;
        next_is = en;
        longest = l.is;
        end_is = t.0;
        value = t.1 ∙ ap (λ (vs : List TextLine). block_scalar folded header.value.chomp (values leading) vs b.end) l.values_are;
      }
  lines_from header start leading first next eh es el en (Err o) e h = absurd cc

  next_from : (header : Found header_t) (start : Place) (leading : List (Piece EmptyLine)) (first : Place) → header_at (skip 1 p) ≡ Ok header → after_line header.end ≡ Ok start
      → IsLongest (empty_line (set_indent level header.value.digit)) start leading first over
      → (r : Result Place Offence) → after_indent (set_indent level header.value.digit) first ≡ r → after_next folded level header.value (record { value = values leading; end = first }) r ≡ Ok f → BlockParts folded level p f
  next_from header start leading first eh es el (Ok next) e h =
      lines_from header start leading first next eh es el e (many (text_line (indent_of level header.value (values leading) next)) first) refl h
  next_from header start leading first eh es el (Err o) e h = absurd cc

  leading_from : (header : Found header_t) (start : Place) → header_at (skip 1 p) ≡ Ok header → after_line header.end ≡ Ok start
      → (r : Read (List EmptyLine)) → many (empty_line (set_indent level header.value.digit)) start ≡ r → after_leading folded level header.value r ≡ Ok f → BlockParts folded level p f
  leading_from header start eh es (Ok b) e h =
      let set = set_indent level header.value.digit in
      let l = many_longest (empty_line set) (blank_advances set) start b e in
      next_from header start l.pieces b.end eh es l.is (after_indent set b.end) refl
      (sym (ap (λ (vs : List EmptyLine). after_next folded level header.value (record { value = vs; end = b.end }) (after_indent set b.end)) l.values_are) ∙ h)
  leading_from header start eh es (Err o) e h = absurd cc

  start_from : (header : Found header_t) → header_at (skip 1 p) ≡ Ok header → (r : Result Place Offence) → after_line header.end ≡ r → after_start folded level header.value r ≡ Ok f → BlockParts folded level p f
  start_from header eh (Ok start) e h = leading_from header start eh e (many (empty_line (set_indent level header.value.digit)) start) refl h
  start_from header eh (Err o) e h = absurd cc

  header_from : (r : Read header_t) → header_at (skip 1 p) ≡ r → after_header folded level r ≡ Ok f → BlockParts folded level p f
  header_from (Ok header) e h = start_from header e (after_line header.end) refl h
  header_from (Err o) e h = absurd cc

  block_to : BlockParts folded level p f → block folded level p ≡ Ok f
  block_to q =
      let h = q.header.value in
      let indent = indent_of level h (values q.leading) q.next in
      let s = block_scalar folded h.chomp (values q.leading) (values q.lines) q.last in
      block_is folded level p ∙ ap (after_header folded level) q.header_is ∙ ap (after_start folded level h) q.start_is
      ∙ ap (after_leading folded level h) (found_of (empty_line (set_indent level h.digit)) (blank_advances (set_indent level h.digit)) q.start q.leading q.first q.leading_is)
      ∙ ap (after_next folded level h (record { value = values q.leading; end = q.first })) q.next_is
      ∙ ap (after_lines folded h.chomp (values q.leading) indent) (found_of (text_line indent) (line_advances indent) q.first q.lines q.last q.longest)
      ∙ ap (at_end s) q.end_is ∙ both f s f.end q.value refl

pub block_lines : BlockIsLines
block_lines folded level p f = (λ h. header_from folded level p f (header_at (skip 1 p)) refl (sym (block_is folded level p) ∙ h), block_to folded level p f)

-- the indentation after empty lines is not refused, since there would be an offence in the place of a line
pub not_refused : (limit : Option ℕ) (q : Place) (e : Offence) → empty_line limit q ≡ over → after_indent limit q ≡ Err e → ⊥
not_refused limit q e none h = absurd (let same = sym (blank_refused limit q e h) ∙ none in cc)

-- nor is that after the text lines
pub end_not_refused : (indent : ℕ) (q : Place) (e : Offence) → text_line indent q ≡ over → after_indent (Some indent) q ≡ Err e → ⊥
end_not_refused indent q e none h = absurd (let same = sym (text_is indent q ∙ ap (λ (r : Result Place Offence). r >>= text_at indent) h) ∙ none in cc)

pub empties_longest : EmptyLinesAreLongest
empties_longest limit = others_begin (empty_line limit)

pub lines_longest : TextLinesAreLongest
lines_longest indent = others_begin (text_line indent)
