-- A literal or folded scalar is the same if the indentation of the line that follows is read with each line.
use Rattle.std.proofs.Common.{◌≡◌, ℕ, zero, suc, ◌+◌, ◌-◌, ◌<◌, min, Bool, true, false, not, ◌&&◌, ◌==◌, if◌then◌else◌, List, [], ◌∷◌, ◌++◌, length, get_or, map, Option, Some, None, Result, Ok, Err, refl, sym, ap, ◌∙◌, arith, append_assoc, eqb-true}
use Rattle.std.proofs.lemmas.List.Sums.{prefix_len-le-length, prefix_len_passes}
use Rattle.yaml_text.specs.declared.types.yaml_mark_t.{yaml_mark_t}
use Rattle.yaml_text.specs.Chars.{utf8}
use Rattle.yaml_text.specs.Classes.{is_break}
use Rattle.yaml_lexeme.specs.declared.block.chomp_t.{chomp_t}
use Rattle.yaml_lexeme.specs.declared.block.chomp_t.TheVariants.{STRIP, CLIP, KEEP}
use Rattle.yaml_lexeme.specs.declared.block.header_t.{header_t}
use Rattle.yaml_lexeme.specs.declared.problem.yaml_problem_t.TheVariants.{TAB_IN_INDENTATION}
use Rattle.yaml_lexeme.specs.Block.{EmptyLine, TextLine, header_at, after_line, after_indent, empty_line}
use Rattle.yaml_lexeme.specs.Block.{breaks_of, break_at, is_text, next_line, text_line, joined, last_of, chomped}
use Rattle.yaml_lexeme.specs.Block.{block_value, set_indent, block_indent, block}
use Rattle.yaml_lexeme.specs.Greatest.{greatest}
use Rattle.yaml_lexeme.specs.Classes.{is_in_line}
use Rattle.yaml_lexeme.specs.inside.BlockAhead as old
use Rattle.yaml_lexeme.specs.inside.BlockAhead.{Line, blanks_of, blank_lines, line_at, value_after, end_of, block_ahead}
use Rattle.yaml_lexeme.specs.inside.BlockAhead.{is_indenting}
use Rattle.yaml_lexeme.specs.Lexeme.{Scalar}
use Rattle.yaml_lexeme.specs.Place.{Place, first, skip, run, run_len, after_run}
use Rattle.yaml_lexeme.specs.Reading.{Offence, Found, Read, found, refuse, ◌>>=◌, Part, part, over, many, with_front, go_on}
use Rattle.yaml_lexeme.proofs.CountedMarks.WholeBlocks.{nearer_shorter, text_nearer, text_shortens}
use Rattle.yaml_lexeme.proofs.Parts.PartByPart.{Shortens, many_turn}
use Rattle.yaml_lexeme.proofs.Readers.QuotedRuns.{column_after}

-- ---- values

-- a line, without the mark after it
abbrev line_of : Line → TextLine
line_of l = record { text = l.text; break = l.break; empties = l.empties }

abbrev lines_value : Bool → chomp_t → TextLine → List TextLine → List ℕ
lines_value folded chomp a ls = joined folded a ls ++ chomped chomp (last_of a ls)

chomped_same : (chomp : chomp_t) (l : Line) → chomped chomp (line_of l) ≡ old.chomped chomp l
chomped_same STRIP l = refl
chomped_same CLIP l = refl
chomped_same KEEP l = refl

value_same : (folded : Bool) (chomp : chomp_t) (a : Line) (ls : List Line) → lines_value folded chomp (line_of a) (map line_of ls) ≡ a.text ++ value_after folded chomp a ls
value_same folded chomp a [] = ap (λ (xs : List ℕ). a.text ++ xs) (chomped_same chomp a)
value_same folded chomp a (b ∷ ls) =
    let x = old.between folded a b in
    let j = joined folded (line_of b) (map line_of ls) in
    let c = chomped chomp (last_of (line_of b) (map line_of ls)) in
    let v = value_after folded chomp b ls in
    append_assoc (a.text ++ x) j c ∙ ap (λ (xs : List ℕ). a.text ++ x ++ xs) (value_same folded chomp b ls)
    ∙ append_assoc a.text x (b.text ++ v) ∙ ap (λ (xs : List ℕ). a.text ++ xs) (sym (append_assoc x b.text v))

-- before the first text line
abbrev before_lines : List ℕ → yaml_mark_t → Line
before_lines leading m = record { text = []; break = None; empties = leading; end = m }

first_of : (folded : Bool) (chomp : chomp_t) (leading : List ℕ) (m : yaml_mark_t) (ls : List Line) → value_after folded chomp (before_lines leading m) ls ≡ old.block_value folded chomp leading ls
first_of folded STRIP leading m [] = refl
first_of folded CLIP leading m [] = refl
first_of folded KEEP leading m [] = refl
first_of true chomp leading m (l ∷ ls) = refl
first_of false chomp leading m (l ∷ ls) = refl

blocks_value : (folded : Bool) (chomp : chomp_t) (leading : List ℕ) (m : yaml_mark_t) (ls : List Line) → block_value folded chomp leading (map line_of ls) ≡ old.block_value folded chomp leading ls
blocks_value folded chomp leading m ls = value_same folded chomp (before_lines leading m) ls ∙ first_of folded chomp leading m ls

-- ---- text lines

-- a text line, and the empty lines after it
abbrev pub line_with : Place → List EmptyLine → TextLine
line_with q empties = record { text = run is_in_line q; break = break_at (after_run is_in_line q); empties = breaks_of empties }

-- what is after indentation
abbrev pub text_at : ℕ → Place → Part TextLine
text_at indent q =
    if not (is_text indent q) then over
    else many (empty_line (Some indent)) (next_line q) >>= λ empties. part (line_with q empties.value) empties.end

pub text_is : (indent : ℕ) (p : Place) → text_line indent p ≡ after_indent (Some indent) p >>= text_at indent
unfolding text_line
text_is indent p = refl

shortens : (indent : ℕ) → Shortens (text_line indent)
shortens indent p = nearer_shorter p (text_line indent p) (text_nearer indent p)

-- lines, and the mark after the last one
abbrev Pair : Type 0
Pair = List TextLine × yaml_mark_t

abbrev then_indent : ℕ → Read (List TextLine) → Read Pair
then_indent indent r = r >>= λ ls. after_indent (Some indent) ls.end >>= λ x. found (ls.value, ls.end.mark) x

abbrev with_mark : yaml_mark_t → Read (List Line) → Read Pair
with_mark m r = r >>= λ ls. found (map line_of ls.value, end_of m ls.value) ls.end

abbrev push : TextLine → Read Pair → Read Pair
push a r = r >>= λ t. found (a ∷ t.value.0, t.value.1) t.end

push_at : (r : Result Place Offence) (a : TextLine) (ls : List TextLine) (m : yaml_mark_t) → (r >>= λ x. found (a ∷ ls, m) x) ≡ push a (r >>= λ x. found (ls, m) x)
push_at (Ok x) a ls m = refl
push_at (Err e) a ls m = refl

push_indent : (indent : ℕ) (a : TextLine) (r : Read (List TextLine)) → then_indent indent (with_front (a ∷ []) r) ≡ push a (then_indent indent r)
push_indent indent a (Ok ls) = push_at (after_indent (Some indent) ls.end) a ls.value ls.end.mark
push_indent indent a (Err e) = refl

push_mark : (l : Line) (m : yaml_mark_t) (r : Read (List Line)) → with_mark m (with_front (l ∷ []) r) ≡ push (line_of l) (with_mark l.end r)
push_mark l m (Ok ls) = refl
push_mark l m (Err e) = refl

-- the line as it is read with the indentation of the next one
abbrev line_ahead : Place → Read old.Blanks → Read Line
line_ahead q r = r >>= λ b. found (record { text = run is_in_line q; break = break_at (after_run is_in_line q); empties = b.value.breaks; end = b.value.end }) b.end

abbrev blanks_ahead : ℕ → Read (List EmptyLine) → Read old.Blanks
blanks_ahead indent r = r >>= λ lines. after_indent (Some indent) lines.end >>= λ next. found (blanks_of lines.value lines.end.mark) next

old_text_is : (indent : ℕ) (q : Place) → old.text_line indent q ≡ (if is_text indent q then (line_ahead q (blanks_ahead indent (many (empty_line (Some indent)) (next_line q))) >>= λ l. part l.value l.end) else over)
unfolding old.text_line line_at blank_lines
old_text_is indent q = refl

no_lines : (indent : ℕ) (p : Place) (o : Offence) → after_indent (Some indent) p ≡ Err o → many (text_line indent) p ≡ Err o
no_lines indent p o e = many_turn (text_line indent) (shortens indent) p ∙ ap (λ (r : Part TextLine). r >>= λ a. go_on (many (text_line indent)) p a) (text_is indent p ∙ ap (λ (r : Result Place Offence). r >>= text_at indent) e)

module _ (indent : ℕ) (p q : Place) (e : after_indent (Some indent) p ≡ Ok q)
    (more : (x y : Place) → length x.rest < length p.rest → after_indent (Some indent) x ≡ Ok y
    → then_indent indent (many (text_line indent) x) ≡ with_mark x.mark (many (old.text_line indent) y)) where
  abbrev new_turn : Part TextLine → Read Pair
  new_turn r = then_indent indent (r >>= λ a. go_on (many (text_line indent)) p a)

  abbrev old_turn : Part Line → Read Pair
  old_turn r = with_mark p.mark (r >>= λ a. go_on (many (old.text_line indent)) q a)

  at_next : (es : Found (List EmptyLine)) → length es.end.rest < length p.rest → (r : Result Place Offence) → after_indent (Some indent) es.end ≡ r
      → new_turn (part (line_with q es.value) es.end) ≡ old_turn (line_ahead q (r >>= λ next. found (blanks_of es.value es.end.mark) next) >>= λ l. part l.value l.end)
  at_next es short (Ok x) h =
      push_indent indent (line_with q es.value) (many (text_line indent) es.end)
      ∙ ap (push (line_with q es.value)) (more es.end x short h)
      ∙ sym (push_mark (record { text = run is_in_line q; break = break_at (after_run is_in_line q); empties = breaks_of es.value; end = es.end.mark }) p.mark (many (old.text_line indent) x))
  at_next es short (Err o) h =
      push_indent indent (line_with q es.value) (many (text_line indent) es.end)
      ∙ ap (λ (r : Read (List TextLine)). push (line_with q es.value) (then_indent indent r)) (no_lines indent es.end o h)

  at_blanks : (r : Read (List EmptyLine)) → ((es : Found (List EmptyLine)) → r ≡ Ok es → length es.end.rest < length p.rest)
      → new_turn (r >>= λ empties. part (line_with q empties.value) empties.end) ≡ old_turn (line_ahead q (blanks_ahead indent r) >>= λ l. part l.value l.end)
  at_blanks (Ok es) short = at_next es (short es refl) (after_indent (Some indent) es.end) refl
  at_blanks (Err o) short = refl

  at_text : (b : Bool) (r : Read (List EmptyLine)) → (b ≡ true → (es : Found (List EmptyLine)) → r ≡ Ok es → length es.end.rest < length p.rest)
      → new_turn (if not b then over else (r >>= λ empties. part (line_with q empties.value) empties.end))
      ≡ old_turn (if b then (line_ahead q (blanks_ahead indent r) >>= λ l. part l.value l.end) else over)
  at_text true r short = at_blanks r (short refl)
  at_text false r short = ap (λ (r : Result Place Offence). r >>= λ x. found {A = Pair} ([], p.mark) x) e

  read_is : text_line indent p ≡ text_at indent q
  read_is = text_is indent p ∙ ap (λ (r : Result Place Offence). r >>= text_at indent) e

  shorter_end : is_text indent q ≡ true → (es : Found (List EmptyLine)) → many (empty_line (Some indent)) (next_line q) ≡ Ok es → length es.end.rest < length p.rest
  shorter_end b es h =
      let there : text_line indent p ≡ part (line_with q es.value) es.end = read_is ∙ rw (b, h) refl in
      rw there at (shortens indent p)

  turns_alike : then_indent indent (many (text_line indent) p) ≡ with_mark p.mark (many (old.text_line indent) q)
  turns_alike =
      ap (then_indent indent) (many_turn (text_line indent) (shortens indent) p)
      ∙ ap new_turn read_is
      ∙ at_text (is_text indent q) (many (empty_line (Some indent)) (next_line q)) shorter_end
      ∙ ap old_turn (sym (old_text_is indent q))
      ∙ ap (with_mark p.mark) (sym (many_turn (old.text_line indent) (text_shortens indent) q))

alike_within : (k indent : ℕ) (p q : Place) → length p.rest < k → after_indent (Some indent) p ≡ Ok q
    → then_indent indent (many (text_line indent) p) ≡ with_mark p.mark (many (old.text_line indent) q)
alike_within zero indent p q h e = absurd (omega arith)
alike_within (suc k) indent p q h e = turns_alike indent p q e (λ x y l f. alike_within k indent x y (omega arith) f)

-- ---- the first text line

-- the indentation that is found by its spaces is that of the column found
spaces_clean : (p : Place) (i : ℕ) → i < run_len (λ c. c == 0x20) p → is_break (get_or p.rest i 0) ≡ false
spaces_clean p i h =
    let space : get_or p.rest i 0 ≡ 0x20 = eqb-true (get_or p.rest i 0) 0x20 (prefix_len_passes (λ (c : ℕ). c == 0x20) p.rest i 0 h) in
    ap is_break space

no_tab : (b : Bool) (x q : Place) → (if b && true then refuse TAB_IN_INDENTATION x else Ok x) ≡ Ok q → (b ≡ false) × (x ≡ q)
no_tab true x q e = absurd cc
no_tab false x q e = let same : x ≡ q = cc in (refl, same)

found_column : (limit : Option ℕ) (indent : ℕ) (p q : Place) (level : Option ℕ) (columns : ℕ) → indent ≡ block_indent level limit columns q.mark.column → after_indent limit p ≡ Ok q → after_indent (Some indent) p ≡ Ok q
unfolding after_indent
found_column (Some n) indent p q level columns i e = rw i e
found_column None indent p q level columns i e =
    let s = run_len (λ c. c == 0x20) p in
    let x = skip s p in
    let t = no_tab (first x == 0x09) x q e in
    let column : x.mark.column ≡ p.mark.column + s = column_after s p (prefix_len-le-length (λ c. c == 0x20) p.rest) (spaces_clean p) in
    let there : q.mark.column ≡ x.mark.column = ap (λ (y : Place). y.mark.column) (sym t.1) in
    let all : min s (indent - p.mark.column) ≡ s = omega arith in
    rw (all, t.0) (ap (λ (y : Place). Ok y) t.1)

-- ---- the scalar

bind_same : {A B : Type 0} → (r : Result A Offence) (f g : A → Result B Offence) → ((x : A) → r ≡ Ok x → f x ≡ g x) → (r >>= f) ≡ (r >>= g)
bind_same (Ok x) f g h = h x refl
bind_same (Err e) f g h = refl

abbrev scalar : Bool → chomp_t → List ℕ → Pair → Scalar
scalar folded chomp leading t = record { value = utf8 (block_value folded chomp leading t.0); end = t.1; passed_break = false }

abbrev whole : Bool → chomp_t → List ℕ → Read Pair → Read Scalar
whole folded chomp leading r = r >>= λ t. found (scalar folded chomp leading t.value) t.end

end_at : (folded : Bool) (chomp : chomp_t) (leading : List ℕ) (ls : List TextLine) (m : yaml_mark_t) (r : Result Place Offence)
    → (r >>= λ end. found (record { value = utf8 (block_value folded chomp leading ls); end = m; passed_break = false }) end) ≡ whole folded chomp leading (r >>= λ x. found (ls, m) x)
end_at folded chomp leading ls m (Ok x) = refl
end_at folded chomp leading ls m (Err e) = refl

new_whole : (folded : Bool) (chomp : chomp_t) (leading : List ℕ) (indent : ℕ) (r : Read (List TextLine))
    → (r >>= λ lines. after_indent (Some indent) lines.end >>= λ end. found (record { value = utf8 (block_value folded chomp leading lines.value); end = lines.end.mark; passed_break = false }) end)
    ≡ whole folded chomp leading (then_indent indent r)
new_whole folded chomp leading indent (Ok ls) = end_at folded chomp leading ls.value ls.end.mark (after_indent (Some indent) ls.end)
new_whole folded chomp leading indent (Err e) = refl

old_whole : (folded : Bool) (chomp : chomp_t) (leading : List ℕ) (m : yaml_mark_t) (r : Read (List Line))
    → (r >>= λ lines. found (record { value = utf8 (old.block_value folded chomp leading lines.value); end = end_of m lines.value; passed_break = false }) lines.end)
    ≡ whole folded chomp leading (with_mark m r)
old_whole folded chomp leading m (Ok ls) =
    ap (λ (xs : List ℕ). found {A = Scalar} (record { value = utf8 xs; end = end_of m ls.value; passed_break = false }) ls.end) (sym (blocks_value folded chomp leading m ls.value))
old_whole folded chomp leading m (Err e) = refl

module _ (folded : Bool) (level : Option ℕ) (header : header_t) where
  abbrev columns : List EmptyLine → ℕ
  columns es = greatest (map (λ b. b.column) es)

  abbrev new_lines : List EmptyLine → Place → Place → Read Scalar
  new_lines es p next =
      let indent = block_indent level (set_indent level header.digit) (columns es) next.mark.column in
      many (text_line indent) p >>= λ lines.
      after_indent (Some indent) lines.end >>= λ end.
      found (record { value = utf8 (block_value folded header.chomp (breaks_of es) lines.value); end = lines.end.mark; passed_break = false }) end

  abbrev old_lines : Found old.Blanks → Read Scalar
  old_lines leading =
      many (old.text_line (block_indent level (set_indent level header.digit) leading.value.column leading.end.mark.column)) leading.end >>= λ lines.
      found (record { value = utf8 (old.block_value folded header.chomp leading.value.breaks lines.value); end = end_of leading.value.end lines.value; passed_break = false }) lines.end

  lines_alike : (es : List EmptyLine) (p next : Place) → after_indent (set_indent level header.digit) p ≡ Ok next → new_lines es p next ≡ old_lines (record { value = blanks_of es p.mark; end = next })
  lines_alike es p next e =
      let indent = block_indent level (set_indent level header.digit) (columns es) next.mark.column in
      new_whole folded header.chomp (breaks_of es) indent (many (text_line indent) p)
      ∙ ap (whole folded header.chomp (breaks_of es)) (alike_within (length p.rest + 1) indent p next (omega arith) (found_column (set_indent level header.digit) indent p next level (columns es) refl e))
      ∙ sym (old_whole folded header.chomp (breaks_of es) p.mark (many (old.text_line indent) next))

  after_alike : (es : Found (List EmptyLine)) (r : Result Place Offence) → after_indent (set_indent level header.digit) es.end ≡ r
      → (r >>= new_lines es.value es.end) ≡ ((r >>= λ next. found (blanks_of es.value es.end.mark) next) >>= old_lines)
  after_alike es (Ok next) e = lines_alike es.value es.end next e
  after_alike es (Err o) e = refl

  leading_alike : (r : Read (List EmptyLine))
      → (r >>= λ es. after_indent (set_indent level header.digit) es.end >>= new_lines es.value es.end)
      ≡ ((r >>= λ es. after_indent (set_indent level header.digit) es.end >>= λ next. found (blanks_of es.value es.end.mark) next) >>= old_lines)
  leading_alike (Ok es) = after_alike es (after_indent (set_indent level header.digit) es.end) refl
  leading_alike (Err e) = refl

-- both readings are the same
pub blocks_alike : (folded : Bool) (level : Option ℕ) (p : Place) → block folded level p ≡ block_ahead folded level p
unfolding block block_ahead blank_lines
blocks_alike folded level p =
    bind_same (header_at (skip 1 p)) _ _ (λ header e. bind_same (after_line header.end) _ _ (λ start f. leading_alike folded level header.value (many (empty_line (set_indent level header.value.digit)) start)))
