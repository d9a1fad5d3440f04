-- What a line of a plain scalar holds unchanged is kept in one piece.
use Rattle.std.proofs.Common.{◌≡◌, ◌==◌, ◌&&◌, ◌||◌, not, ℕ, zero, suc, ◌+◌, ◌-◌, ◌<◌, ◌≤◌, inl, inr, Bool, true, false, List, [], ◌∷◌, ◌++◌, length, get_or, take, drop, None, Ok, Err, refl, sym, ap, ◌∙◌, subst, arith, add-zero, append_assoc, take-add, le-ltb, ne_eqb, if◌then◌else◌}
use Rattle.std.specs.Prelude.{IsTrue, nat_le, nat_lt}
use Rattle.std.specs.List.{prefix_len, list_any}
use Rattle.std.specs.Char.{encode_utf8, len_utf8}
use Rattle.std.proofs.lemmas.Bool.{cases_Bool, cases_lt, leb-true, le-leb, and_right}
use Rattle.std.proofs.lemmas.Bool.Decides.{nat_tests}
use Rattle.std.proofs.lemmas.List.{append-nil, get_or-drop, length-drop}
use Rattle.std.proofs.lemmas.List.Sums.{prefix_len-le-length, prefix_len_passes, prefix_len_stops}
use Rattle.std.proofs.lemmas.Str.{encodes-append}
use Rattle.yaml_text.specs.declared.types.yaml_mark_t.{yaml_mark_t}
use Rattle.yaml_text.specs.Chars.{utf8}
use Rattle.yaml_text.specs.Classes.{is_blank, is_break}
use Rattle.yaml_lexeme.specs.declared.problem.yaml_problem_t.TheVariants.{COLON_IN_FLOW}
use Rattle.yaml_lexeme.specs.declared.problem.yaml_refusal_t.{yaml_refusal_t}
use Rattle.yaml_lexeme.specs.declared.problem.yaml_refusal_t.TheVariants as errors
use Rattle.yaml_lexeme.proofs.Parts.PartByPart.{joined, many_turn, reads_all, reads_none, no_front}
use Rattle.yaml_lexeme.proofs.Readers.QuotedRuns.{fold_none, no_breaks, column_after, no_marker, space_first, stop_le, first_one}
use Rattle.yaml_lexeme.proofs.Places.PlaceMoves.{skip_none, skip_skip, length_skip, after_run_more, after_none, first_on, rest_skip, solid, feed_break}
use Rattle.yaml_lexeme.proofs.Readers.PlainLinks.{link_none, tab_from, separator_is, chunk_more, chunk_stop, chunk_there, Gap, at_gap, Passes, passes_more, passes_spaces, passes_all, passed, same_none, link_shortens, tail_all, tail_none, scalar_at, plain_is, after_head}
use Rattle.yaml_lexeme.proofs.ManyBytes.TrimmedLists.{trims_at}
use Rattle.yaml_lexeme.specs.Classes.{is_white}
use Rattle.yaml_lexeme.specs.Fold.{fold}
use Rattle.yaml_lexeme.specs.inside.Gives.{Refuses, TakesPart}
use Rattle.yaml_lexeme.specs.Kind.{is_marker}
use Rattle.yaml_lexeme.specs.Place.{Place, first, peek, skip, run, run_len, after_run, break_len}
use Rattle.yaml_lexeme.specs.inside.Moves.{is_feed}
use Rattle.yaml_lexeme.specs.declared.runs.class_t.TheVariants.{SPACE}
use Rattle.yaml_lexeme.specs.Plain.{is_bad_colon, is_chunk, chunk, separator, is_over, link, plain}
use Rattle.yaml_lexeme.specs.Reading.{Offence, Read, found, refuse, Part, part, over, many, with_front, go_on, ◌>>=◌}
use Rattle.yaml_lexeme.specs.inside.Runs.{class_test, trim, Stands}
use Rattle.yaml_lexeme.specs.inside.Words.{links, words, plain_of, Ends, Goes, is_bad_tab, untabbed}

two_fronts : (a b : List ℕ) (r : Read (List ℕ)) → with_front a (with_front b r) ≡ with_front (a ++ b) r
two_fronts a b (Ok f) = ap (λ (xs : List ℕ). found xs f.end) (sym (append_assoc a b f.value))
two_fronts a b (Err e) = refl

-- what follows a chunk
abbrev then_links : Bool → ℕ → Read (List ℕ) → Read (List ℕ)
then_links flow least r = r >>= λ c. with_front (utf8 c.value) (links flow least c.end)

front_links : (flow : Bool) (least c : ℕ) (r : Read (List ℕ)) → then_links flow least (with_front (c ∷ []) r) ≡ with_front (encode_utf8 c) (then_links flow least r)
front_links flow least c (Ok f) = sym (two_fronts (encode_utf8 c) (utf8 f.value) (links flow least f.end))
front_links flow least c (Err e) = refl

-- a character of a chunk
pub words_more : (flow : Bool) (least : ℕ) (p : Place) → is_chunk flow (first p) (peek p 1) ≡ true → words flow least p ≡ with_front (encode_utf8 (first p)) (words flow least (skip 1 p))
words_more flow least p h = ap (then_links flow least) (chunk_more flow p h) ∙ front_links flow least (first p) (chunk flow (skip 1 p))

-- the chunk is over
pub words_links : (flow : Bool) (least : ℕ) (p : Place) → is_chunk flow (first p) (peek p 1) ≡ false → is_bad_colon flow (first p) (peek p 1) ≡ false → words flow least p ≡ links flow least p
words_links flow least p h b =
    let c : chunk flow p ≡ found [] p = chunk_stop flow p h ∙ rw b refl in
    ap (then_links flow least) c ∙ no_front (links flow least p)

pub words_colon : (flow : Bool) (least : ℕ) (p : Place) → is_chunk flow (first p) (peek p 1) ≡ false → is_bad_colon flow (first p) (peek p 1) ≡ true → words flow least p ≡ refuse COLON_IN_FLOW p
words_colon flow least p h b =
    let c : chunk flow p ≡ refuse COLON_IN_FLOW p = chunk_stop flow p h ∙ rw b refl in
    ap (then_links flow least) c

-- ---- a link

joined_one : (flow : Bool) (least : ℕ) (a : List ℕ) (r : Read (List (List ℕ))) → joined utf8 (with_front (a ∷ []) r) ≡ with_front (utf8 a) (joined utf8 r)
joined_one flow least a (Ok r) = refl
joined_one flow least a (Err e) = refl

abbrev with_gap : List ℕ → Read (List ℕ) → Part (List ℕ)
with_gap gap r = r >>= λ c. if length c.value == 0 then over else part (gap ++ c.value) c.end

open_link : (flow : Bool) (least c : ℕ) (gap : List ℕ) (p : Place) (x : Read (List ℕ))
    → joined utf8 (with_gap gap (with_front (c ∷ []) x) >>= λ a. go_on (many (link flow least)) p a) ≡ with_front (utf8 gap) (then_links flow least (with_front (c ∷ []) x))
open_link flow least c gap p (Ok f) =
    let some : (suc (length f.value) == 0) ≡ false = ne_eqb (suc (length f.value)) 0 (λ e. omega arith) in
    let cs = c ∷ f.value in
    rw some (joined_one flow least (gap ++ cs) (many (link flow least) f.end) ∙ ap (λ (xs : List ℕ). with_front xs (links flow least f.end)) (encodes-append gap cs) ∙ sym (two_fronts (utf8 gap) (utf8 cs) (links flow least f.end)))
open_link flow least c gap p (Err e) = refl

-- after a separator the words go on
pub links_open : (flow : Bool) (least : ℕ) (p q : Place) → Gap flow least p q → is_over flow least q ≡ false → is_chunk flow (first q) (peek q 1) ≡ true → links flow least p ≡ with_front (utf8 (fold (run is_white p))) (words flow least q)
links_open flow least p q g o h =
    let gap = fold (run is_white p) in
    let c = chunk_more flow q h in
    let one : link flow least p ≡ with_gap gap (with_front (first q ∷ []) (chunk flow (skip 1 q))) = at_gap flow least p q g ∙ rw (o, c) refl in
    ap (joined utf8) (many_turn (link flow least) (link_shortens flow least) p ∙ ap (λ r. r >>= λ a. go_on (many (link flow least)) p a) one)
    ∙ open_link flow least (first q) gap p (chunk flow (skip 1 q))
    ∙ ap (λ r. with_front (utf8 gap) (then_links flow least r)) (sym c)

-- ---- blanks within a line

-- no break, no tab in indentation
tab_none : (least : ℕ) (m : yaml_mark_t) (cs : List ℕ) → ((i : ℕ) → i < prefix_len is_white cs → is_break (get_or cs i 0) ≡ false) → tab_from least false m cs ≡ None
tab_none least m [] h = refl
tab_none least m (c ∷ cs) h =
    elim (cases_Bool (is_white c)) [
      | inl w ↦
          let k : prefix_len is_white (c ∷ cs) ≡ 1 + prefix_len is_white cs = rw w refl in
          let b : is_break c ≡ false = h 0 (omega (arith, k)) in
          let m' : yaml_mark_t = record { index = m.index + len_utf8 c; line = m.line; column = m.column + 1 } in
          rw (w, and_right (c == 0x09) false refl, b) (tab_none least m' cs (λ i l. h (suc i) (omega (arith, k))))
      | inr o ↦ rw o refl
    ]

-- a line at p goes on at any column after its first character
abbrev pub GoesFar : Bool → ℕ → Place → Type 0
GoesFar flow least p = IsTrue (flow || nat_le least (p.mark.column + 1))

over_not : (flow : Bool) (least c k : ℕ) → 0 < k → IsTrue (flow || nat_le least (c + 1)) → (not flow && nat_lt (c + k) least) ≡ false
over_not true least c k some h = refl
over_not false least c k some h = let l : least ≤ c + 1 = leb-true least (c + 1) h in le-ltb (c + k) least (omega arith)

-- what the class says of a character
pub line_char : (flow : Bool) (c : ℕ) → class_test (plain_of flow) c ≡ true → (is_break c ≡ false) × ((c == 0x23) ≡ false)
line_char true c h = (grind (arith, nat_tests), grind (arith, nat_tests))
line_char false c h = (grind (arith, nat_tests), grind (arith, nat_tests))

pub solid_chunk : (flow : Bool) (c next : ℕ) → class_test (plain_of flow) c ≡ true → is_white c ≡ false → is_chunk flow c next ≡ true
solid_chunk true c next h w = grind (arith, nat_tests)
solid_chunk false c next h w = grind (arith, nat_tests)

pub white_chunk : (flow : Bool) (c next : ℕ) → is_white c ≡ true → (is_chunk flow c next ≡ false) × (is_bad_colon flow c next ≡ false)
white_chunk true c next w = (grind (arith, nat_tests), grind (arith, nat_tests))
white_chunk false c next w = (grind (arith, nat_tests), refl)

-- blanks of a line, and the words after them
words_blanks : (flow : Bool) (least n : ℕ) (p : Place) → n ≡ prefix_len is_white p.rest → is_white (first p) ≡ true → 0 < n → ((i : ℕ) → i < n → is_break (get_or p.rest i 0) ≡ false) → GoesFar flow least p
    → class_test (plain_of flow) (first (skip n p)) ≡ true → is_white (first (skip n p)) ≡ false → words flow least p ≡ with_front (utf8 (take n p.rest)) (words flow least (skip n p))
words_blanks flow least n p e w some clean far line solid =
    let q = skip n p in
    let at : after_run is_white p ≡ q = ap (λ i. skip i p) (sym e) in
    let tab : tab_from least false p.mark p.rest ≡ None = tab_none least p.mark p.rest (λ i l. clean i (omega (arith, e))) in
    let read : separator least p ≡ found (fold (run is_white p)) q = separator_is least p ∙ ap (λ o. untabbed o (fold (run is_white p)) (after_run is_white p)) tab ∙ ap (λ (x : Place). found (fold (run is_white p)) x) at in
    let within : n ≤ length p.rest = omega (arith, e, prefix_len-le-length is_white p.rest) in
    let col : q.mark.column ≡ p.mark.column + n = column_after n p within clean in
    let unmark : is_marker q ≡ false = no_marker q (omega (arith, col)) in
    let a : (not flow && nat_lt q.mark.column least) ≡ false = ap (λ i. not flow && nat_lt i least) col ∙ over_not flow least p.mark.column n some far in
    let b : (first q == 0x23) ≡ false = (line_char flow (first q) line).1 in
    let o : is_over flow least q ≡ false = rw (a, unmark, b) refl in
    let value : fold (run is_white p) ≡ take n p.rest = ap (λ i. fold (take i p.rest)) (sym e) ∙ fold_none (take n p.rest) (no_breaks n p.rest clean) in
    let none = white_chunk flow (first p) (peek p 1) w in
    words_links flow least p none.0 none.1
    ∙ links_open flow least p q (record { space = w; read = read }) o (solid_chunk flow (first q) (peek q 1) line solid)
    ∙ ap (λ (xs : List ℕ). with_front (utf8 xs) (words flow least q)) value

-- ---- a run of words

-- The first k characters are within a line, and the last of them is not white.
pub record Solid (flow : Bool) (k : ℕ) (cs : List ℕ) : Type 0 where
  pub within : k ≤ length cs
  pub each : (i : ℕ) → i < k → class_test (plain_of flow) (get_or cs i 0) ≡ true
  pub last : 0 < k → is_white (get_or cs (k - 1) 0) ≡ false

solid_after : (flow : Bool) (a b k : ℕ) (cs : List ℕ) → a + b ≡ k → 0 < b → Solid flow k cs → Solid flow b (drop a cs)
solid_after flow a b k cs e some s = record {
  within = omega (arith, length-drop a cs, s.within);
  each = λ i h. ap (class_test (plain_of flow)) (get_or-drop a cs i 0) ∙ s.each (a + i) (omega arith);
  last = λ h. let i : a + (b - 1) ≡ k - 1 = omega arith in ap is_white (get_or-drop a cs (b - 1) 0 ∙ ap (λ n. get_or cs n 0) i) ∙ s.last (omega arith);
}

far_on : (flow : Bool) (least : ℕ) (p q : Place) → p.mark.column ≤ q.mark.column → GoesFar flow least p → GoesFar flow least q
far_on true least p q h f = refl
far_on false least p q h f = let l : least ≤ p.mark.column + 1 = leb-true least (p.mark.column + 1) f in le-leb least (q.mark.column + 1) (omega arith)

two : (flow : Bool) (least : ℕ) (p : Place) (a b k : ℕ) → a + b ≡ k → words flow least p ≡ with_front (utf8 (take a p.rest)) (words flow least (skip a p))
    → words flow least (skip a p) ≡ with_front (utf8 (take b (skip a p).rest)) (words flow least (skip b (skip a p))) → words flow least p ≡ with_front (utf8 (take k p.rest)) (words flow least (skip k p))
two flow least p a b k e x y =
    let place : skip b (skip a p) ≡ skip k p = skip_skip a b p ∙ ap (λ n. skip n p) e in
    let t : take k p.rest ≡ take a p.rest ++ take b (drop a p.rest) = ap (λ n. take n p.rest) (sym e) ∙ take-add a b p.rest in
    let bytes : utf8 (take a p.rest) ++ utf8 (take b (skip a p).rest) ≡ utf8 (take k p.rest) =
    ap (λ (xs : List ℕ). utf8 (take a p.rest) ++ utf8 (take b xs)) (rest_skip a p) ∙ sym (encodes-append (take a p.rest) (take b (drop a p.rest))) ∙ ap utf8 (sym t) in
    x ∙ ap (with_front (utf8 (take a p.rest))) y ∙ two_fronts (utf8 (take a p.rest)) (utf8 (take b (skip a p).rest)) (words flow least (skip b (skip a p)))
    ∙ ap (λ (xs : List ℕ). with_front xs (words flow least (skip b (skip a p)))) bytes ∙ ap (λ (r : Place). with_front (utf8 (take k p.rest)) (words flow least r)) place

-- They are read at once.
pub words_over : (flow : Bool) (least fuel k : ℕ) (p : Place) → k ≤ fuel → Solid flow k p.rest → GoesFar flow least p → words flow least p ≡ with_front (utf8 (take k p.rest)) (words flow least (skip k p))
words_over flow least fuel zero p le s far = sym (no_front (words flow least p)) ∙ ap (λ (r : Place). with_front [] (words flow least r)) (sym (skip_none p))
words_over flow least zero (suc k) p le s far = absurd (omega arith)
words_over flow least (suc fuel) (suc k) p le s far =
    let cs = p.rest in
    let some : 0 < length cs = omega (arith, s.within) in
    let on : class_test (plain_of flow) (first p) ≡ true = s.each 0 (omega arith) in
    let end : is_white (get_or cs k 0) ≡ false = let i : suc k - 1 ≡ k = omega arith in ap (λ n. is_white (get_or cs n 0)) (sym i) ∙ s.last (omega arith) in
    elim (cases_Bool (is_white (first p))) [
      | inl w ↦
          let n = prefix_len is_white cs in
          let low : n ≤ k = stop_le is_white cs k end in
          let n-some : 0 < n = space_first cs w some in
          let clean : (i : ℕ) → i < n → is_break (get_or cs i 0) ≡ false = λ i h. (line_char flow (get_or cs i 0) (s.each i (omega arith))).0 in
          let next : first (skip n p) ≡ get_or cs n 0 = ap (λ (x : List ℕ). get_or x 0 0) (rest_skip n p) ∙ get_or-drop n cs 0 0 ∙ ap (λ i. get_or cs i 0) (add-zero n) in
          let line : class_test (plain_of flow) (first (skip n p)) ≡ true = ap (class_test (plain_of flow)) next ∙ s.each n (omega arith) in
          let solid : is_white (first (skip n p)) ≡ false = ap is_white next ∙ prefix_len_stops is_white cs 0 (omega (arith, s.within)) in
          let b = suc k - n in
          let sum : n + b ≡ suc k = omega arith in
          let col : (skip n p).mark.column ≡ p.mark.column + n = column_after n p (prefix_len-le-length is_white cs) clean in
          let more = words_over flow least fuel b (skip n p) (omega arith) (subst (λ (x : List ℕ). Solid flow b x) (sym (rest_skip n p)) (solid_after flow n b (suc k) cs sum (omega arith) s)) (far_on flow least p (skip n p) (omega (arith, col)) far) in
          two flow least p n b (suc k) sum (words_blanks flow least n p refl w n-some clean far line solid) more
      | inr w ↦
          let one : words flow least p ≡ with_front (utf8 (take 1 cs)) (words flow least (skip 1 p)) =
          words_more flow least p (solid_chunk flow (first p) (peek p 1) on w) ∙ ap (λ (xs : List ℕ). with_front xs (words flow least (skip 1 p))) (sym (ap utf8 (first_one cs some) ∙ append-nil (encode_utf8 (first p)))) in
          let clean : (i : ℕ) → i < 1 → is_break (get_or cs i 0) ≡ false = λ i h. (line_char flow (get_or cs i 0) (s.each i (omega arith))).0 in
          let col : (skip 1 p).mark.column ≡ p.mark.column + 1 = column_after 1 p some clean in
          elim (cases_lt 0 k) [
            | inl more ↦
                let sum : 1 + k ≡ suc k = omega arith in
                let rest = words_over flow least fuel k (skip 1 p) (omega arith) (subst (λ (x : List ℕ). Solid flow k x) (sym (rest_skip 1 p)) (solid_after flow 1 k (suc k) cs sum more s)) (far_on flow least p (skip 1 p) (omega (arith, col)) far) in
                two flow least p 1 k (suc k) sum one rest
            | inr none ↦ let e : 1 ≡ suc k = omega arith in subst (λ n. words flow least p ≡ with_front (utf8 (take n cs)) (words flow least (skip n p))) e one
          ]
    ]

-- The beginning of a line, without the blanks at its end.
trimmed_solid : (flow : Bool) (cs : List ℕ) (m : ℕ) → m ≤ prefix_len (class_test (plain_of flow)) cs → let front = trim (take m cs) in Solid flow (length front) cs
trimmed_solid flow cs m passing =
    let test = class_test (plain_of flow) in
    let k = length (trim (take m cs)) in
    let within : m ≤ length cs = omega (arith, prefix_len-le-length test cs) in
    let cut = trims_at cs m within in
    let low : k ≤ m = omega (arith, cut.sum) in
    let passes : (i : ℕ) → i < m → test (get_or cs i 0) ≡ true = λ i l. prefix_len_passes test cs i 0 (omega arith) in
    record {
      within = omega arith;
      each = λ i l. passes i (omega arith);
      last = λ some. solid (get_or cs (k - 1) 0) (cut.last some) (line_char flow (get_or cs (k - 1) 0) (passes (k - 1) (omega arith))).0;
    }

-- nothing is taken
pub goes_none : (flow : Bool) (least : ℕ) (p : Place) → Goes flow least p p
goes_none flow least p = (0, (sym (skip_none p), sym (no_front (words flow least p))))

-- what is kept unchanged in a line is taken
pub goes_solid : (flow : Bool) (least : ℕ) (p q : Place) → GoesFar flow least p → Stands (class_test (plain_of flow)) p q → Goes flow least p q
goes_solid flow least p q far (m, (low, e)) =
    let k = length (trim (take m p.rest)) in
    (k, (e, words_over flow least k k p (omega arith) (trimmed_solid flow p.rest m low) far ∙ ap (λ (r : Place). with_front (utf8 (take k p.rest)) (words flow least r)) (sym e)))

-- one character of a chunk is taken
pub goes_char : (flow : Bool) (least : ℕ) (p : Place) → is_chunk flow (first p) (peek p 1) ≡ true → Goes flow least p (skip 1 p)
goes_char flow least p h =
    let one : utf8 (take 1 p.rest) ≡ encode_utf8 (first p) = ap utf8 (first_one p.rest (chunk_there flow p h)) ∙ append-nil (encode_utf8 (first p)) in
    (1, (refl, words_more flow least p h ∙ ap (λ (xs : List ℕ). with_front xs (words flow least (skip 1 p))) (sym one)))

-- one goes after the other
pub goes_on : (flow : Bool) (least : ℕ) (p q r : Place) → Goes flow least p q → Goes flow least q r → Goes flow least p r
goes_on flow least p q r (a, (e, x)) (b, (f, y)) =
    let x' : words flow least p ≡ with_front (utf8 (take a p.rest)) (words flow least (skip a p)) = x ∙ ap (λ (t : Place). with_front (utf8 (take a p.rest)) (words flow least t)) e in
    let place : r ≡ skip b (skip a p) = f ∙ ap (skip b) e in
    let y' : words flow least (skip a p) ≡ with_front (utf8 (take b (skip a p).rest)) (words flow least (skip b (skip a p))) =
    subst (λ (t : Place). words flow least t ≡ with_front (utf8 (take b t.rest)) (words flow least (skip b (skip a p)))) e (y ∙ ap (λ (t : Place). with_front (utf8 (take b q.rest)) (words flow least t)) place) in
    let end : r ≡ skip (a + b) p = place ∙ skip_skip a b p in
    (a + b, (end, two flow least p a b (a + b) refl x' y' ∙ ap (λ (t : Place). with_front (utf8 (take (a + b) p.rest)) (words flow least t)) (sym end)))

pub goes_shorter : (flow : Bool) (least : ℕ) (p q : Place) → Goes flow least p q → length q.rest ≤ length p.rest
goes_shorter flow least p q (n, (e, x)) = omega (arith, ap (λ (t : Place). length t.rest) e, length_skip n p)

-- the bytes that were taken are appended
pub goes_out : (flow : Bool) (least : ℕ) (p q : Place) (out piece new : List ℕ) → words flow least p ≡ with_front piece (words flow least q) → new ≡ out ++ piece → with_front out (words flow least p) ≡ with_front new (words flow least q)
goes_out flow least p q out piece new e n = ap (with_front out) e ∙ two_fronts out piece (words flow least q) ∙ ap (λ (xs : List ℕ). with_front xs (words flow least q)) (sym n)

-- ---- the scalar

all_words : (flow : Bool) (least : ℕ) (r : Read (List ℕ)) (out : List ℕ) (q : Place) → then_links flow least r ≡ found out q → after_head flow least r ≡ scalar_at out q
all_words flow least (Ok head) out q h = tail_all (many (link flow least) head.end) (utf8 head.value) out q h
all_words flow least (Err e) out q h = absurd cc

no_words : (flow : Bool) (least : ℕ) (r : Read (List ℕ)) (o : Offence) → then_links flow least r ≡ Err o → after_head flow least r ≡ Err o
no_words flow least (Ok head) o h = tail_none (many (link flow least) head.end) (utf8 head.value) o.problem o.at h
no_words flow least (Err e) o h = let same : e ≡ o = cc in ap (λ x. Err x) same

pub plain_words : (flow : Bool) (least : ℕ) (p q : Place) (out : List ℕ) → with_front [] (words flow least p) ≡ found out q → plain flow least p ≡ scalar_at out q
plain_words flow least p q out h = plain_is flow least p ∙ all_words flow least (chunk flow p) out q (sym (no_front (words flow least p)) ∙ h)

pub plain_none : (error : yaml_refusal_t) (flow : Bool) (least : ℕ) (p q : Place) → Refuses error q (with_front [] (words flow least p)) → Refuses error q (plain flow least p)
plain_none errors.MEMORY flow least p q h = tt
plain_none (errors.OFFENCE problem) flow least p q h = plain_is flow least p ∙ no_words flow least (chunk flow p) (record { problem = problem; at = q }) (sym (no_front (words flow least p)) ∙ h)

-- ---- a link

pub links_over : (flow : Bool) (least : ℕ) (p q : Place) (out : List ℕ) → TakesPart utf8 (link flow least p) false out out p q → with_front out (links flow least p) ≡ found out q
links_over flow least p q out h = reads_all utf8 (link flow least) (link_shortens flow least) p q out out (with_front out (links flow least p)) h refl

pub links_none : (error : yaml_refusal_t) (flow : Bool) (least : ℕ) (p q : Place) (out : List ℕ) → Refuses error q (link flow least p) → Refuses error q (with_front out (links flow least p))
links_none error flow least p q out h = reads_none utf8 (link flow least) (link_shortens flow least) error p q out (with_front out (links flow least p)) h refl

-- after a separator that was appended
pub links_go : (flow : Bool) (least : ℕ) (p q : Place) (out mid : List ℕ) → Gap flow least p q → is_over flow least q ≡ false → is_chunk flow (first q) (peek q 1) ≡ true → mid ≡ out ++ utf8 (fold (run is_white p))
    → with_front out (links flow least p) ≡ with_front mid (words flow least q)
links_go flow least p q out mid g o h m =
    ap (with_front out) (links_open flow least p q g o h) ∙ two_fronts out (utf8 (fold (run is_white p))) (words flow least q) ∙ ap (λ (xs : List ℕ). with_front xs (words flow least q)) (sym m)

pub links_go_wrong : (error : yaml_refusal_t) (before after : Read (List ℕ)) (q : Place) → before ≡ after → Refuses error q after → Refuses error q before
links_go_wrong errors.MEMORY before after q e h = tt
links_go_wrong (errors.OFFENCE problem) before after q e h = e ∙ h

pub white_shorter : (p q : Place) → is_white (first p) ≡ true → q ≡ after_run is_white p → length q.rest < length p.rest
white_shorter p q w e =
    let t = after_run_more is_white p w refl in
    omega (arith, ap (λ (x : Place). length x.rest) (e ∙ t.1), t.0, length_skip (run_len is_white (skip 1 p)) (skip 1 p), length_skip 1 p)

-- ---- the end of a scalar

-- nothing is linked
pub links_end : (flow : Bool) (least : ℕ) (p : Place) (out : List ℕ) → link flow least p ≡ over → with_front out (links flow least p) ≡ found out p
links_end flow least p out h = links_over flow least p p out (same_none (link flow least p) out p p h refl)

over_if : (flow : Bool) (least : ℕ) (p q : Place) (o c b : Bool) → Gap flow least p q → is_over flow least q ≡ o → is_chunk flow (first q) (peek q 1) ≡ c → is_bad_colon flow (first q) (peek q 1) ≡ b → (o || not (c || b)) ≡ true → link flow least p ≡ over
over_if flow least p q true c b g o h t e = at_gap flow least p q g ∙ rw o refl
over_if flow least p q false true b g o h t e = absurd cc
over_if flow least p q false false true g o h t e = absurd cc
over_if flow least p q false false false g o h t e =
    let c : chunk flow q ≡ found [] q = chunk_stop flow q h ∙ rw t refl in
    at_gap flow least p q g ∙ rw (o, c) refl

-- a separator that ends where no words follow
pub over_after : (flow : Bool) (least : ℕ) (broken : Bool) (p q : Place) → is_white (first p) ≡ true → Passes least broken q p → Ends flow least q → (link flow least p ≡ over) × (q ≡ after_run is_white p)
over_after flow least broken p q w s ends =
    let t = passes_all least broken q p ends.0 s in
    let gap : Gap flow least p q = record { space = w; read = t.0 ∙ ap (λ (r : Place). found (fold (run is_white p)) r) (sym t.1) } in
    (over_if flow least p q (is_over flow least q) (is_chunk flow (first q) (peek q 1)) (is_bad_colon flow (first q) (peek q 1)) gap refl refl refl ends.1, t.1)

-- a line feed and spaces, where no words follow
pub over_below : (flow : Bool) (least : ℕ) (p q : Place) → first p ≡ 10 → q ≡ after_run (class_test SPACE) (skip 1 p) → Ends flow least q → (link flow least p ≡ over) × (q ≡ after_run is_white p)
over_below flow least p q feed e ends =
    let w : is_white (first p) ≡ true = rw feed refl in
    let fine : is_bad_tab least false p ≡ false = rw feed refl in
    let broken = false || is_break (first p) in
    let next = passes_spaces least broken (skip 1 p) p (passes_more least false p p w fine (record { tab = refl; end = refl })) in
    over_after flow least broken p q w (subst (λ (r : Place). Passes least broken r p) (sym e) next) ends

blank_is : (c : ℕ) → is_blank c ≡ true → (is_white c ≡ true) × (is_break c ≡ false)
blank_is c h = (grind (arith, nat_tests), grind (arith, nat_tests))

one_blank : (least : ℕ) (p start : Place) → is_blank (first p) ≡ true → Passes least false p start → Passes least false (skip 1 p) start
one_blank least p start h s =
    let c = blank_is (first p) h in
    let fine : is_bad_tab least false p ≡ false = ap (λ b. b && nat_lt p.mark.column least) (and_right (first p == 0x09) false refl) in
    subst (λ b. Passes least b (skip 1 p) start) c.1 (passes_more least false p start c.0 fine s)

blanks_from : (least fuel : ℕ) (p start : Place) → length p.rest ≤ fuel → Passes least false p start → Passes least false (after_run is_blank p) start
blanks_from least zero p start l s =
    elim (cases_Bool (is_blank (first p))) [
      | inl t ↦ absurd (omega (arith, l, (after_run_more is_blank p t refl).0))
      | inr f ↦ subst (λ (q : Place). Passes least false q start) (sym (after_none is_blank p f)) s
    ]
blanks_from least (suc fuel) p start l s =
    elim (cases_Bool (is_blank (first p))) [
      | inl t ↦
          let m = after_run_more is_blank p t refl in
          let shorter : length (skip 1 p).rest ≤ fuel = omega (arith, l, length_skip 1 p, m.0) in
          subst (λ (q : Place). Passes least false q start) (sym m.1) (blanks_from least fuel (skip 1 p) start shorter (one_blank least p start t s))
      | inr f ↦ subst (λ (q : Place). Passes least false q start) (sym (after_none is_blank p f)) s
    ]

-- a line feed after what was passed, alone or after a carriage return
feed_passes : (least : ℕ) (p start : Place) → first p ≡ 10 → Passes least false p start → Passes least true (skip 1 p) start
feed_passes least p start e s =
    let w : is_white (first p) ≡ true = rw e refl in
    let fine : is_bad_tab least false p ≡ false = rw e refl in
    let yes : is_break (first p) ≡ true = rw e refl in
    subst (λ b. Passes least b (skip 1 p) start) yes (passes_more least false p start w fine s)

return_passes : (least : ℕ) (p start : Place) → first p ≡ 13 → peek p 1 ≡ 10 → Passes least false p start → Passes least true (skip 2 p) start
return_passes least p start e n s =
    let q = skip 1 p in
    let w : is_white (first p) ≡ true = rw e refl in
    let fine : is_bad_tab least false p ≡ false = rw e refl in
    let yes : is_break (first p) ≡ true = rw e refl in
    let one = subst (λ b. Passes least b q start) yes (passes_more least false p start w fine s) in
    let f : first q ≡ 10 = first_on 1 p ∙ n in
    let w' : is_white (first q) ≡ true = rw f refl in
    let fine' : is_bad_tab least true q ≡ false = rw f refl in
    subst (λ (r : Place). Passes least true r start) (skip_skip 1 1 p) (passes_more least true q start w' fine' one)

is_return : (c next : ℕ) → is_feed c next ≡ true → (c == 0x0A) ≡ false → (c ≡ 13) × (next ≡ 10)
is_return c next h o = (grind (arith, nat_tests), grind (arith, nat_tests))

break_passes : (least : ℕ) (p start : Place) → is_feed (first p) (peek p 1) ≡ true → Passes least false p start → Passes least true (skip (break_len p) p) start
break_passes least p start h s =
    elim (cases_Bool (first p == 0x0A)) [
      | inl t ↦
          let e : first p ≡ 10 = grind (arith, nat_tests) in
          let one : break_len p ≡ 1 = rw e refl in
          rw one (feed_passes least p start e s)
      | inr f ↦
          let r = is_return (first p) (peek p 1) h f in
          let two : break_len p ≡ 2 = rw (r.0, r.1) refl in
          rw two (return_passes least p start r.0 r.1 s)
    ]

-- what a second look finds
pub record Soon (flow : Bool) (least : ℕ) (p s : Place) (b : Bool) : Type 0 where
  pub over : link flow least p ≡ over
  pub end : s ≡ after_run is_white p
  pub broken : b ≡ list_any is_break (run is_white p)

break_white : (c : ℕ) → is_break c ≡ true → is_white c ≡ true
break_white c h = grind (arith, nat_tests)

-- the character at p is white if that after the blanks is
white_first : (p : Place) → is_white (first (after_run is_blank p)) ≡ true → is_white (first p) ≡ true
white_first p h =
    elim (cases_Bool (is_blank (first p))) [
      | inl t ↦ (blank_is (first p) t).0
      | inr f ↦ subst (λ (q : Place). is_white (first q) ≡ true) (after_none is_blank p f) h
    ]

-- blanks, a line feed and spaces
pub soon_broken : (flow : Bool) (least : ℕ) (p q s : Place) → q ≡ after_run is_blank p → is_feed (first q) (peek q 1) ≡ true → s ≡ after_run (class_test SPACE) (skip (break_len q) q) → Ends flow least s → Soon flow least p s true
soon_broken flow least p q s at feed e ends =
    let yes : is_break (first q) ≡ true = feed_break (first q) (peek q 1) feed in
    let w : is_white (first p) ≡ true = white_first p (subst (λ (r : Place). is_white (first r) ≡ true) at (break_white (first q) yes)) in
    let start : Passes least false p p = record { tab = refl; end = refl } in
    let front : Passes least false q p = subst (λ (r : Place). Passes least false r p) (sym at) (blanks_from least (length p.rest) p p (omega arith) start) in
    let all = subst (λ (r : Place). Passes least true r p) (sym e) (passes_spaces least true (skip (break_len q) q) p (break_passes least q p feed front)) in
    let t = over_after flow least true p s w all ends in
    record { over = t.0; end = t.1; broken = sym (passed p ∙ ap (λ (r : Place). is_break (first r)) (sym at) ∙ yes) }

not_white : (c : ℕ) → is_white c ≡ false → is_break c ≡ false
not_white c h = grind (arith, nat_tests)

-- blanks alone
pub soon_in_line : (flow : Bool) (least : ℕ) (p q : Place) → q ≡ after_run is_blank p → Ends flow least q → Soon flow least p q false
soon_in_line flow least p q at ends =
    let b : false ≡ list_any is_break (run is_white p) = sym (passed p ∙ ap (λ (r : Place). is_break (first r)) (sym at) ∙ not_white (first q) ends.0) in
    elim (cases_Bool (is_white (first p))) [
      | inl w ↦
          let start : Passes least false p p = record { tab = refl; end = refl } in
          let all = subst (λ (r : Place). Passes least false r p) (sym at) (blanks_from least (length p.rest) p p (omega arith) start) in
          let t = over_after flow least false p q w all ends in
          record { over = t.0; end = t.1; broken = b }
      | inr f ↦
          let none : is_blank (first p) ≡ false = grind (arith, nat_tests) in
          record { over = link_none flow least p f; end = at ∙ after_none is_blank p none ∙ sym (after_none is_white p f); broken = b }
    ]

-- a second look at the separator at p, whose blanks end at q, and which ends at s
pub soon : (flow : Bool) (least : ℕ) (p q s : Place) (b : Bool) → q ≡ after_run is_blank p → b ≡ is_feed (first q) (peek q 1) → (b ≡ true → s ≡ after_run (class_test SPACE) (skip (break_len q) q)) → (b ≡ false → s ≡ q) → Ends flow least s
    → Soon flow least p s b
soon flow least p q s true at h taken stays ends = soon_broken flow least p q s at (sym h) (taken refl) ends
soon flow least p q s false at h taken stays ends =
    let e : s ≡ q = stays refl in
    subst (λ (r : Place). Soon flow least p r false) (sym e) (soon_in_line flow least p q at (subst (λ (r : Place). Ends flow least r) e ends))

-- a break is in it
pub passed_feed : (p : Place) → first p ≡ 10 → list_any is_break (run is_white p) ≡ true
passed_feed p feed =
    let none : is_blank (first p) ≡ false = rw feed refl in
    passed p ∙ ap (λ (q : Place). is_break (first q)) (after_none is_blank p none) ∙ rw feed refl

-- the words of the first line are appended
pub plain_out : (flow : Bool) (least : ℕ) (p q : Place) (out piece : List ℕ) → words flow least p ≡ with_front piece (words flow least q) → is_chunk flow (first q) (peek q 1) ≡ false → is_bad_colon flow (first q) (peek q 1) ≡ false → out ≡ piece
    → with_front [] (words flow least p) ≡ with_front out (links flow least q)
plain_out flow least p q out piece e h b o = no_front (words flow least p) ∙ e ∙ ap (with_front piece) (words_links flow least q h b) ∙ ap (λ (xs : List ℕ). with_front xs (links flow least q)) (sym o)
