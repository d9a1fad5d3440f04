-- What a line of a quoted body holds unchanged is kept in one piece.
use Rattle.std.proofs.Common.{◌≡◌, ◌==◌, ℕ, zero, suc, ◌+◌, ◌-◌, ◌<◌, ◌≤◌, inl, inr, Bool, true, false, List, [], ◌∷◌, ◌++◌, length, get_or, take, drop, refl, sym, ap, ◌∙◌, subst, arith, add-zero}
use Rattle.std.specs.List.{prefix_len, list_all}
use Rattle.std.proofs.lemmas.Bool.{cases_Bool, cases_lt, and_parts}
use Rattle.std.proofs.lemmas.Bool.Decides.{nat_tests}
use Rattle.std.proofs.lemmas.List.{get_or-drop, get_or_past, length-drop, get_or-take, get_or-append-add}
use Rattle.std.proofs.lemmas.List.Sums.{prefix_len-le-length, prefix_len_is, prefix_len_passes, prefix_len_stops}
use Rattle.yaml_text.specs.Chars.{utf8}
use Rattle.yaml_text.specs.Classes.{is_blank, is_break}
use Rattle.yaml_lexeme.specs.declared.runs.class_t.{class_t}
use Rattle.yaml_lexeme.proofs.Readers.QuotedBody.{at_space, body_shortens}
use Rattle.yaml_lexeme.proofs.Parts.PartByPart.{Reading, joined, many_turn}
use Rattle.yaml_lexeme.proofs.Readers.QuotedRuns.{Whole, parts_over, in_quotes, stop_le}
use Rattle.yaml_lexeme.proofs.Places.PlaceMoves.{class_end, skip_skip, after_none, rest_skip, is_break_len, solid, blank_white}
use Rattle.yaml_lexeme.proofs.Readers.FoldSeparators.{fold_breaks, breaks_at, join_breaks}
use Rattle.yaml_lexeme.proofs.ManyBytes.TrimmedLists.{trimmed, trims_at}
use Rattle.yaml_lexeme.specs.Classes.{is_white}
use Rattle.yaml_lexeme.specs.Fold.{fold, written}
use Rattle.yaml_lexeme.specs.Kind.{is_marker}
use Rattle.yaml_lexeme.specs.Place.{Place, first, skip, run, after_run, break_len}
use Rattle.yaml_lexeme.specs.Quoted.{body_part, quote, unmarked}
use Rattle.yaml_lexeme.specs.Reading.{Read, ◌>>=◌, go_on, many, with_front}
use Rattle.yaml_lexeme.specs.inside.Runs.{class_test, line_of, trim}
use Rattle.yaml_lexeme.specs.inside.Words.{GoesOn}

stops_at : (line : class_t) (cs : List ℕ) → class_test line (get_or cs (prefix_len (class_test line) cs) 0) ≡ false
stops_at line cs =
    let k = prefix_len (class_test line) cs in
    elim (cases_lt k (length cs)) [
      | inl h ↦ prefix_len_stops (class_test line) cs 0 h
      | inr h ↦ ap (class_test line) (get_or_past cs k 0 h) ∙ class_end line
    ]

no_white : (single : Bool) (c : ℕ) → class_test (line_of single) c ≡ false → is_break c ≡ false → is_white c ≡ false
no_white true c f b = grind (arith, nat_tests)
no_white false c f b = grind (arith, nat_tests)

-- The run of white after any of the first k characters ends within them, since the last of them is not white.
ends_within : (k i : ℕ) (cs : List ℕ) → i < k → is_white (get_or cs (k - 1) 0) ≡ false → i + prefix_len is_white (drop i cs) ≤ k
ends_within k i cs lt h =
    let j = k - 1 - i in
    let at : i + j ≡ k - 1 = omega arith in
    let f : is_white (get_or (drop i cs) j 0) ≡ false = ap is_white (get_or-drop i cs j 0 ∙ ap (λ n. get_or cs n 0) at) ∙ h in
    omega (arith, stop_le is_white (drop i cs) j f)

-- or since what follows them is not
ends_before : (k i : ℕ) (cs : List ℕ) → i < k → is_white (get_or cs k 0) ≡ false → i + prefix_len is_white (drop i cs) ≤ k
ends_before k i cs lt h =
    let j = k - i in
    let at : i + j ≡ k = omega arith in
    let f : is_white (get_or (drop i cs) j 0) ≡ false = ap is_white (get_or-drop i cs j 0 ∙ ap (λ n. get_or cs n 0) at) ∙ h in
    omega (arith, stop_le is_white (drop i cs) j f)

-- If no break follows it, the whole run is appended.
pub run_goes_on : (single : Bool) (p q : Place) (out new : List ℕ) → q ≡ after_run (class_test (line_of single)) p → new ≡ out ++ utf8 (run (class_test (line_of single)) p) → is_break (first q) ≡ false → GoesOn single p out q new
run_goes_on single p q out new e n h whole r =
    let test = class_test (line_of single) in
    let k = prefix_len test p.rest in
    let next : first q ≡ get_or p.rest k 0 = ap first e ∙ ap (λ (x : List ℕ). get_or x 0 0) (rest_skip k p) ∙ get_or-drop k p.rest 0 0 ∙ ap (λ i. get_or p.rest i 0) (add-zero k) in
    let other : is_white (get_or p.rest k 0) ≡ false = no_white single (get_or p.rest k 0) (stops_at (line_of single) p.rest) (ap is_break (sym next) ∙ h) in
    let w : Whole (line_of single) k p.rest = record {
      within = prefix_len-le-length test p.rest;
      each = λ i l. prefix_len_passes test p.rest i 0 l;
      whole = λ i l. ends_before k i p.rest l other;
    } in
    let all : Reading utf8 (body_part single) (skip k p) (out ++ utf8 (take k p.rest)) whole = parts_over single k k p out whole (omega arith) w r in
    subst (λ (x : Place). Reading utf8 (body_part single) x new whole) (sym e) (subst (λ (x : List ℕ). Reading utf8 (body_part single) (skip k p) x whole) (sym n) all)

-- ---- blanks before a break

unmarked_turn : (f g : Place → Read (List (List ℕ))) (value : List ℕ) (p q e : Place) → f e ≡ g e → (unmarked value e >>= λ a. go_on f p a) ≡ (unmarked value e >>= λ a. go_on g q a)
unmarked_turn f g value p q e h = elim (cases_Bool (is_marker e)) [ inl t ↦ rw t refl | inr n ↦ rw n (ap (with_front (value ∷ [])) h) ]

-- parts that begin in the same way are the same
same_many : (single : Bool) (p q e : Place) (value : List ℕ) → body_part single p ≡ unmarked value e → body_part single q ≡ unmarked value e → many (body_part single) p ≡ many (body_part single) q
same_many single p q e value a b =
    many_turn (body_part single) (body_shortens single) p ∙ ap (λ r. r >>= λ x. go_on (many (body_part single)) p x) a
    ∙ unmarked_turn (many (body_part single)) (many (body_part single)) value p q e refl
    ∙ ap (λ r. r >>= λ x. go_on (many (body_part single)) q x) (sym b) ∙ sym (many_turn (body_part single) (body_shortens single) q)

white_more : (c : ℕ) → is_white c ≡ true → (c == 0) ≡ false
white_more c h = grind (arith, nat_tests)

break_white : (c : ℕ) → is_break c ≡ true → (is_white c ≡ true) × (is_blank c ≡ false)
break_white c h = (grind (arith, nat_tests), grind (arith, nat_tests))

-- a separator has the same value from its break on
pub blanks_pass : (single : Bool) (p q : Place) → q ≡ after_run is_blank p → is_white (first p) ≡ true → is_break (first q) ≡ true → many (body_part single) p ≡ many (body_part single) q
blanks_pass single p q e wp bq =
    let t = break_white (first q) bq in
    let stays : after_run is_blank q ≡ q = after_none is_blank q t.1 in
    let two : after_run is_blank p ≡ after_run is_blank q = sym e ∙ sym stays in
    let some : 0 < break_len (after_run is_blank p) = subst (λ (x : Place). 0 < break_len x) e (is_break_len q bq) in
    let fp = fold_breaks p some in
    let fq = fold_breaks q (subst (λ (x : Place). 0 < break_len x) two some) in
    let value : fold (run is_white p) ≡ fold (run is_white q) = fp.0 ∙ ap (λ (x : Place). join_breaks (written (first x)) (breaks_at (skip (break_len x) x))) two ∙ sym fq.0 in
    let end : after_run is_white p ≡ after_run is_white q = fp.1 ∙ ap (λ (x : Place). after_run is_white (skip (break_len x) x)) two ∙ sym fq.1 in
    let a : body_part single p ≡ unmarked (fold (run is_white p)) (after_run is_white p) = at_space single p (white_more (first p) wp) wp in
    let b : body_part single q ≡ unmarked (fold (run is_white p)) (after_run is_white p) = at_space single q (white_more (first q) t.0) t.0 ∙ ap (λ (v : List ℕ). unmarked v (after_run is_white q)) (sym value) ∙ ap (λ (x : Place). unmarked (fold (run is_white p)) x) (sym end) in
    same_many single p q (after_run is_white p) (fold (run is_white p)) a b

all_index : (xs : List ℕ) (i : ℕ) → list_all is_blank xs ≡ true → i < length xs → is_blank (get_or xs i 0) ≡ true
all_index [] i h l = absurd (omega arith)
all_index (x ∷ xs) zero h l = (and_parts (is_blank x) (list_all is_blank xs) h).0
all_index (x ∷ xs) (suc i) h l = all_index xs i (and_parts (is_blank x) (list_all is_blank xs) h).1 (omega arith)

-- the run without the blanks before a break
pub trimmed_goes_on : (single : Bool) (p q : Place) (out new : List ℕ) → q ≡ after_run (class_test (line_of single)) p → new ≡ out ++ utf8 (trim (run (class_test (line_of single)) p)) → is_break (first q) ≡ true → GoesOn single p out q new
trimmed_goes_on single p q out new e n h whole r =
    let test = class_test (line_of single) in
    let cs = p.rest in
    let m = prefix_len test cs in
    let t = trimmed (take m cs) in
    let kept = trim (take m cs) in
    let k = length kept in
    let within : m ≤ length cs = prefix_len-le-length test cs in
    let cut = trims_at cs m within in
    let sum : k + length t.blanks ≡ m = cut.sum in
    let passes : (i : ℕ) → i < m → test (get_or cs i 0) ≡ true = λ i l. prefix_len_passes test cs i 0 l in
    let w : Whole (line_of single) k cs = record {
      within = omega arith;
      each = λ i l. passes i (omega arith);
      whole = λ i l.
          let some : 0 < k = omega arith in
          let line : is_break (get_or cs (k - 1) 0) ≡ false = in_quotes single (get_or cs (k - 1) 0) (passes (k - 1) (omega arith)) in
          ends_within k i cs l (solid (get_or cs (k - 1) 0) (cut.last some) line);
    } in
    let here = skip k p in
    let at_here : Reading utf8 (body_part single) here (out ++ utf8 (take k cs)) whole = parts_over single k k p out whole (omega arith) w r in
    let next : first q ≡ get_or cs m 0 = ap first e ∙ ap (λ (x : List ℕ). get_or x 0 0) (rest_skip m p) ∙ get_or-drop m cs 0 0 ∙ ap (λ i. get_or cs i 0) (add-zero m) in
    let broken : is_break (get_or cs m 0) ≡ true = ap is_break (sym next) ∙ h in
    let inside : (i : ℕ) → i < length t.blanks → is_blank (get_or cs (k + i) 0) ≡ true = λ i l.
    ap is_blank (sym (get_or-take m cs (k + i) 0 (omega arith)) ∙ ap (λ (x : List ℕ). get_or x (k + i) 0) t.parts ∙ get_or-append-add kept t.blanks i 0) ∙ all_index t.blanks i t.each l in
    let rest : here.rest ≡ drop k cs = rest_skip k p in
    let count : prefix_len is_blank here.rest ≡ length t.blanks =
    ap (prefix_len is_blank) rest
    ∙ prefix_len_is is_blank (drop k cs) (length t.blanks) 0 (omega (arith, length-drop k cs))
    (λ i l. ap is_blank (get_or-drop k cs i 0) ∙ inside i l)
    (λ l. ap is_blank (get_or-drop k cs (length t.blanks) 0 ∙ ap (λ i. get_or cs i 0) sum) ∙ (break_white (get_or cs m 0) broken).1) in
    let end : q ≡ after_run is_blank here = e ∙ ap (λ i. skip i p) (sym sum) ∙ sym (skip_skip k (length t.blanks) p) ∙ ap (λ i. skip i here) (sym count) in
    let there : first here ≡ get_or cs k 0 = ap (λ (x : List ℕ). get_or x 0 0) rest ∙ get_or-drop k cs 0 0 ∙ ap (λ i. get_or cs i 0) (add-zero k) in
    let white : is_white (first here) ≡ true = ap is_white there ∙ elim (cases_lt 0 (length t.blanks)) [
      | inl some ↦ blank_white (get_or cs k 0) (ap (λ i. is_blank (get_or cs i 0)) (sym (add-zero k)) ∙ inside 0 some)
      | inr none ↦ let at : k ≡ m = omega arith in ap (λ i. is_white (get_or cs i 0)) at ∙ (break_white (get_or cs m 0) broken).0
    ] in
    let same : many (body_part single) here ≡ many (body_part single) q = blanks_pass single here q end white h in
    let bytes : new ≡ out ++ utf8 (take k cs) = n ∙ ap (λ (x : List ℕ). out ++ utf8 x) (sym cut.front) in
    subst (λ (x : List ℕ). Reading utf8 (body_part single) q x whole) (sym bytes)
    (ap (λ (x : Read (List (List ℕ))). with_front (out ++ utf8 (take k cs)) (joined utf8 x)) (sym same) ∙ at_here)

-- ---- quotes

-- a quote may be passed
pub quote_passes : (single : Bool) → (0 < quote single) × (quote single < 128) × (is_break (quote single) ≡ false)
quote_passes true = (omega arith, omega arith, refl)
quote_passes false = (omega arith, omega arith, refl)

-- a quote ends what is kept unchanged
pub quote_ends : (single : Bool) → class_test (line_of single) (quote single) ≡ false
quote_ends true = refl
quote_ends false = refl
