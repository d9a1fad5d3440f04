-- What is read of the characters of a text is in its order.
use Rattle.std.proofs.Common.{◌≡◌, ℕ, zero, suc, ◌+◌, ◌-◌, ◌≤◌, ◌<◌, Bool, true, false, List, [], ◌∷◌, length, Option, Some, None, not, ◌==◌, ◌&&◌, ◌||◌, eqb-true, refl, ap, sym, ◌∙◌, subst, arith, inl, inr}
use Rattle.std.specs.Prelude.{if◌then◌else◌, nat_lt, nat_eq, slice_index, Result, Ok, Err}
use Rattle.std.proofs.lemmas.Bool.{cases_Bool, cases_lt, false≢true}
use Rattle.yaml_text.specs.declared.types.yaml_mark_t.{yaml_mark_t}
use Rattle.yaml_text.specs.Token.{TokenData as token}
use Rattle.yaml_text.specs.Chars.{is_char}
use Rattle.yaml_text.specs.TextBytes.{AreChars, IsChar}
use Rattle.yaml_text.specs.Classes.{is_z}
use Rattle.yaml_lexeme.specs.declared.kind.yaml_lexeme_kind_t.TheVariants as kind
use Rattle.yaml_lexeme.specs.declared.lex.yaml_context_t.{yaml_context_t}
use Rattle.yaml_lexeme.specs.Lexeme.{Lexeme as yaml_lexeme_t}
use Rattle.yaml_lexeme.specs.Place.{Place, place_at, start, skip, first, peek}
use Rattle.yaml_lexeme.specs.inside.Moves.{skip_from}
use Rattle.yaml_lexeme.specs.Reading.{Found, Read}
use Rattle.yaml_lexeme.specs.Gap.{gap}
use Rattle.yaml_lexeme.specs.Kind.{kind_at, is_marker_of, starts_plain}
use Rattle.yaml_lexeme.specs.Classes.{ends}
use Rattle.yaml_lexeme.specs.Lex.{lex}
use Rattle.yaml_lexeme.specs.Lexeme.{whole_of}
use Rattle.yaml_lexeme.specs.StreamEnd.{stream_end, at_end}
use Rattle.yaml_lexeme.specs.Order.{IsBeyond, IsAfter}
use Rattle.yaml_lexeme.proofs.Places.PlaceMoves.{length_skip, skip_skip, stays}
use Rattle.yaml_text.specs.declared.types.yaml_error_type_t.TheVariants.{YAML_SCANNER_ERROR}
use Rattle.yaml_lexeme.proofs.MarkOrder.ReadingAhead.{spans_end}
use Rattle.yaml_lexeme.proofs.MarkOrder.PlaceOrder.{gap_order}
use Rattle.yaml_lexeme.proofs.MarkOrder.LexemeOrder.{lexeme_spans, lexeme_order}
use Rattle.yaml_lexeme.specs.Locality.{reach}
use Rattle.yaml_scan.proofs.Texts.LexemeReads.{lex_goes_on, says_kind}
use Rattle.yaml_scan.specs.Kind.{Kind, is_stream_end}
use Rattle.yaml_scan.specs.Order.{IsNotBefore}
use Rattle.yaml_scan.specs.Source.{Reading, Offence}
use Rattle.yaml_scan.specs.SourceOf.{count_to, reading, offence, reading_of, source_of}
use Rattle.yaml_scan.specs.Locality.{TextsKeepOrder}
use Rattle.yaml_scan.specs.Step.{end_of}
use Rattle.yaml_scan.specs.Cut.{IsReadInOrder}
use Rattle.yaml_scan.proofs.History.HistoryOrder.{IsNotBefore-refl}

not_before : (n : ℕ) (a b : yaml_mark_t) → IsAfter n a b → IsNotBefore a b
not_before n a b h = record { index = (let i = h.index in omega arith); line = h.line; column = λ e. let c = h.column e in omega arith }

-- characters are not 0
zero_char : (x : ℕ) → IsChar x → is_z x ≡ true → ⊥
unfolding is_char
zero_char x h z = let e : x ≡ 0 = eqb-true x 0 z in subst (λ (y : ℕ). IsChar y → ⊥) (sym e) (λ (u : IsChar 0). false≢true u) h

chars_left : (n : ℕ) (m : yaml_mark_t) (cs : List ℕ) → AreChars cs → AreChars (skip_from n m cs).rest
chars_left zero m cs c = c
chars_left (suc n) m [] c = c
chars_left (suc n) m (x ∷ cs) c = chars_left n m cs c.1

first_char : (cs : List ℕ) → AreChars cs → 0 < length cs → is_z (slice_index cs 0) ≡ true → ⊥
first_char [] c l z = omega arith
first_char (x ∷ cs) c l z = zero_char x c.0 z

-- THE STREAM END
-- this kind, if any, is not the stream end
record NotEnd (o : Option Kind) : Type 0 where
  is : (k : Kind) → o ≡ Some k → is_stream_end k ≡ false

none_is : NotEnd None
none_is = record { is = λ k e. cc }

some_is : (j : Kind) → is_stream_end j ≡ false → NotEnd (Some j)
some_is j f = record { is = λ k e. let q : j ≡ k = cc in subst (λ (x : Kind). is_stream_end x ≡ false) q f }

if_is : (b : Bool) {x y : Option Kind} → NotEnd x → NotEnd y → NotEnd (if b then x else y)
if_is true a c = a
if_is false a c = c

if_end : (b : Bool) {o : Option Kind} (k : Kind) → NotEnd o → (if b then Some kind.STREAM_END else o) ≡ Some k → is_stream_end k ≡ true → b ≡ true
if_end true k n e t = refl
if_end false k n e t = absurd (false≢true (sym (n.is k e) ∙ t))

-- it is only at the end
ends_at : (flow : Bool) (p : Place) (k : Kind) → kind_at flow p ≡ Some k → is_stream_end k ≡ true → is_z (first p) ≡ true
unfolding kind_at
ends_at flow p k e t = if_end (is_z (first p)) k (other flow p) e t
  where
    other : (flow : Bool) (p : Place) → NotEnd (
        if p.mark.column == 0 && first p == 0x25 then Some kind.DIRECTIVE
        else if is_marker_of 0x2D p then Some kind.DOCUMENT_START
        else if is_marker_of 0x2E p then Some kind.DOCUMENT_END
        else if first p == 0x5B then Some kind.FLOW_SEQUENCE_START
        else if first p == 0x7B then Some kind.FLOW_MAPPING_START
        else if first p == 0x5D then Some kind.FLOW_SEQUENCE_END
        else if first p == 0x7D then Some kind.FLOW_MAPPING_END
        else if first p == 0x2C then Some kind.FLOW_ENTRY
        else if first p == 0x2D && ends (peek p 1) then Some kind.BLOCK_ENTRY
        else if first p == 0x3F && (flow || ends (peek p 1)) then Some kind.KEY
        else if first p == 0x3A && (flow || ends (peek p 1)) then Some kind.VALUE
        else if first p == 0x2A then Some kind.ALIAS
        else if first p == 0x26 then Some kind.ANCHOR
        else if first p == 0x21 then Some kind.TAG
        else if first p == 0x7C && not flow then Some kind.LITERAL
        else if first p == 0x3E && not flow then Some kind.FOLDED
        else if first p == 0x27 then Some kind.SINGLE_QUOTED
        else if first p == 0x22 then Some kind.DOUBLE_QUOTED
        else if starts_plain flow (first p) then Some kind.PLAIN
        else None)
    other flow p = if_is (p.mark.column == 0 && first p == 0x25) (some_is kind.DIRECTIVE refl) (
        if_is (is_marker_of 0x2D p) (some_is kind.DOCUMENT_START refl) (
        if_is (is_marker_of 0x2E p) (some_is kind.DOCUMENT_END refl) (
        if_is (first p == 0x5B) (some_is kind.FLOW_SEQUENCE_START refl) (
        if_is (first p == 0x7B) (some_is kind.FLOW_MAPPING_START refl) (
        if_is (first p == 0x5D) (some_is kind.FLOW_SEQUENCE_END refl) (
        if_is (first p == 0x7D) (some_is kind.FLOW_MAPPING_END refl) (
        if_is (first p == 0x2C) (some_is kind.FLOW_ENTRY refl) (
        if_is (first p == 0x2D && ends (peek p 1)) (some_is kind.BLOCK_ENTRY refl) (
        if_is (first p == 0x3F && (flow || ends (peek p 1))) (some_is kind.KEY refl) (
        if_is (first p == 0x3A && (flow || ends (peek p 1))) (some_is kind.VALUE refl) (
        if_is (first p == 0x2A) (some_is kind.ALIAS refl) (
        if_is (first p == 0x26) (some_is kind.ANCHOR refl) (
        if_is (first p == 0x21) (some_is kind.TAG refl) (
        if_is (first p == 0x7C && not flow) (some_is kind.LITERAL refl) (
        if_is (first p == 0x3E && not flow) (some_is kind.FOLDED refl) (
        if_is (first p == 0x27) (some_is kind.SINGLE_QUOTED refl) (
        if_is (first p == 0x22) (some_is kind.DOUBLE_QUOTED refl) (
        if_is (starts_plain flow (first p)) (some_is kind.PLAIN refl) (
        none_is)))))))))))))))))))

-- the mark of the end
end_after : (m : yaml_mark_t) → IsNotBefore m (end_of m)
end_after m = elim (cases_Bool (nat_eq m.column 0)) [
  | inl e ↦ rw e (IsNotBefore-refl m)
  | inr e ↦ rw e (record { index = omega arith; line = omega arith; column = λ q. absurd (omega arith) })
]

end_index : (m : yaml_mark_t) → (end_of m).index ≡ m.index
end_index m = elim (cases_Bool (nat_eq m.column 0)) [ inl e ↦ rw e refl | inr e ↦ rw e refl ]

end_column : (m : yaml_mark_t) → (end_of m).column ≡ 0
end_column m = elim (cases_Bool (nat_eq m.column 0)) [ inl e ↦ rw e (eqb-true m.column 0 e) | inr e ↦ rw e refl ]

pub end_is : (k : Kind) → is_stream_end k ≡ true → k ≡ kind.STREAM_END
end_is k e = grind arith

same_found : (x y : Found yaml_lexeme_t) (r : Read yaml_lexeme_t) → r ≡ Ok x → r ≡ Ok y → y ≡ x
same_found x y r e f = cc

ok_reading : (x y : Reading) (r : Result Reading Offence) → r ≡ Ok x → r ≡ Ok y → x ≡ y
ok_reading x y r e f = cc

err_reading : (o : Offence) (y : Reading) (r : Result Reading Offence) → r ≡ Err o → r ≡ Ok y → ⊥
err_reading o y r e f = cc

ok_offence : (x : Reading) (o : Offence) (r : Result Reading Offence) → r ≡ Ok x → r ≡ Err o → ⊥
ok_offence x o r e f = cc

err_same : (x y : Offence) (r : Result Reading Offence) → r ≡ Err x → r ≡ Err y → x ≡ y
err_same x y r e f = cc

-- PLACES
module _ (cs : List ℕ) where
  at : ℕ → Place
  at p = place_at cs p

  rest_length : (p : ℕ) → length (place_at cs p).rest ≡ length cs - p
  rest_length p = length_skip p (start cs)

  further : (p n : ℕ) → skip n (place_at cs p) ≡ place_at cs (p + n)
  further p n = skip_skip p n (start cs)

  pub count_at : (p : ℕ) → p ≤ length cs → count_to (length cs) (place_at cs p) ≡ p
  count_at p l = let r = rest_length p in omega arith

  -- the place that is reached
  record IsThere (p n : ℕ) (q : Place) : Type 0 where
    count : ℕ
    is : q ≡ place_at cs count
    least : p + n ≤ count
    within : count ≤ length cs
    counts : count_to (length cs) q ≡ count

  there : (p n : ℕ) (q : Place) → p ≤ length cs → IsBeyond n (place_at cs p) q → IsThere p n q
  there p n q l a =
      let r = rest_length p in
      let w = a.within in
      let m = a.least in
      let i : q ≡ place_at cs (p + a.count) = a.is ∙ further p a.count in
      record { count = p + a.count; is = i; least = omega arith; within = omega arith; counts = rw i (count_at (p + a.count) (omega arith)) }

  -- skipping past the end stays at the end
  ends_there : (p k : ℕ) (q : Place) → p ≤ length cs → q ≡ skip k (place_at cs p) → (p ≤ count_to (length cs) q) × (count_to (length cs) q ≤ length cs)
  ends_there p k q l e =
      let r = rest_length p in
      let m = ap (λ (x : Place). length x.rest) e in
      let s = length_skip k (place_at cs p) in
      (omega arith, omega arith)

  -- the place that is reached is the one that is counted
  at_count : (p k : ℕ) (q : Place) → p ≤ length cs → q ≡ skip k (place_at cs p) → q ≡ place_at cs (count_to (length cs) q)
  at_count p k q l e =
      let r = rest_length p in
      let m = ap (λ (x : Place). length x.rest) e in
      let t = length_skip k (place_at cs p) in
      let i : q ≡ place_at cs (p + k) = e ∙ further p k in
      elim (cases_lt (length cs) (p + k)) [
        | inr w ↦ (let c : count_to (length cs) q ≡ p + k = omega arith in i ∙ ap (place_at cs) (sym c))
        | inl w ↦ (let c : count_to (length cs) q ≡ length cs = omega arith in
            let z : length (place_at cs (length cs)).rest ≡ 0 = (let n = rest_length (length cs) in omega arith) in
            let v : length cs + (p + k - length cs) ≡ p + k = omega arith in
            let y : place_at cs (p + k) ≡ place_at cs (length cs) = ap (place_at cs) (sym v) ∙ sym (further (length cs) (p + k - length cs)) ∙ sym (stays (p + k - length cs) (place_at cs (length cs)) z) in
            i ∙ y ∙ ap (place_at cs) (sym c))
      ]

  gap_there : (flow allowed : Bool) (p : ℕ) → p ≤ length cs → IsThere p 0 (gap flow allowed (place_at cs p)).0
  gap_there flow allowed p l = there p 0 (gap flow allowed (place_at cs p)).0 l (gap_order flow allowed (place_at cs p)).0

  -- at the stream end the text is over
  pub over : (flow : Bool) (p : ℕ) (k : Kind) → AreChars cs → p ≤ length cs → kind_at flow (place_at cs p) ≡ Some k → is_stream_end k ≡ true → p ≡ length cs
  unfolding skip
  over flow p k c l e t = elim (cases_lt p (length cs)) [
    | inr m ↦ omega arith
    | inl m ↦ (let z = ends_at flow (place_at cs p) k e t in let r = rest_length p in
        absurd (first_char (place_at cs p).rest (chars_left p (start cs).mark cs c) (omega arith) z))
  ]

  -- WHAT IS READ
  module _ (k : Kind) (d : ℕ) (l : Option ℕ) (p : ℕ) (w : p ≤ length cs) (c : AreChars cs) (e : kind_at (nat_lt 0 d) (place_at cs p) ≡ Some k) where
    abbrev context : yaml_context_t
    context = record { depth = d; level = l }

    abbrev here : Place
    here = place_at cs p

    -- a lexeme other than the stream end
    in_order_other : (f : Found yaml_lexeme_t) → lex k context here ≡ Ok f → is_stream_end k ≡ false → IsReadInOrder (source_of cs) k p (reading f.value (count_to (length cs) f.end))
    unfolding source_of
    in_order_other f q n =
        let s = lexeme_spans k context here f e (λ x. false≢true (sym n ∙ ap is_stream_end x)) q in
        let o = lexeme_order k context here f e (λ x. false≢true (sym n ∙ ap is_stream_end x)) q in
        let a = there p 1 f.end w (spans_end 1 here f.value.end_mark f.end s.2) in
        let b : IsAfter 1 here.mark f.value.end_mark = rw (← s.0) o.0 in
        let i = b.index in
        record {
          follows = record {
            gap_end = IsNotBefore-refl here.mark;
            start = rw n (IsNotBefore-refl here.mark);
            at_once = rw n refl;
            end = rw n (not_before 1 here.mark f.value.end_mark b);
            reach = not_before 0 f.value.end_mark f.value.reach o.1;
            takes_a_byte = λ x. rw n (omega arith);
            takes_a_column = λ x. rw n (λ y. let j = b.column y in omega arith);
            ends_at_column_0 = λ x. absurd (false≢true (sym n ∙ x));
          };
          says = says_kind k context here f q;
          within = rw a.counts a.within;
          takes_a_character = λ x. let m = a.least in rw a.counts (omega arith);
          reach = λ x. s.1 ∙ ap (λ (y : Place). y.mark) a.is ∙ ap (λ (y : ℕ). (place_at cs y).mark) (sym a.counts);
          ends = λ x. absurd (false≢true (sym n ∙ x));
        }

    -- the stream end
    in_order_last : (f : Found yaml_lexeme_t) → lex kind.STREAM_END context here ≡ Ok f → k ≡ kind.STREAM_END → IsReadInOrder (source_of cs) kind.STREAM_END p (reading f.value (count_to (length cs) f.end))
    unfolding source_of lex
    in_order_last f q n =
        let o = over (nat_lt 0 d) p k c w e (ap is_stream_end n) in
        let a = count_at p w in
        let x : f ≡ record { value = whole_of token.STREAM_END (stream_end here.mark) (stream_end here.mark); end = here } = same_found _ f (at_end here) refl q in
        let z : IsNotBefore here.mark (end_of here.mark) = end_after here.mark in
        let r : IsReadInOrder (source_of cs) kind.STREAM_END p (reading (whole_of token.STREAM_END (stream_end here.mark) (stream_end here.mark)) (count_to (length cs) here)) = record {
          follows = record {
            gap_end = IsNotBefore-refl here.mark;
            start = z;
            at_once = end_index here.mark;
            end = IsNotBefore-refl (end_of here.mark);
            reach = IsNotBefore-refl (end_of here.mark);
            takes_a_byte = λ y. absurd (false≢true (sym y));
            takes_a_column = λ y. absurd (false≢true (sym y));
            ends_at_column_0 = λ y. end_column here.mark;
          };
          says = record { key = refl; value = refl; last = refl; no_start = refl; no_end = refl };
          within = rw a w;
          takes_a_character = λ y. absurd (false≢true (sym y));
          reach = λ y. absurd (false≢true (sym y));
          ends = λ y. a ∙ o;
        } in
        subst (λ (y : Found yaml_lexeme_t). IsReadInOrder (source_of cs) kind.STREAM_END p (reading y.value (count_to (length cs) y.end))) (sym x) r

    in_order : (f : Found yaml_lexeme_t) → lex k context here ≡ Ok f → IsReadInOrder (source_of cs) k p (reading f.value (count_to (length cs) f.end))
    in_order f q = elim (cases_Bool (is_stream_end k)) [
      | inr n ↦ in_order_other f q n
      | inl n ↦ (let z : k ≡ kind.STREAM_END = end_is k n in
          subst (λ (x : Kind). IsReadInOrder (source_of cs) x p (reading f.value (count_to (length cs) f.end))) (sym z) (in_order_last f (subst (λ (x : Kind). lex x context here ≡ Ok f) z q) z))
    ]

    read_is : (r : Reading) (x : Read yaml_lexeme_t) → lex k context here ≡ x → reading_of (length cs) k here x ≡ Ok r → IsReadInOrder (source_of cs) k p r
    read_is r (Ok f) q z = subst (λ (y : Reading). IsReadInOrder (source_of cs) k p y) (ok_reading (reading f.value (count_to (length cs) f.end)) r (reading_of (length cs) k here (Ok f)) refl z) (in_order f q)
    read_is r (Err o) q z = absurd (err_reading (offence k here o (count_to (length cs) o.at)) r (reading_of (length cs) k here (Err o)) refl z)

    offence_is : (o : Offence) (x : Read yaml_lexeme_t) → lex k context here ≡ x → reading_of (length cs) k here x ≡ Err o → (p ≤ o.place) × (o.place ≤ length cs)
    offence_is o (Ok f) q z = absurd (ok_offence (reading f.value (count_to (length cs) f.end)) o (reading_of (length cs) k here (Ok f)) refl z)
    offence_is o (Err y) q z =
        let g = lex_goes_on k context here in
        let i : y.at ≡ skip g.0 here = subst (λ (r : Read yaml_lexeme_t). reach r ≡ skip g.0 here) q g.1 in
        let t = ends_there p g.0 y.at w i in
        let u : o.place ≡ count_to (length cs) y.at = ap (λ (v : Offence). v.place) (sym (err_same (offence k here y (count_to (length cs) y.at)) o (reading_of (length cs) k here (Err y)) refl z)) in
        (omega (arith, t.0), omega (arith, t.1))

-- the problem of an offence is at its place
pub problem_at : (cs : List ℕ) (k : Kind) (d : ℕ) (l : Option ℕ) (p : ℕ) (o : Offence) → p ≤ length cs → (source_of cs).read k d l p ≡ Err o
    → (o.fault.error ≡ YAML_SCANNER_ERROR) × (o.fault.problem_mark ≡ (source_of cs).mark o.place)
unfolding source_of
problem_at cs k d l p o w q = go (lex k (record { depth = d; level = l }) (place_at cs p)) refl q
  where
    go : (x : Read yaml_lexeme_t) → lex k (record { depth = d; level = l }) (place_at cs p) ≡ x → reading_of (length cs) k (place_at cs p) x ≡ Err o
        → (o.fault.error ≡ YAML_SCANNER_ERROR) × (o.fault.problem_mark ≡ (place_at cs o.place).mark)
    go (Ok f) e z = absurd (ok_offence (reading f.value (count_to (length cs) f.end)) o (reading_of (length cs) k (place_at cs p) (Ok f)) refl z)
    go (Err y) e z =
        let g = lex_goes_on k (record { depth = d; level = l }) (place_at cs p) in
        let i : y.at ≡ skip g.0 (place_at cs p) = subst (λ (r : Read yaml_lexeme_t). reach r ≡ skip g.0 (place_at cs p)) e g.1 in
        let t = at_count cs p g.0 y.at w i in
        let u : offence k (place_at cs p) y (count_to (length cs) y.at) ≡ o = err_same (offence k (place_at cs p) y (count_to (length cs) y.at)) o (reading_of (length cs) k (place_at cs p) (Err y)) refl z in
        subst (λ (v : Offence). (v.fault.error ≡ YAML_SCANNER_ERROR) × (v.fault.problem_mark ≡ (place_at cs v.place).mark)) u (refl, ap (λ (v : Place). v.mark) t)

pub texts_keep_order : TextsKeepOrder
unfolding source_of skip
texts_keep_order cs c = record {
  begins = refl;
  gap_within = λ flow allowed p l. let g = gap_there cs flow allowed p l in let m = g.least in (rw g.counts (omega arith), rw g.counts g.within);
  gap_marks = λ flow allowed p l. let g = gap_there cs flow allowed p l in
      subst (λ (m : yaml_mark_t). IsNotBefore (place_at cs p).mark m) (ap (λ (y : Place). y.mark) g.is ∙ ap (λ (y : ℕ). (place_at cs y).mark) (sym g.counts)) (not_before 0 (place_at cs p).mark (gap flow allowed (place_at cs p)).0.mark (gap_order flow allowed (place_at cs p)).1);
  reads = λ k d l p r w e q. read_is cs k d l p w c e r (lex k (record { depth = d; level = l }) (place_at cs p)) refl q;
  offends = λ k d l p o w e q. offence_is cs k d l p w c e o (lex k (record { depth = d; level = l }) (place_at cs p)) refl q;
}
