-- Each mark of what is read is counted, or is that of the end of a stream.
use Rattle.std.proofs.Common.{◌≡◌, ℕ, Bool, true, false, List, length, Option, Some, Ok, Err, refl, ap, sym, ◌∙◌, subst, arith, inl}
use Rattle.std.specs.Prelude.{Result, nat_lt}
use Rattle.std.proofs.lemmas.Bool.{false≢true}
use Rattle.yaml_text.specs.TextBytes.{AreChars}
use Rattle.yaml_text.specs.Mark.{IsPlaceAt, mark_at, column}
use Rattle.yaml_text.specs.declared.types.yaml_mark_t.{yaml_mark_t}
use Rattle.yaml_lexeme.specs.declared.kind.yaml_lexeme_kind_t.TheVariants.{STREAM_END}
use Rattle.yaml_lexeme.specs.declared.lex.yaml_context_t.{yaml_context_t}
use Rattle.yaml_lexeme.specs.Lexeme.{Lexeme as yaml_lexeme_t}
use Rattle.yaml_lexeme.specs.Lex.{lex}
use Rattle.yaml_lexeme.specs.StreamEnd.{stream_end}
use Rattle.yaml_lexeme.specs.Locality.{reach}
use Rattle.yaml_lexeme.specs.Place.{Place, place_at}
use Rattle.yaml_lexeme.specs.Reading.{Found, Read}
use Rattle.yaml_lexeme.specs.Whole as whole
use Rattle.yaml_lexeme.proofs.CountedMarks.CountedPlaces.{places_counted}
use Rattle.yaml_lexeme.proofs.CountedMarks.WholeLexemes.{gap_is_whole, reach_is_whole, lexeme_is_counted, problem_is_counted}
use Rattle.yaml_scan.specs.Kind.{Kind, is_stream_end}
use Rattle.yaml_scan.specs.Source.{Source, Reading, Offence}
use Rattle.yaml_scan.specs.SourceOf.{source_of, count_to, reading, offence, reading_of}
use Rattle.yaml_scan.specs.Step.{end_of}
use Rattle.yaml_scan.specs.Token.{zero_mark}
use Rattle.yaml_scan.specs.CountedMarks.{IsCounted, IsStreamEnd, FaultIsCounted}
use Rattle.yaml_scan.proofs.Texts.SourceOrder.{count_at, over, end_is}

-- THE PLACES OF A TEXT
module _ (cs : List ℕ) where
  -- the place is not between CR and LF
  abbrev pub Whole : ℕ → Type 0
  Whole p = (index : ℕ) × IsPlaceAt cs index p

  -- so do the marks of what is read there
  pub record ReadMarked (k : Kind) (r : Reading) : Type 0 where
    pub other : is_stream_end k ≡ false → IsCounted cs r.end × IsCounted cs r.reach × Whole r.place
    pub last : is_stream_end k ≡ true → IsStreamEnd cs r.end × IsStreamEnd cs r.reach

  -- what reading a text must keep to
  pub record SourceMarked (S : Source) : Type 0 where
    pub zero : Whole 0
    pub mark : (p : ℕ) → Whole p → IsCounted cs (S.mark p)
    pub gap : (flow allowed : Bool) (p : ℕ) → Whole p → Whole (S.gap flow allowed p)
    pub ends : (flow : Bool) (p : ℕ) (k : Kind) → Whole p → S.kind flow p ≡ Some k → is_stream_end k ≡ true → IsStreamEnd cs (end_of (S.mark p))
    pub reads : (k : Kind) (d : ℕ) (l : Option ℕ) (p : ℕ) (r : Reading) → Whole p → S.kind (nat_lt 0 d) p ≡ Some k → S.read k d l p ≡ Ok r → ReadMarked k r
    pub offends : (k : Kind) (d : ℕ) (l : Option ℕ) (p : ℕ) (o : Offence) → Whole p → S.kind (nat_lt 0 d) p ≡ Some k → S.read k d l p ≡ Err o → FaultIsCounted cs o.fault

  mark_is : (p : ℕ) → Whole p → (place_at cs p).mark ≡ mark_at cs p
  mark_is p w = (places_counted cs w.0 p w.1).0

  place_counted : (p : ℕ) → Whole p → IsCounted cs (place_at cs p).mark
  place_counted p w =
      let m = mark_is p w in
      (p, record { place = record { within = w.1.within; index_is = ap (λ (x : yaml_mark_t). x.index) m; whole = w.1.whole }; mark_is = m })

  counted : (n : ℕ) (m : yaml_mark_t) → whole.IsCounted cs n m → IsCounted cs m
  counted n m i = (i.count, i.at)

  -- the place that is counted to
  counts : (n : ℕ) (q : Place) → whole.IsWhole cs n q → Whole (count_to (length cs) q)
  counts n q w =
      let e : count_to (length cs) q ≡ w.count = ap (λ (x : Place). count_to (length cs) x) w.is ∙ count_at cs w.count w.place.within in
      subst (λ (x : ℕ). Whole x) (sym e) (w.index, w.place)

  zero_whole : Whole 0
  zero_whole = (0, record { within = omega arith; index_is = refl; whole = refl })

  pub start_counted : IsCounted cs zero_mark
  unfolding column zero_whole
  start_counted = (0, record { place = zero_whole.1; mark_is = refl })

  ok_same : (x y : Reading) (r : Result Reading Offence) → r ≡ Ok x → r ≡ Ok y → x ≡ y
  ok_same x y r e f = cc

  err_same : (x y : Offence) (r : Result Reading Offence) → r ≡ Err x → r ≡ Err y → x ≡ y
  err_same x y r e f = cc

  err_ok : {X : Type 0} (x : Offence) (y : Reading) (r : Result Reading Offence) → r ≡ Err x → r ≡ Ok y → X
  err_ok x y r e f = cc

  found_same : (x y : Found yaml_lexeme_t) (r : Read yaml_lexeme_t) → r ≡ Ok x → r ≡ Ok y → x ≡ y
  found_same x y r e f = cc

  module _ (c : AreChars cs) where
    ends_text : (flow : Bool) (p : ℕ) (k : Kind) → Whole p → (source_of cs).kind flow p ≡ Some k → is_stream_end k ≡ true → IsStreamEnd cs (end_of ((source_of cs).mark p))
    unfolding source_of
    ends_text flow p k w h e =
        let o : p ≡ length cs = over cs flow p k c w.1.within h e in
        ap end_of (mark_is p w ∙ ap (λ (x : ℕ). mark_at cs x) o)

    module _ (k : Kind) (d : ℕ) (l : Option ℕ) (p : ℕ) (w : Whole p) (h : (source_of cs).kind (nat_lt 0 d) p ≡ Some k) where
      abbrev context : yaml_context_t
      context = record { depth = d; level = l }

      abbrev here : Place
      here = place_at cs p

      not_end : is_stream_end k ≡ false → k ≡ STREAM_END → ⊥
      not_end n e = false≢true (sym n ∙ ap is_stream_end e)

      found_marked : (f : Found yaml_lexeme_t) → lex k context here ≡ Ok f → ReadMarked k (reading f.value (count_to (length cs) f.end))
      unfolding source_of lex
      found_marked f q = record {
        other = λ n.
            let m = lexeme_is_counted k context cs w.0 p f w.1 h (not_end n) q in
            let r = subst (λ (x : Read yaml_lexeme_t). whole.IsWhole cs p (reach x)) q (reach_is_whole k context cs w.0 p w.1 h) in
            (counted p f.value.end_mark m.1, counted p f.value.reach m.2, counts p f.end r);
        last = λ e.
            let z : k ≡ STREAM_END = end_is k e in
            let v : lex STREAM_END context here ≡ Ok f = subst (λ (x : Kind). lex x context here ≡ Ok f) z q in
            let t = ends_text (nat_lt 0 d) p k w h e in
            let is : stream_end here.mark ≡ f.value.end_mark = ap (λ (x : Read yaml_lexeme_t). last_mark x) v in
            let to : stream_end here.mark ≡ f.value.reach = ap (λ (x : Read yaml_lexeme_t). last_reach x) v in
            (sym is ∙ t, sym to ∙ t);
      }
        where
          last_mark : Read yaml_lexeme_t → yaml_mark_t
          last_mark (Ok x) = x.value.end_mark
          last_mark (Err x) = here.mark

          last_reach : Read yaml_lexeme_t → yaml_mark_t
          last_reach (Ok x) = x.value.reach
          last_reach (Err x) = here.mark

      read_marked : (r : Reading) → (source_of cs).read k d l p ≡ Ok r → ReadMarked k r
      unfolding source_of
      read_marked r e = go (lex k context here) refl e
        where
          go : (x : Read yaml_lexeme_t) → lex k context here ≡ x → reading_of (length cs) k here x ≡ Ok r → ReadMarked k r
          go (Ok f) q z = subst (λ (y : Reading). ReadMarked k y) (ok_same (reading f.value (count_to (length cs) f.end)) r (reading_of (length cs) k here (Ok f)) refl z) (found_marked f q)
          go (Err y) q z = err_ok (offence k here y (count_to (length cs) y.at)) r (reading_of (length cs) k here (Err y)) refl z

      offence_marked : (o : Offence) → (source_of cs).read k d l p ≡ Err o → FaultIsCounted cs o.fault
      unfolding source_of
      offence_marked o e = go (lex k context here) refl e
        where
          go : (x : Read yaml_lexeme_t) → lex k context here ≡ x → reading_of (length cs) k here x ≡ Err o → FaultIsCounted cs o.fault
          go (Ok f) q z = err_ok o (reading f.value (count_to (length cs) f.end)) (reading_of (length cs) k here (Ok f)) z refl
          go (Err y) q z = subst (λ (v : Offence). FaultIsCounted cs v.fault) (err_same (offence k here y (count_to (length cs) y.at)) o (reading_of (length cs) k here (Err y)) refl z)
              (inl (counted p y.at.mark (problem_is_counted k context cs w.0 p y w.1 h q)), place_counted p w)

    pub text_marked : SourceMarked (source_of cs)
    unfolding source_of
    text_marked = record {
      zero = zero_whole;
      mark = place_counted;
      gap = λ flow allowed p w. counts p _ (gap_is_whole flow allowed cs w.0 p w.1);
      ends = ends_text;
      reads = λ k d l p r w h e. read_marked k d l p w h r e;
      offends = λ k d l p o w h e. offence_marked k d l p w h o e;
    }
