-- What is read of texts that agree a little past its end is the same.
use Rattle.std.proofs.Common.{◌≡◌, ℕ, zero, suc, ◌+◌, ◌-◌, ◌≤◌, ◌<◌, Bool, List, [], ◌∷◌, ◌++◌, length, slice_get, Option, Some, refl, ap, sym, ◌∙◌, subst, arith, inl, inr}
use Rattle.std.specs.Prelude.{Result, Ok, Err}
use Rattle.std.proofs.lemmas.List.{length-append}
use Rattle.yaml_text.specs.declared.types.yaml_mark_t.{yaml_mark_t}
use Rattle.yaml_lexeme.specs.declared.lex.yaml_context_t.{yaml_context_t}
use Rattle.yaml_lexeme.specs.Lexeme.{Lexeme as yaml_lexeme_t}
use Rattle.yaml_lexeme.specs.Place.{Place, place_at, start, skip}
use Rattle.yaml_lexeme.specs.Reading.{Read}
use Rattle.yaml_lexeme.specs.Gap.{gap}
use Rattle.yaml_lexeme.specs.Kind.{kind_at}
use Rattle.yaml_lexeme.specs.Lex.{lex}
use Rattle.yaml_lexeme.specs.Locality.{reach, move}
use Rattle.yaml_lexeme.proofs.Locality.AgreeingPlaces.{Agree, some_same, same_or_long, get_index}
use Rattle.yaml_lexeme.proofs.Places.PlaceMoves.{length_skip, skip_skip}
use Rattle.yaml_lexeme.proofs.MarkOrder.PlaceOrder.{gap_order}
use Rattle.yaml_lexeme.proofs.Locality.ComposedReaders.{agree_after}
use Rattle.yaml_lexeme.proofs.Locality.LocalReaders.{agree_less}
use Rattle.yaml_lexeme.proofs.Locality.GapLocality.{gap_local_to}
use Rattle.yaml_lexeme.proofs.Locality.KindLocality.{kind_local}
use Rattle.yaml_lexeme.proofs.Locality.LexemeLocality.{lex_local_to}
use Rattle.yaml_scan.proofs.Texts.LexemeReads.{lex_goes_on}
use Rattle.yaml_lexeme.specs.FaultTexts.{problem_text, context_text}
use Rattle.yaml_text.specs.Fault.{scanner_fault}
use Rattle.yaml_scan.specs.Begins.{Begins}
use Rattle.yaml_scan.specs.Kind.{Kind}
use Rattle.yaml_scan.specs.Source.{Source, Reading, Offence}
use Rattle.yaml_scan.specs.SourceOf.{count_to, reading, reading_of, source_of}
use Rattle.yaml_scan.specs.Locality.{place_read, ReadsSame, SameBelow, TextsAreLocal}

same_reads : (r : ℕ) (S : Source) → ReadsSame r S S
same_reads r S = record { marks = λ p l. refl; gaps = λ f a p l. refl; kinds = λ f p l. refl; reads = λ k d l p m. refl }

module _ (r : ℕ) (a b : List ℕ) (s : SameBelow (r + 8) a b) (la : r + 8 ≤ length a) (lb : r + 8 ≤ length b) where
  starts_agree : Agree (r + 8) (start a) (start b)
  starts_agree = record { mark = refl; left = la; right = lb; same = λ i l. some_same (sym (get_index a i (omega arith)) ∙ s i l ∙ get_index b i (omega arith)) }

  places_agree : (p : ℕ) → p ≤ r → Agree (r + 8 - p) (place_at a p) (place_at b p)
  places_agree p l = agree_after (r + 8) p (start a) (start b) (omega arith) starts_agree

  -- a place that is counted at r at most was not passed by the end
  counted : (n : ℕ) (p : ℕ) (q : Place) → q ≡ skip n (place_at a p) → count_to (length a) q ≤ r → (p + n ≤ r) × (count_to (length a) q ≡ p + n)
  counted n p q e l =
      let x = ap (λ (z : Place). length z.rest) e in
      let y = length_skip n (place_at a p) in
      let z = length_skip p (start a) in
      (omega arith, omega arith)

  other_count : (p n : ℕ) → p + n ≤ r → count_to (length b) (skip n (place_at b p)) ≡ p + n
  other_count p n l =
      let y = length_skip n (place_at b p) in
      let z = length_skip p (start b) in
      omega arith

  marks_same : (p : ℕ) → p ≤ r → (place_at b p).mark ≡ (place_at a p).mark
  marks_same p l = sym (places_agree p l).mark

  kinds_same : (flow : Bool) (p : ℕ) → p ≤ r → kind_at flow (place_at b p) ≡ kind_at flow (place_at a p)
  kinds_same flow p l = kind_local flow (place_at a p) (place_at b p) (agree_less 8 (r + 8 - p) (place_at a p) (place_at b p) (omega arith) (places_agree p l))

  gaps_same : (flow allowed : Bool) (p : ℕ) → count_to (length a) (gap flow allowed (place_at a p)).0 ≤ r → count_to (length b) (gap flow allowed (place_at b p)).0 ≡ count_to (length a) (gap flow allowed (place_at a p)).0
  gaps_same flow allowed p l =
      let g = (gap_order flow allowed (place_at a p)).0 in
      let c = counted g.count p (gap flow allowed (place_at a p)).0 g.is l in
      let m = c.0 in
      let h = gap_local_to flow allowed (place_at a p) (place_at b p) g.count g.is (agree_less (g.count + 8) (r + 8 - p) (place_at a p) (place_at b p) (omega arith) (places_agree p (omega arith))) in
      ap (λ (x : Place × Bool). count_to (length b) x.0) h ∙ other_count p g.count m ∙ sym c.1

  read_same : (k : Kind) (c : yaml_context_t) (p : ℕ) (n : ℕ) (x : Read yaml_lexeme_t) → reach x ≡ skip n (place_at a p) → place_read (reading_of (length a) k (place_at a p) x) ≤ r
      → reading_of (length b) k (place_at b p) (move x (skip n (place_at b p))) ≡ reading_of (length a) k (place_at a p) x
  read_same k c p n (Ok f) e l =
      let t = counted n p f.end e l in
      ap (λ (m : ℕ). Ok (reading f.value m)) (other_count p n t.0 ∙ sym t.1)
  read_same k c p n (Err o) e l =
      let t = counted n p o.at e l in
      let m = t.0 in
      let q : skip n (place_at a p) ≡ place_at a (p + n) = skip_skip p n (start a) in
      let u : skip n (place_at b p) ≡ place_at b (p + n) = skip_skip p n (start b) in
      let v : (skip n (place_at b p)).mark ≡ o.at.mark = ap (λ (z : Place). z.mark) u ∙ marks_same (p + n) m ∙ ap (λ (z : Place). z.mark) (sym q ∙ sym e) in
      let w : (place_at b p).mark ≡ (place_at a p).mark = marks_same p (omega arith) in
      let f : yaml_mark_t → yaml_mark_t → ℕ → Result Reading Offence = λ x y i. Err (record { fault = scanner_fault (problem_text o.problem) x (Some (context_text k o.problem)) y; place = i }) in
      ap (λ (x : yaml_mark_t). f x (place_at b p).mark (count_to (length b) (skip n (place_at b p)))) v
      ∙ ap (λ (y : yaml_mark_t). f o.at.mark y (count_to (length b) (skip n (place_at b p)))) w
      ∙ ap (λ (i : ℕ). f o.at.mark (place_at a p).mark i) (other_count p n t.0 ∙ sym t.1)

  reads_same : (k : Kind) (d : ℕ) (l : Option ℕ) (p : ℕ) → place_read (reading_of (length a) k (place_at a p) (lex k (record { depth = d; level = l }) (place_at a p))) ≤ r
      → reading_of (length b) k (place_at b p) (lex k (record { depth = d; level = l }) (place_at b p)) ≡ reading_of (length a) k (place_at a p) (lex k (record { depth = d; level = l }) (place_at a p))
  reads_same k d l p m =
      let x = lex k (record { depth = d; level = l }) (place_at a p) in
      let g = lex_goes_on k (record { depth = d; level = l }) (place_at a p) in
      let w = ends_within p g.0 x g.1 m in
      let h = lex_local_to k (record { depth = d; level = l }) (place_at a p) (place_at b p) g.0 g.1 (agree_less (g.0 + 8) (r + 8 - p) (place_at a p) (place_at b p) (omega arith) (places_agree p (omega arith))) in
      ap (reading_of (length b) k (place_at b p)) h ∙ read_same k (record { depth = d; level = l }) p g.0 x g.1 m
    where
      ends_within : (p n : ℕ) (x : Read yaml_lexeme_t) → reach x ≡ skip n (place_at a p) → place_read (reading_of (length a) k (place_at a p) x) ≤ r → p + n ≤ r
      ends_within p n (Ok f) e m = (counted n p f.end e m).0
      ends_within p n (Err o) e m = (counted n p o.at e m).0

  long_reads : ReadsSame r (source_of a) (source_of b)
  unfolding source_of
  long_reads = record { marks = marks_same; gaps = gaps_same; kinds = kinds_same; reads = reads_same }

pub texts_are_local : TextsAreLocal
texts_are_local r a b s = elim (same_or_long (r + 8) a b s) [
  | inl e ↦ subst (λ (x : List ℕ). ReadsSame r (source_of a) (source_of x)) e (same_reads r (source_of a))
  | inr l ↦ long_reads r a b s l.0 l.1
]

-- TEXTS THAT BEGIN ALIKE
get_front : (a more : List ℕ) (i : ℕ) → i < length a → slice_get a i ≡ slice_get (a ++ more) i
get_front [] more i l = absurd (omega arith)
get_front (x ∷ a) more zero l = refl
get_front (x ∷ a) more (suc i) l = get_front a more i (omega arith)

pub same_front : (m : ℕ) (a b : List ℕ) → Begins a b → m ≤ length a → SameBelow m a b
same_front m a b g l i j = rw g.is (get_front a g.rest i (omega arith))

pub no_shorter : (a b : List ℕ) → Begins a b → length a ≤ length b
no_shorter a b g = omega (arith, ap length g.is, length-append a g.rest)

-- what is read of a text is read of each that it begins
pub begun_text_reads_same : (a b : List ℕ) → Begins a b → (r : ℕ) → r + 8 ≤ length a → ReadsSame r (source_of a) (source_of b)
begun_text_reads_same a b g r l = texts_are_local r a b (same_front (r + 8) a b g l)
