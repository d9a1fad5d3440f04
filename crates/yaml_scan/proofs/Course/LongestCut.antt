-- The longest list of steps exists, is a history, and is short.
use Rattle.std.proofs.Common.{◌≡◌, ℕ, zero, suc, ◌+◌, ◌≤◌, ◌<◌, true, false, List, [], ◌∷◌, length, Option, Some, None, refl, sym, ◌∙◌, subst, arith, inl, inr}
use Rattle.std.specs.Prelude.{nat_lt, Result, Ok, Err}
use Rattle.std.proofs.lemmas.Bool.{cases_Bool}
use Rattle.yaml_text.specs.declared.types.yaml_mark_t.{yaml_mark_t}
use Rattle.yaml_scan.specs.inside.StepParts.{kind_step, read_step, after_read}
use Rattle.yaml_scan.specs.Course.{ended, Cut, cut_from, cut_on}
use Rattle.yaml_scan.specs.Kind.{Kind, is_stream_end}
use Rattle.yaml_scan.specs.Laid.{Laid, reach, Lexeme}
use Rattle.yaml_scan.specs.Depth.{depth}
use Rattle.yaml_scan.specs.Allowed.{allowed_after}
use Rattle.yaml_scan.specs.Levels.{laid, level}
use Rattle.yaml_scan.specs.Order.{Follows, IsHistory}
use Rattle.yaml_scan.specs.Source.{Source, Reading, Offence}
use Rattle.yaml_scan.specs.Step.{Outcome, place_after, step, unless, refuse, stale}
use Rattle.yaml_scan.specs.Step.{refused, clears, start_at, lexeme_of, gap_end_of}
use Rattle.yaml_scan.specs.Laws.{CutIsLongest, CutIsHistory, CutIsShort}
use Rattle.yaml_scan.specs.Step.Outcome.{Reads, Faults}
use Rattle.yaml_scan.specs.Cut.{SaysKind, cut, IsRun, EndsWith, KeepsOrder}

-- WHAT A STEP READS
unless_reads : (o : Option Laid) (m : yaml_mark_t) (p : ℕ) (y : Outcome) (x : Lexeme) → unless o m p y ≡ Reads x → y ≡ Reads x
unless_reads None m p y x e = e
unless_reads (Some i) m p y x e = cc

refuse_reads : (o : Option (List ℕ)) (m : yaml_mark_t) (p : ℕ) (y : Outcome) (x : Lexeme) → refuse o m p y ≡ Reads x → y ≡ Reads x
refuse_reads None m p y x e = e
refuse_reads (Some i) m p y x e = cc

-- the lexeme of a step is what is read after the gap
pub record IsStepOf (S : Source) (H : List Laid) (x : Lexeme) : Type 0 where
  pub kind : Kind
  pub reading : Reading
  pub kind_is : S.kind (nat_lt 0 (depth H)) (gap_end_of S H) ≡ Some kind
  pub reading_is : S.read kind (depth H) (level H kind (start_at kind (S.mark (gap_end_of S H)))) (gap_end_of S H) ≡ Ok reading
  pub lexeme_is : x ≡ lexeme_of kind (S.mark (gap_end_of S H)) reading

reads_same : (x y : Lexeme) → Reads x ≡ Reads y → y ≡ x
reads_same x y e = cc

module _ (S : Source) (limit : ℕ) (H : List Laid) (x : Lexeme) where
  of_reading : (k : Kind) → S.kind (nat_lt 0 (depth H)) (gap_end_of S H) ≡ Some k → (r : Result Reading Offence)
      → S.read k (depth H) (level H k (start_at k (S.mark (gap_end_of S H)))) (gap_end_of S H) ≡ r → after_read limit H k (S.mark (gap_end_of S H)) r ≡ Reads x → IsStepOf S H x
  of_reading k q (Err o) e f = absurd (not_reads o f)
    where
      not_reads : (o : Offence) → Faults o ≡ Reads x → ⊥
      not_reads o f = cc
  of_reading k q (Ok r) e f = record { kind = k; reading = r; kind_is = q; reading_is = e; lexeme_is = reads_same _ x (unless_reads _ _ _ _ x f) }

  of_kind : (o : Option Kind) → S.kind (nat_lt 0 (depth H)) (gap_end_of S H) ≡ o → kind_step S limit H (gap_end_of S H) o ≡ Reads x → IsStepOf S H x
  unfolding read_step
  of_kind None q e = absurd (not_reads _ e)
    where
      not_reads : (o : Offence) → Faults o ≡ Reads x → ⊥
      not_reads o f = cc
  of_kind (Some k) q e =
      let a : unless (clears limit H k (S.mark (gap_end_of S H))) (start_at k (S.mark (gap_end_of S H))) (gap_end_of S H) (read_step S limit H k (gap_end_of S H)) ≡ Reads x = refuse_reads (refused limit H k (S.mark (gap_end_of S H))) (S.mark (gap_end_of S H)) (gap_end_of S H) _ x e in
      let b : read_step S limit H k (gap_end_of S H) ≡ Reads x = unless_reads (clears limit H k (S.mark (gap_end_of S H))) (start_at k (S.mark (gap_end_of S H))) (gap_end_of S H) _ x a in
      of_reading k q _ refl b

  pub step_is : step S limit H ≡ Reads x → IsStepOf S H x
  unfolding step read_step
  step_is e = of_kind _ refl (unless_reads (stale limit H (S.mark (gap_end_of S H))) (S.mark (gap_end_of S H)) (gap_end_of S H) _ x e)

-- THE ORDER OF STEPS
pub record IsNext (so_far : yaml_mark_t) (place size : ℕ) (x : Lexeme) : Type 0 where
  pub follows : Follows so_far x
  pub says : SaysKind x.kind x.token_data
  pub within : x.place ≤ size
  pub takes_a_character : is_stream_end x.kind ≡ false → place < x.place
  pub ends : is_stream_end x.kind ≡ true → x.place ≡ size

-- the steps of a text are in order
abbrev pub IsOrderly : (List Laid → Outcome) → ℕ → ℕ → Type 0
IsOrderly step limit size = (H : List Laid) (x : Lexeme) → IsRun step limit H → ended H ≡ false → step H ≡ Reads x → IsNext (reach H) (place_after H) size x

-- where a text was read to
pub record IsReadTo (S : Source) (H : List Laid) : Type 0 where
  pub mark : reach H ≡ S.mark (place_after H)
  pub within : place_after H ≤ S.size

module _ (S : Source) (k : KeepsOrder S) (limit : ℕ) where
  orderly_at : (H : List Laid) (x : Lexeme) → IsReadTo S H → step S limit H ≡ Reads x → IsNext (reach H) (place_after H) S.size x × (is_stream_end x.kind ≡ false → x.reach ≡ S.mark x.place)
  orderly_at H x a e =
      let s = step_is S limit H x e in
      let g = k.gap_within (nat_lt 0 (depth H)) (allowed_after H) (place_after H) a.within in
      let m = k.gap_marks (nat_lt 0 (depth H)) (allowed_after H) (place_after H) a.within in
      let r = k.reads s.kind (depth H) (level H s.kind (start_at s.kind (S.mark (gap_end_of S H)))) (gap_end_of S H) s.reading g.1 s.kind_is s.reading_is in
      let f = r.follows in
      let w : IsNext (reach H) (place_after H) S.size (lexeme_of s.kind (S.mark (gap_end_of S H)) s.reading) × (is_stream_end s.kind ≡ false → s.reading.reach ≡ S.mark s.reading.place) = (
        record {
          follows = record { gap_end = rw a.mark m; start = f.start; at_once = f.at_once; end = f.end; reach = f.reach; takes_a_byte = f.takes_a_byte; takes_a_column = f.takes_a_column; ends_at_column_0 = f.ends_at_column_0 };
          says = r.says;
          within = r.within;
          takes_a_character = λ n. let t = r.takes_a_character n in let l = g.0 in omega arith;
          ends = r.ends;
        },
        r.reach,
      ) in
      subst (λ (y : Lexeme). IsNext (reach H) (place_after H) S.size y × (is_stream_end y.kind ≡ false → y.reach ≡ S.mark y.place)) (sym s.lexeme_is) w

  pub read_to : (H : List Laid) → IsRun (step S limit) limit H → ended H ≡ false → IsReadTo S H
  read_to [] r e = record { mark = sym k.begins; within = omega arith }
  read_to (i ∷ H) r e =
      let a = orderly_at H i.lexeme (read_to H r.2 r.3) r.1 in
      record { mark = a.1 e; within = a.0.within }

  pub orderly : IsOrderly (step S limit) limit S.size
  orderly H x r e s = (orderly_at H x (read_to H r e) s).0

-- THE CUT
module _ (step : List Laid → Outcome) (limit size : ℕ) (k : IsOrderly step limit size) where
  pub IsHistory-from_run : (H : List Laid) → IsRun step limit H → IsHistory limit H
  IsHistory-from_run [] r = tt
  IsHistory-from_run (i ∷ H) r = (r.0, (k H i.lexeme r.2 r.3 r.1).follows, IsHistory-from_run H r.2, r.3)

  run_more : (H : List Laid) (x : Lexeme) → IsRun step limit H → ended H ≡ false → step H ≡ Reads x → IsRun step limit (laid limit H x ∷ H)
  unfolding laid
  run_more H x r e s = (refl, s, r, e)

  laid_ended : (H : List Laid) (x : Lexeme) → ended (laid limit H x ∷ H) ≡ is_stream_end x.kind
  unfolding laid
  laid_ended H x = refl

  laid_at : (H : List Laid) (x : Lexeme) → place_after (laid limit H x ∷ H) ≡ x.place
  unfolding laid
  laid_at H x = refl

  pub run_at : (H : List Laid) → IsRun step limit H → place_after H ≤ size
  run_at [] r = omega arith
  run_at (i ∷ H) r = (k H i.lexeme r.2 r.3 r.1).within

  -- what the next step leaves to read
  less : (n : ℕ) (H : List Laid) (x : Lexeme) → IsRun step limit H → ended H ≡ false → step H ≡ Reads x → size < suc n + place_after H → ended (laid limit H x ∷ H) ≡ false → size < n + place_after (laid limit H x ∷ H)
  less n H x r d s l e =
      let f = k H x r d s in
      let g : is_stream_end x.kind ≡ false = sym (laid_ended H x) ∙ e in
      let a = f.takes_a_character g in
      let q = laid_at H x in
      omega arith

  abbrev pub IsCut : Cut → Type 0
  IsCut c = IsRun step limit c.read × EndsWith step c.read c.fault

  on_is : (n : ℕ) (H : List Laid) → IsRun step limit H → ended H ≡ false → ((x : Lexeme) → step H ≡ Reads x → IsCut (cut_from step n limit (laid limit H x ∷ H)))
      → (o : Outcome) → step H ≡ o → IsCut (cut_on (cut_from step n) limit H o)
  on_is n H r e next (Faults f) q = (r, (e, q))
  on_is n H r e next (Reads x) q = next x q

  pub cut_is : (n : ℕ) (H : List Laid) → IsRun step limit H → (ended H ≡ false → size < n + place_after H) → IsCut (cut_from step n limit H)
  cut_is zero H r l = elim (cases_Bool (ended H)) [
    | inl e ↦ (r, e)
    | inr e ↦ (let a = l e in let b = run_at H r in absurd (omega arith))
  ]
  cut_is (suc n) H r l = elim (cases_Bool (ended H)) [
    | inl e ↦ rw e (r, e)
    | inr e ↦ rw e (on_is n H r e (λ x s. cut_is n (laid limit H x ∷ H) (run_more H x r e s) (λ g. less n H x r e s (l e) g)) (step H) refl)
  ]

  -- the longest list of steps from the text's start
  pub cut_of : IsCut (cut_from step (size + 1) limit [])
  cut_of = cut_is (size + 1) [] tt (λ e. omega arith)

  -- each lexeme but the stream end takes a character
  run_length : (H : List Laid) → IsRun step limit H → ended H ≡ false → length H ≤ place_after H
  run_length [] r e = omega arith
  run_length (i ∷ H) r e = let a = run_length H r.2 r.3 in let b = (k H i.lexeme r.2 r.3 r.1).takes_a_character e in omega arith

  pub run_short : (H : List Laid) → IsRun step limit H → length H ≤ size + 1
  run_short [] r = omega arith
  run_short (i ∷ H) r = let a = run_length H r.2 r.3 in let b = run_at H r.2 in omega arith

pub cut_is_longest : CutIsLongest
unfolding cut
cut_is_longest S limit k = cut_of (step S limit) limit S.size (orderly S k limit)

pub cut_is_history : CutIsHistory
cut_is_history S limit k = IsHistory-from_run (step S limit) limit S.size (orderly S k limit) (cut S limit).read (cut_is_longest S limit k).0

pub cut_is_short : CutIsShort
cut_is_short S limit k = let r = run_short (step S limit) limit S.size (orderly S k limit) (cut S limit).read (cut_is_longest S limit k).0 in omega arith
