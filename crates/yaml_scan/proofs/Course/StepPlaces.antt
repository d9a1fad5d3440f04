-- No step of a text comes before the end of the one before it.
use Rattle.std.proofs.Common.{◌≡◌, ℕ, ◌≤◌, false, List, [], ◌∷◌, ◌++◌, Option, Some, None, refl, ap, arith, inl, inr}
use Rattle.std.specs.Prelude.{nat_lt, Result, Ok, Err}
use Rattle.std.proofs.lemmas.Bool.{cases_Bool}
use Rattle.yaml_text.specs.declared.types.yaml_mark_t.{yaml_mark_t}
use Rattle.yaml_scan.specs.inside.StepParts.{kind_step, read_step, after_read}
use Rattle.yaml_scan.specs.Course.{ended}
use Rattle.yaml_scan.specs.Kind.{Kind, is_stream_end}
use Rattle.yaml_scan.specs.Laid.{Laid}
use Rattle.yaml_scan.specs.Depth.{depth}
use Rattle.yaml_scan.specs.Allowed.{allowed_after}
use Rattle.yaml_scan.specs.Levels.{laid, level}
use Rattle.yaml_scan.specs.Source.{Source, Reading, Offence}
use Rattle.yaml_scan.specs.Step.{Outcome, place_after, step, unless, refuse, stale}
use Rattle.yaml_scan.specs.Step.{refused, clears, start_at, lexeme_of, gap_end_of}
use Rattle.yaml_scan.specs.Step.Outcome.{Reads}
use Rattle.yaml_scan.specs.Cut.{IsRun, KeepsOrder, IsReadInOrder}
use Rattle.yaml_scan.specs.Near.{place_of}
use Rattle.yaml_scan.proofs.Course.LongestCut.{IsReadTo, read_to}

-- THE PLACE OF A STEP
unless_place : (o : Option Laid) (m : yaml_mark_t) (p q : ℕ) (y : Outcome) → q ≤ p → q ≤ place_of y → q ≤ place_of (unless o m p y)
unless_place None m p q y l g = g
unless_place (Some i) m p q y l g = l

refuse_place : (o : Option (List ℕ)) (m : yaml_mark_t) (p q : ℕ) (y : Outcome) → q ≤ p → q ≤ place_of y → q ≤ place_of (refuse o m p y)
refuse_place None m p q y l g = g
refuse_place (Some i) m p q y l g = l

read_on : (S : Source) (c : Kind) (p : ℕ) (r : Reading) → p ≤ S.size → IsReadInOrder S c p r → p ≤ r.place
read_on S c p r l w = elim (cases_Bool (is_stream_end c)) [
  | inl q ↦ (let e = w.ends q in omega arith)
  | inr q ↦ (let t = w.takes_a_character q in omega arith)
]

module _ (S : Source) (k : KeepsOrder S) (limit : ℕ) (H : List Laid) (a : IsReadTo S H) where
  abbrev G : ℕ
  G = gap_end_of S H

  gap : (place_after H ≤ G) × (G ≤ S.size)
  gap = k.gap_within (nat_lt 0 (depth H)) (allowed_after H) (place_after H) a.within

  read_place : (c : Kind) → S.kind (nat_lt 0 (depth H)) G ≡ Some c → (r : Result Reading Offence)
      → S.read c (depth H) (level H c (start_at c (S.mark G))) G ≡ r → G ≤ place_of (after_read limit H c (S.mark G) r)
  read_place c q (Err o) e = (k.offends c (depth H) (level H c (start_at c (S.mark G))) G o gap.1 q e).0
  read_place c q (Ok r) e =
      let l = read_on S c G r gap.1 (k.reads c (depth H) (level H c (start_at c (S.mark G))) G r gap.1 q e) in
      unless_place (stale limit (laid limit H (lexeme_of c (S.mark G) r) ∷ H) r.reach) r.reach r.place G (Reads (lexeme_of c (S.mark G) r)) l l

  kind_place : (o : Option Kind) → S.kind (nat_lt 0 (depth H)) G ≡ o → G ≤ place_of (kind_step S limit H G o)
  unfolding read_step
  kind_place None q = omega arith
  kind_place (Some c) q =
      let r = read_place c q (S.read c (depth H) (level H c (start_at c (S.mark G))) G) refl in
      refuse_place (refused limit H c (S.mark G)) (S.mark G) G G _ (omega arith)
      (unless_place (clears limit H c (S.mark G)) (start_at c (S.mark G)) G G (read_step S limit H c G) (omega arith) r)

  step_on : G ≤ place_of (step S limit H)
  unfolding step read_step
  step_on = unless_place (stale limit H (S.mark G)) (S.mark G) G G _ (omega arith) (kind_place (S.kind (nat_lt 0 (depth H)) G) refl)

  pub step_place : place_after H ≤ place_of (step S limit H)
  step_place = let l = step_on in let g = gap.0 in omega arith

-- so a step comes no earlier than those before it
module _ (S : Source) (k : KeepsOrder S) (limit : ℕ) where
  pub run_places : (Y P : List Laid) → IsRun (step S limit) limit (Y ++ P) → ended (Y ++ P) ≡ false → place_of (step S limit P) ≤ place_of (step S limit (Y ++ P))
  run_places [] P r e = omega arith
  run_places (i ∷ Y) P r e =
      let l = run_places Y P r.2 r.3 in
      let q : place_of (step S limit (Y ++ P)) ≡ i.lexeme.place = ap place_of r.1 in
      let s = step_place S k limit (i ∷ Y ++ P) (read_to S k limit (i ∷ Y ++ P) r e) in
      omega arith
