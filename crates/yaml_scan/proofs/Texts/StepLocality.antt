-- A step is the same in two sources that read the same up to its place.
use Rattle.std.proofs.Common.{◌≡◌, ℕ, ◌≤◌, List, ◌∷◌, Option, Some, None, refl, ap, ◌∙◌, arith, inl, inr}
use Rattle.std.specs.Prelude.{nat_lt, Result, Ok, Err}
use Rattle.std.proofs.lemmas.Bool.{cases_Bool}
use Rattle.yaml_text.specs.declared.types.yaml_mark_t.{yaml_mark_t}
use Rattle.yaml_scan.specs.inside.StepParts.{gap_step, kind_step, read_step, after_read}
use Rattle.yaml_scan.specs.Kind.{Kind, is_stream_end}
use Rattle.yaml_scan.specs.Laid.{Laid}
use Rattle.yaml_scan.specs.Depth.{depth}
use Rattle.yaml_scan.specs.Allowed.{allowed_after}
use Rattle.yaml_scan.specs.Levels.{laid, level}
use Rattle.yaml_scan.specs.Source.{Source, Reading, Offence}
use Rattle.yaml_scan.specs.Step.{Outcome, step, unless, refuse, stale}
use Rattle.yaml_scan.specs.Step.{refused, clears, start_at, lexeme_of, place_after, gap_end_of}
use Rattle.yaml_scan.specs.Step.Outcome.{Reads}
use Rattle.yaml_scan.specs.Cut.{KeepsOrder}
use Rattle.yaml_scan.specs.Near.{place_of}
use Rattle.yaml_scan.specs.Locality.{place_read, ReadsSame, StepIsLocal}

-- ROWS OF A STEP
module _ (r : ℕ) where
  unless_same : (o : Option Laid) (m : yaml_mark_t) (p : ℕ) (y z : Outcome) → place_of (unless o m p y) ≤ r → (place_of y ≤ r → z ≡ y) → unless o m p z ≡ unless o m p y
  unless_same None m p y z l k = k l
  unless_same (Some i) m p y z l k = refl

  refuse_same : (o : Option (List ℕ)) (m : yaml_mark_t) (p : ℕ) (y z : Outcome) → place_of (refuse o m p y) ≤ r → (place_of y ≤ r → z ≡ y) → refuse o m p z ≡ refuse o m p y
  refuse_same None m p y z l k = k l
  refuse_same (Some i) m p y z l k = refl

unless_from : (o : Option Laid) (m : yaml_mark_t) (p : ℕ) (y : Outcome) → p ≤ place_of y → p ≤ place_of (unless o m p y)
unless_from None m p y l = l
unless_from (Some i) m p y l = omega arith

refuse_from : (o : Option (List ℕ)) (m : yaml_mark_t) (p : ℕ) (y : Outcome) → p ≤ place_of y → p ≤ place_of (refuse o m p y)
refuse_from None m p y l = l
refuse_from (Some i) m p y l = omega arith

after_place : (limit : ℕ) (H : List Laid) (k : Kind) (g : yaml_mark_t) (x : Result Reading Offence) → place_of (after_read limit H k g x) ≡ place_read x
after_place limit H k g (Err o) = refl
after_place limit H k g (Ok b) = cases (stale limit (laid limit H (lexeme_of k g b) ∷ H) b.reach)
  where
    cases : (o : Option Laid) → place_of (unless o b.reach b.place (Reads (lexeme_of k g b))) ≡ b.place
    cases None = refl
    cases (Some i) = refl

module _ (S : Source) (limit : ℕ) (H : List Laid) (k : KeepsOrder S) (w : place_after H ≤ S.size) where
  p_within : gap_end_of S H ≤ S.size
  p_within = (k.gap_within (nat_lt 0 (depth H)) (allowed_after H) (place_after H) w).1

  -- nothing is found before the gap's end
  read_from : (j : Kind) → S.kind (nat_lt 0 (depth H)) (gap_end_of S H) ≡ Some j → (x : Result Reading Offence)
      → S.read j (depth H) (level H j (start_at j (S.mark (gap_end_of S H)))) (gap_end_of S H) ≡ x → gap_end_of S H ≤ place_read x
  read_from j q (Err o) e = (k.offends j (depth H) (level H j (start_at j (S.mark (gap_end_of S H)))) (gap_end_of S H) o p_within q e).0
  read_from j q (Ok b) e =
      let a = k.reads j (depth H) (level H j (start_at j (S.mark (gap_end_of S H)))) (gap_end_of S H) b p_within q e in
      elim (cases_Bool (is_stream_end j)) [
        | inl t ↦ (let z = a.ends t in let l = p_within in omega arith)
        | inr t ↦ (let z = a.takes_a_character t in omega arith)
      ]

  kind_from : (o : Option Kind) → S.kind (nat_lt 0 (depth H)) (gap_end_of S H) ≡ o → gap_end_of S H ≤ place_of (kind_step S limit H (gap_end_of S H) o)
  unfolding read_step
  kind_from None q = omega arith
  kind_from (Some j) q =
      let x = S.read j (depth H) (level H j (start_at j (S.mark (gap_end_of S H)))) (gap_end_of S H) in
      let a = read_from j q x refl in
      let e = after_place limit H j (S.mark (gap_end_of S H)) x in
      let b : gap_end_of S H ≤ place_of (read_step S limit H j (gap_end_of S H)) = omega arith in
      refuse_from (refused limit H j (S.mark (gap_end_of S H))) (S.mark (gap_end_of S H)) (gap_end_of S H) _
      (unless_from (clears limit H j (S.mark (gap_end_of S H))) (start_at j (S.mark (gap_end_of S H))) (gap_end_of S H) (read_step S limit H j (gap_end_of S H)) b)

  pub step_from : gap_end_of S H ≤ place_of (step S limit H)
  unfolding step read_step
  step_from = unless_from (stale limit H (S.mark (gap_end_of S H))) (S.mark (gap_end_of S H)) (gap_end_of S H) _ (kind_from (S.kind (nat_lt 0 (depth H)) (gap_end_of S H)) refl)

  module _ (T : Source) (r : ℕ) (e : ReadsSame r S T) (l : place_of (step S limit H) ≤ r) where
    gap_end_same : gap_end_of T H ≡ gap_end_of S H
    gap_end_same = let f = step_from in e.gaps (nat_lt 0 (depth H)) (allowed_after H) (place_after H) (omega arith)

    mark_same : T.mark (gap_end_of S H) ≡ S.mark (gap_end_of S H)
    mark_same = let f = step_from in e.marks (gap_end_of S H) (omega arith)

    kind_same : T.kind (nat_lt 0 (depth H)) (gap_end_of S H) ≡ S.kind (nat_lt 0 (depth H)) (gap_end_of S H)
    kind_same = let f = step_from in e.kinds (nat_lt 0 (depth H)) (gap_end_of S H) (omega arith)

    read_same : (j : Kind) → place_of (read_step S limit H j (gap_end_of S H)) ≤ r → read_step T limit H j (gap_end_of S H) ≡ read_step S limit H j (gap_end_of S H)
    unfolding read_step
    read_same j m =
        let q = after_place limit H j (S.mark (gap_end_of S H)) (S.read j (depth H) (level H j (start_at j (S.mark (gap_end_of S H)))) (gap_end_of S H)) in
        let s : T.read j (depth H) (level H j (start_at j (S.mark (gap_end_of S H)))) (gap_end_of S H) ≡ S.read j (depth H) (level H j (start_at j (S.mark (gap_end_of S H)))) (gap_end_of S H) = e.reads j (depth H) (level H j (start_at j (S.mark (gap_end_of S H)))) (gap_end_of S H) (omega arith) in
        ap (λ (g : yaml_mark_t). after_read limit H j g (T.read j (depth H) (level H j (start_at j g)) (gap_end_of S H))) mark_same ∙ ap (after_read limit H j (S.mark (gap_end_of S H))) s

    kind_step_same : (o : Option Kind) → place_of (kind_step S limit H (gap_end_of S H) o) ≤ r → kind_step T limit H (gap_end_of S H) o ≡ kind_step S limit H (gap_end_of S H) o
    kind_step_same None m = rw mark_same refl
    kind_step_same (Some j) m = ap (λ (g : yaml_mark_t). refuse (refused limit H j g) g (gap_end_of S H) (unless (clears limit H j g) (start_at j g) (gap_end_of S H) (read_step T limit H j (gap_end_of S H)))) mark_same
        ∙ refuse_same r (refused limit H j (S.mark (gap_end_of S H))) (S.mark (gap_end_of S H)) (gap_end_of S H) _ _ m
        (λ n. unless_same r (clears limit H j (S.mark (gap_end_of S H))) (start_at j (S.mark (gap_end_of S H))) (gap_end_of S H) _ _ n (read_same j))

    pub step_same : step T limit H ≡ step S limit H
    unfolding step read_step
    step_same =
        ap (gap_step T limit H) gap_end_same
        ∙ ap (λ (o : Option Kind). unless (stale limit H (T.mark (gap_end_of S H))) (T.mark (gap_end_of S H)) (gap_end_of S H) (kind_step T limit H (gap_end_of S H) o)) kind_same
        ∙ ap (λ (g : yaml_mark_t). unless (stale limit H g) g (gap_end_of S H) (kind_step T limit H (gap_end_of S H) (S.kind (nat_lt 0 (depth H)) (gap_end_of S H)))) mark_same
        ∙ unless_same r (stale limit H (S.mark (gap_end_of S H))) (S.mark (gap_end_of S H)) (gap_end_of S H) _ _ l (kind_step_same (S.kind (nat_lt 0 (depth H)) (gap_end_of S H)))

pub step_is_local : StepIsLocal
step_is_local S T limit H r k w e l = step_same S limit H k w T r e l
