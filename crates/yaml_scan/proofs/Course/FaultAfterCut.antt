-- The fault of an input is the reader's, or that of the step after the cut.
use Rattle.yaml_text.specs.Fault.{Fault}
use Rattle.std.proofs.Common.{◌≡◌, ℕ, ◌+◌, ◌≤◌, ◌<◌, true, false, List, ◌++◌, Option, Some, None, refl, ap, sym, ◌∙◌, subst, arith, lt-ltb, inl, inr}
use Rattle.std.specs.Prelude.{option_map}
use Rattle.std.proofs.lemmas.Bool.{cases_Bool}
use Rattle.yaml_scan.specs.Course.{ended, Input, course}
use Rattle.yaml_scan.specs.Laid.{Laid}
use Rattle.yaml_scan.specs.Source.{Source, Offence}
use Rattle.yaml_scan.specs.Step.{step}
use Rattle.yaml_scan.specs.Step.Outcome.{Faults}
use Rattle.yaml_scan.specs.Cut.{cut, IsRun, EndsWith, KeepsOrder}
use Rattle.yaml_scan.specs.Near.{is_near, place_of}
use Rattle.yaml_scan.specs.Answers.{answers}
use Rattle.yaml_scan.specs.SessionLaws.{FaultOfRefused}
use Rattle.yaml_scan.specs.SessionLaws.FaultOfRefused.{at_once, near, far}
use Rattle.yaml_scan.specs.AnswerLaws.{IsFaultAfterCut, EndsAs, AnswersTellFault, fault_of_front, RefusedTellFault}
use Rattle.yaml_scan.proofs.Course.LongestCut.{cut_is_longest}
use Rattle.yaml_scan.proofs.Course.CourseSteps.{is_within, run_of_text, refused_not_ended, course_is_run, refused_has_fault}
use Rattle.yaml_scan.proofs.Course.CourseSteps.{accepted_is_cut, steps_begin_cut, cut_is_only}
use Rattle.yaml_scan.proofs.Course.StepPlaces.{run_places}

module _ (limit : ℕ) (input : Input) (k : KeepsOrder input.source) where
  -- an accepted input ends as its cut does
  of_ending : (o : Option Offence) → input.refusal ≡ None → EndsWith (step input.source limit) (cut input.source limit).read o → EndsAs limit input (option_map (λ o. o.fault) o)
  of_ending None e w = (e, w)
  of_ending (Some o) e w = inr (w.0, o, w.1, refl)

  of_accepted : input.refusal ≡ None → EndsAs limit input (course limit input).fault
  of_accepted e = subst (λ (z : Option Fault). EndsAs limit input z) (sym (accepted_is_cut limit input e).1)
      (of_ending (cut input.source limit).fault e (cut_is_longest input.source limit k).1)

  -- the step that faults before the reader does is the one after the cut of the front
  not_ended : (f : Fault) → input.refusal ≡ Some f → ended (course limit input).read ≡ false
  not_ended f e = elim (cases_Bool (ended (course limit input).read)) [
    | inl q ↦ absurd (refused_not_ended limit input f k e (course limit input).read (course_is_run limit input k) q)
    | inr q ↦ q
  ]

  after_front : (f : Fault) (o : Offence) → input.refusal ≡ Some f → step input.source limit (course limit input).read ≡ Faults o → IsFaultAfterCut limit input o.fault
  after_front f o e s =
      let n = not_ended f e in
      let q = cut_is_only input.source limit (course limit input).read (Some o) k (run_of_text limit input (course limit input).read (course_is_run limit input k)) (n, s) in
      (subst (λ (z : List Laid). ended z ≡ false) q.0 n, o, subst (λ (z : List Laid). step input.source limit z ≡ Faults o) q.0 s, refl)

  of_refused : (f : Fault) → input.refusal ≡ Some f → FaultOfRefused limit input f (course limit input) → EndsAs limit input (course limit input).fault
  of_refused f e (at_once b s q) = subst (λ (z : Option Fault). EndsAs limit input z) (sym q) (inl e)
  of_refused f e (near b s q) = subst (λ (z : Option Fault). EndsAs limit input z) (sym q) (inl e)
  of_refused f e (far o b s p q) = subst (λ (z : Option Fault). EndsAs limit input z) (sym q) (inr (after_front f o e s))

  course_ends : (o : Option Fault) → input.refusal ≡ o → EndsAs limit input (course limit input).fault
  course_ends None e = of_accepted e
  course_ends (Some f) e = of_refused f e (refused_has_fault limit input f k e)

pub answers_tell_fault : AnswersTellFault
unfolding answers
answers_tell_fault limit input k = course_ends limit input k input.refusal refl

-- THE FAULT OF A REFUSED INPUT
of_near : (size : ℕ) (f : Fault) (o : Option Offence) → ((p : Offence) → o ≡ Some p → size < p.place + 8) → f ≡ fault_of_front size f o
of_near size f None l = refl
of_near size f (Some p) l = let q : is_near size p.place ≡ true = lt-ltb size (p.place + 8) (l p refl) in rw q refl

of_far : (size : ℕ) (f : Fault) (p : Offence) → p.place + 8 ≤ size → p.fault ≡ fault_of_front size f (Some p)
of_far size f p l = elim (cases_Bool (is_near size p.place)) [
  | inl q ↦ (let w = is_within size p.place q in absurd (omega arith))
  | inr q ↦ rw q refl
]

module _ (limit : ℕ) (input : Input) (k : KeepsOrder input.source) (f : Fault) (e : input.refusal ≡ Some f) where
  abbrev S : Source
  S = input.source

  abbrev H : List Laid
  H = (course limit input).read

  run : IsRun (step S limit) limit H
  run = run_of_text limit input H (course_is_run limit input k)

  -- the offence after the cut is no earlier than the step after the front's lexemes
  offence_after : (p : Offence) → (cut S limit).fault ≡ Some p → place_of (step S limit H) ≤ p.place
  offence_after p q =
      let c = cut_is_longest S limit k in
      let y = steps_begin_cut S limit H k run in
      let w : EndsWith (step S limit) (cut S limit).read (Some p) = subst (λ (o : Option Offence). EndsWith (step S limit) (cut S limit).read o) q c.1 in
      let l = run_places S k limit y.0 H (subst (λ (X : List Laid). IsRun (step S limit) limit X) y.1 c.0) (subst (λ (X : List Laid). ended X ≡ false) y.1 w.0) in
      let a : place_of (step S limit (y.0 ++ H)) ≡ p.place = ap place_of (subst (λ (X : List Laid). step S limit X ≡ Faults p) y.1 w.1) in
      omega arith

  which : FaultOfRefused limit input f (course limit input) → (course limit input).fault ≡ Some (fault_of_front S.size f (cut S limit).fault)
  which (at_once b s q) = q ∙ ap (λ (z : Fault). Some z) (of_near S.size f (cut S limit).fault (λ p r. omega arith))
  which (near b s q) = q ∙ ap (λ (z : Fault). Some z) (of_near S.size f (cut S limit).fault (λ p r. let l = offence_after p r in omega arith))
  which (far o b s p q) =
      let c = cut_is_only S limit H (Some o) k run (not_ended limit input k f e, s) in
      q ∙ ap (λ (z : Fault). Some z) (of_far S.size f o p ∙ ap (λ (z : Option Offence). fault_of_front S.size f z) c.1)

pub refused_tell_fault : RefusedTellFault
unfolding answers
refused_tell_fault limit input k f e = which limit input k f e (refused_has_fault limit input f k e)
