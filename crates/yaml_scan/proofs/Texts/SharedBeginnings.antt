-- What is read of the characters that two inputs share is the same, and at a rest all tokens are settled.
use Rattle.std.proofs.Common.{◌≡◌, ℕ, ◌+◌, ◌≤◌, List, [], ◌∷◌, ◌++◌, length, refl, ap, sym, ◌∙◌, subst, arith, inl, inr}
use Rattle.std.proofs.lemmas.Bool.{cases_Bool}
use Rattle.std.proofs.lemmas.List.{length-append}
use Rattle.yaml_scan.specs.Begins.{Begins}
use Rattle.yaml_scan.specs.Course.{Input, next}
use Rattle.yaml_scan.specs.Cut.{IsRun, KeepsOrder}
use Rattle.yaml_scan.specs.Groups.{Token, offline}
use Rattle.yaml_scan.specs.Kind.{is_stream_end}
use Rattle.yaml_scan.specs.Laid.{Laid, reach}
use Rattle.yaml_scan.specs.Locality.{ReadsSame}
use Rattle.yaml_scan.specs.Near.{place_of}
use Rattle.yaml_scan.specs.Rests.{AllIsSettledAtRest, BeginningsAreShared, Share}
use Rattle.yaml_scan.specs.Settled.{before, up_to}
use Rattle.yaml_scan.specs.Source.{Source}
use Rattle.yaml_scan.specs.SourceOf.{source_of}
use Rattle.yaml_scan.specs.Step.{Outcome, place_after, step}
use Rattle.yaml_scan.specs.Step.Outcome.{Reads}
use Rattle.yaml_scan.proofs.Course.CourseSteps.{far_step_is_itself, run_of_text}
use Rattle.yaml_scan.proofs.Course.LongestCut.{IsNext, orderly, run_at}
use Rattle.yaml_scan.proofs.Texts.SourceLocality.{same_front, texts_are_local}
use Rattle.yaml_scan.proofs.Texts.SourceOrder.{texts_keep_order}
use Rattle.yaml_scan.proofs.Texts.StepLocality.{step_is_local}
use Rattle.yaml_scan.proofs.TokenList.SettledStays.{before-before}

pub all_is_settled_at_rest : AllIsSettledAtRest
unfolding before up_to
all_is_settled_at_rest limit later H r h =
    let e : before limit H ≡ offline H = ap (up_to H) r.settled in
    (e, subst (λ (X : List Token). Begins X (before limit (later ++ H))) e (before-before limit later H h))

size_is : (cs xs : List ℕ) → length cs ≤ (source_of (cs ++ xs)).size
unfolding source_of
size_is cs xs = omega (arith, length-append cs xs)

module _ (limit : ℕ) (cs xs ys : List ℕ) (a b : Input) (s : Share cs xs ys a b) where
  keeps : KeepsOrder a.source
  keeps = subst KeepsOrder (sym s.first) (texts_keep_order (cs ++ xs) s.first_chars)

  long : length cs ≤ a.source.size
  long = subst (λ (S : Source). length cs ≤ S.size) (sym s.first) (size_is cs xs)

  long_too : length cs ≤ b.source.size
  long_too = subst (λ (S : Source). length cs ≤ S.size) (sym s.second) (size_is cs ys)

  same : (r : ℕ) → r + 8 ≤ length cs → ReadsSame r a.source b.source
  same r l = subst (λ (S : Source). ReadsSame r S b.source) (sym s.first) (subst (λ (S : Source). ReadsSame r (source_of (cs ++ xs)) S) (sym s.second)
      (texts_are_local r (cs ++ xs) (cs ++ ys) (λ i j. sym (same_front (r + 8) cs (cs ++ xs) (record { rest = xs; is = refl }) l i j) ∙ same_front (r + 8) cs (cs ++ ys) (record { rest = ys; is = refl }) l i j)))

  pub shared : (H : List Laid) → IsRun (next a limit) limit H → place_after H + 8 ≤ length cs → IsRun (next b limit) limit H
  shared [] r l = tt
  shared (i ∷ H) r l = (r.0, far, shared H r.2 tail, r.3)
    where
      of_text : IsRun (step a.source limit) limit (i ∷ H)
      of_text = run_of_text limit a (i ∷ H) r

      within : place_after H ≤ a.source.size
      within = run_at (step a.source limit) limit a.source.size (orderly a.source keeps limit) H of_text.2

      next_one : IsNext (reach H) (place_after H) a.source.size i.lexeme
      next_one = orderly a.source keeps limit H i.lexeme of_text.2 r.3 of_text.1

      tail : place_after H + 8 ≤ length cs
      tail = elim (cases_Bool (is_stream_end i.lexeme.kind)) [
        | inl e ↦ (let z = next_one.ends e in let m = long in let n : i.lexeme.place + 8 ≤ length cs = l in absurd (omega arith))
        | inr e ↦ (let z = next_one.takes_a_character e in let n : i.lexeme.place + 8 ≤ length cs = l in omega arith)
      ]

      at : place_of (step a.source limit H) ≤ i.lexeme.place
      at = subst (λ (o : Outcome). place_of o ≤ i.lexeme.place) (sym of_text.1) (omega arith)

      both : step b.source limit H ≡ Reads i.lexeme
      both = step_is_local a.source b.source limit H i.lexeme.place keeps within (same i.lexeme.place l) at ∙ of_text.1

      far : next b limit H ≡ Reads i.lexeme
      far = far_step_is_itself limit b H (subst (λ (o : Outcome). place_of o + 8 ≤ b.source.size) (sym both) (let m = long_too in omega arith)) ∙ both

pub beginnings_are_shared : BeginningsAreShared
beginnings_are_shared limit cs xs ys a b H s r l = shared limit cs xs ys a b s H r l
