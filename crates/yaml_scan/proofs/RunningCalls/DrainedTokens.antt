-- Tokens of the queue that were given to a sink are those that as many scans return, which make no step more.
use Rattle.std.proofs.Common.{◌≡◌, ℕ, ◌-◌, ◌≤◌, ◌<◌, Bool, true, false, List, [], ◌++◌, length, length-append, refl, ap, ◌∙◌, subst, arith, inl, inr}
use Rattle.std.proofs.lemmas.Bool.{cases_lt}
use Rattle.std.proofs.lemmas.List.Folds.{list_any-append}
use Rattle.yaml_scan.specs.Course.{Course, oldest}
use Rattle.yaml_scan.specs.Laid.{Laid}
use Rattle.yaml_scan.specs.Order.{IsHistory}
use Rattle.yaml_scan.specs.Settled.{before, pace, steps_for}
use Rattle.yaml_scan.specs.Token.{yaml_token_t}
use Rattle.yaml_scan.specs.inside.Scanner.{Scanner}
use Rattle.yaml_scan.specs.inside.Handed.{is_end}
use Rattle.yaml_scan.specs.inside.Scanning.{IsOpen, IsRunning, Settles, course_of, history}
use Rattle.yaml_scan.specs.inside.Sent.{Drains, DrainsOrStays, Sends}
use Rattle.yaml_scan.proofs.Course.StepsNeeded.{at_most, enough, needs_more, at_least}
use Rattle.yaml_scan.proofs.RunningCalls.GivenTokens.{course_as, more_given, none_given, taken_is}
use Rattle.yaml_scan.proofs.RunningCalls.NextOfInput.{course_same, inside, read_history}

-- ONE AFTER THE OTHER
pub none_drained : (s : Scanner) → IsRunning s → IsOpen s → Drains s s []
none_drained s r o = record { given = none_given s r o; taken = omega arith; made = refl; no_end = refl }

pub more_drained : (s t u : Scanner) (xs ys : List yaml_token_t) → Drains s t xs → Drains t u ys → Drains s u (xs ++ ys)
more_drained s t u xs ys a b = record {
  given = more_given s t u xs ys a.given b.given;
  taken = (let l = length-append xs ys in let m = a.taken in let n = b.taken in omega arith);
  made = b.made ∙ a.made;
  no_end = list_any-append is_end xs ys ∙ (rw (a.no_end, b.no_end) refl);
}

-- what was given so far
pub drained_so_far : (s t : Scanner) (took : List yaml_token_t → Type 0) (any : Bool) → IsRunning s → IsOpen s → DrainsOrStays s t took any → (tokens : List yaml_token_t) × Drains s t tokens × took tokens
drained_so_far s t took true r o w = (w.0, w.1, w.3)
drained_so_far s t took false r o w = ([], rw w.0 (none_drained s r o), w.1)

-- HOW MANY STEPS
-- a later token needs no fewer
later_needs : (limit : ℕ) (H : List Laid) (t k : ℕ) → IsHistory limit H → t ≤ k → steps_for limit H t ≤ steps_for limit H k
later_needs limit H t k h l = elim (cases_lt (steps_for limit H k) (steps_for limit H t)) [
  | inr x ↦ x
  | inl x ↦ (let n = steps_for limit H k - 1 in
      let a = at_least limit H k in
      let b = at_most limit H t in
      elim (cases_lt t (length (before limit (oldest n H)))) [
        | inl y ↦ (let z = enough limit H t n (omega arith) y in absurd (omega arith))
        | inr y ↦ (let z = needs_more limit H k n h (omega arith) (omega arith) in absurd (omega arith))
      ])
]

-- s is settled after the steps of a, and then tokens were given
module _ (a s u : Scanner) (tokens : List yaml_token_t) (k : Settles a s) (d : Drains s u tokens) (some : 0 < length tokens) where
  course_u : course_of u ≡ course_of a
  course_u = course_as s u d.given.text d.given.refusal d.given.limit ∙ course_same a s k.same

  last_has : steps_for a.limit (course_of a).read (u.taken - 1) ≤ u.made
  unfolding history
  last_has =
      let v = d.given in
      let r = v.runs in
      let t = r.holds.taken in
      let n = d.taken in
      let e = enough u.limit (course_of u).read (u.taken - 1) (u.made - 1) (inside u r) (omega arith) in
      let b = r.begun in
      let S = k.same in
      let x = ap (λ (C : Course). steps_for u.limit C.read (u.taken - 1)) course_u in
      let y = ap (λ (n : ℕ). steps_for n (course_of a).read (u.taken - 1)) (v.limit ∙ S.limit) in
      omega arith

  read_is_history : IsHistory a.limit (course_of a).read
  read_is_history = let S = k.same in subst (λ (n : ℕ). IsHistory n (course_of a).read) S.limit (subst (λ (C : Course). IsHistory s.limit C.read) (course_same a s S) (read_history s k.runs))

  pub drained : Sends a u tokens
  unfolding pace
  drained =
      let v = d.given in
      let S = k.same in
      let n = d.taken in
      let m = d.made in
      let c = S.taken in
      let w = k.made in
      record {
        runs = v.runs;
        still_open = v.still_open;
        text = v.text ∙ S.text;
        refusal = v.refusal ∙ S.refusal;
        limit = v.limit ∙ S.limit;
        some = some;
        taken = omega arith;
        told = v.given ∙ ap (λ (z : List yaml_token_t). z ++ tokens) (taken_is a s S.text S.refusal S.limit a.taken S.taken);
        least = omega arith;
        made = (let x = last_has in let y = later_needs a.limit (course_of a).read a.taken (u.taken - 1) read_is_history (omega arith) in omega arith);
        no_end = d.no_end;
      }
