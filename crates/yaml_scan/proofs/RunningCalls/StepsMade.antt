-- How many steps are made for a token.
use Rattle.std.proofs.Common.{◌≡◌, ℕ, ◌+◌, ◌-◌, ◌≤◌, ◌<◌, true, false, List, [], ◌∷◌, length, refl, ap, sym, ◌∙◌, subst, arith, inl, inr}
use Rattle.std.proofs.lemmas.Bool.{cases_Bool, cases_eq, false≢true}
use Rattle.yaml_text.specs.Fault.{Fault}
use Rattle.yaml_scan.specs.Course.{ended, oldest, Course, next}
use Rattle.yaml_scan.specs.inside.Scanner.{Scanner}
use Rattle.yaml_scan.specs.Laid.{Laid, reach}
use Rattle.yaml_scan.specs.Settled.{before}
use Rattle.yaml_scan.specs.Groups.{offline}
use Rattle.yaml_scan.specs.Step.{Outcome}
use Rattle.yaml_scan.specs.Cut.{IsRun}
use Rattle.yaml_scan.specs.Settled.{first_steps, steps_for, pace}
use Rattle.yaml_scan.specs.inside.Scanning.{IsRunning, Steps, StepsOn, StepsTwice, IsLast, Same, IsOpen, Fails, Halts, Stops, history, course_of}
use Rattle.yaml_scan.specs.inside.Scanning.{input_of}
use Rattle.yaml_scan.proofs.TokenList.OneLexemeMore.{all_is_handed_out}
use Rattle.yaml_scan.proofs.Course.NextStep.{oldest_all, oldest_tail}
use Rattle.yaml_scan.proofs.Course.StepsNeeded.{enough, needs_more}
use Rattle.yaml_scan.proofs.RunningCalls.NextOfInput.{is_run, read_history, inside, course_same}
use Rattle.yaml_scan.proofs.RunningStep.StepMoves.{same_trans}

-- only the whole list has ended
pub ended_all : (p : List Laid → Outcome) (limit : ℕ) (H : List Laid) (k : ℕ) → IsRun p limit H → k ≤ length H → ended (oldest k H) ≡ true → k ≡ length H
ended_all p limit [] k r l e = omega arith
ended_all p limit (i ∷ H) k r l e = elim (cases_eq k (length (i ∷ H))) [
  | inl q ↦ q
  | inr q ↦ (let o = oldest_tail i H k (omega arith) in
      let u : ended (oldest k H) ≡ true = rw o at e in
      let n = ended_all p limit H k r.2 (omega arith) u in
      let w : ended H ≡ true = subst (λ (X : List Laid). ended X ≡ true) (oldest_all H k n) u in absurd (false≢true (sym r.3 ∙ w)))
]

module _ (s : Scanner) (r : IsRunning s) where
  -- while the head is not settled, there is a step to make
  pub still_running : IsOpen s → length (before s.limit (history s)) ≤ s.taken → ended (history s) ≡ false
  unfolding history
  still_running o l = elim (cases_Bool (ended (oldest (s.made - 1) (course_of s).read))) [
    | inr e ↦ e
    | inl e ↦ (let n = ended_all (next (input_of s) s.limit) s.limit (course_of s).read (s.made - 1) (is_run s r) (inside s r) e in
        let a = oldest_all (course_of s).read (s.made - 1) n in
        let u : ended (course_of s).read ≡ true = rw a at e in
        let w = o u in
        let b = ap (λ (X : List Laid). length (before s.limit X)) a in
        let v = (all_is_handed_out s.limit (course_of s).read (read_history s r) u).1 in
        let x : length (before s.limit (course_of s).read) ≡ length (offline (course_of s).read) = rw v refl in
        absurd (omega arith))
  ]

  pub enough_made : s.taken < length (before s.limit (history s)) → steps_for s.limit (course_of s).read s.taken ≤ s.made
  unfolding history
  enough_made l = let e = enough s.limit (course_of s).read s.taken (s.made - 1) (inside s r) l in let b = r.begun in omega arith

  more_needed : (t : Scanner) → Steps s t → length (before s.limit (history s)) ≤ s.taken → s.made + 1 ≤ steps_for s.limit (course_of s).read s.taken
  unfolding history
  more_needed t u l =
      let w = u.runs.within in
      let c = ap (λ (x : Course). length x.read) (course_same s t u.same) in
      let m = u.made in
      let b = r.begun in
      let m = needs_more s.limit (course_of s).read s.taken (s.made - 1) (read_history s r) (omega arith) l in omega arith

module _ (s t : Scanner) (r : IsRunning t) (S : Same s t) where
  course_is : course_of t ≡ course_of s
  course_is = course_same s t S

  steps_is : steps_for t.limit (course_of t).read t.taken ≡ steps_for s.limit (course_of s).read s.taken
  steps_is = rw (course_is, S.limit, S.taken) refl

  pub open_too : IsOpen s → IsOpen t
  open_too o = λ e. let f : ended (course_of s).read ≡ true = sym (ap (λ (c : Course). ended c.read) course_is) ∙ e in let a = o f in let b = ap (λ (c : Course). length (offline c.read)) course_is in let d = S.taken in omega arith

  pub fails : (u : Scanner) (f : Fault) → Halts t u → IsLast t f → length (before t.limit (history t)) ≤ t.taken → Fails s u f
  unfolding history
  fails u f z i l =
      let k : t.made - 1 ≡ length (course_of t).read = (let m = i.made in omega arith) in
      let a = oldest_all (course_of t).read (t.made - 1) k in
      let b : length (before t.limit (course_of t).read) ≤ t.taken = rw a at l in
      let c = ap (λ (x : Course). length (before t.limit x.read)) course_is in
      let d = ap (λ (n : ℕ). length (before n (course_of s).read)) S.limit in
      record { made = (let m = i.made in let n = z.made in let w = ap (λ (x : Course). length x.read) course_is in omega arith); none = (let e = S.taken in omega arith); fault = sym (ap (λ (x : Course). x.fault) course_is) ∙ i.fault }

  pub made_is : s.made ≤ t.made → t.made ≤ pace s.limit (course_of s).read s.taken s.made → t.taken < length (before t.limit (history t)) → t.made ≡ pace s.limit (course_of s).read s.taken s.made
  unfolding pace
  made_is a b l = let e = enough_made t r l in let c = steps_is in omega arith

  pub one_more : (u : Scanner) → Steps t u → length (before t.limit (history t)) ≤ t.taken → u.made ≤ pace s.limit (course_of s).read s.taken s.made
  unfolding pace
  one_more u k l = let e = more_needed t r u k l in let c = steps_is in let m = k.made in omega arith

  pub two_more : (u : Scanner) → StepsTwice t u → u.made ≤ pace s.limit (course_of s).read s.taken s.made
  unfolding pace
  two_more u k =
      let w = k.runs.within in
      let c = ap (λ (x : Course). length x.read) (course_same t u k.same) in
      let m = k.made in
      let e = needs_more t.limit (course_of t).read t.taken t.made (read_history t r) (omega arith) k.needed in
      let d = steps_is in
      omega arith

  pub stops : (u : Scanner) → Halts t u → s.made ≤ t.made → t.made ≤ pace s.limit (course_of s).read s.taken s.made → length (before t.limit (history t)) ≤ t.taken → Stops s u
  unfolding history
  stops u k a b l =
      let h : first_steps u.made (course_of s).read ≡ first_steps t.made (course_of t).read =
      ap (λ (n : ℕ). first_steps n (course_of s).read) k.made ∙ ap (λ (c : Course). first_steps t.made c.read) (sym course_is) in
      record {
        limit = k.limit ∙ S.limit;
        taken = k.taken ∙ S.taken;
        done = k.done ∙ S.done;
        least = (let m = k.made in omega arith);
        most = (let m = k.made in omega arith);
        unsettled = (let m = ap (λ (n : ℕ). length (before n (first_steps t.made (course_of t).read))) S.limit in let n = ap (λ (X : List Laid). length (before s.limit X)) h in let v = S.taken in omega arith);
        reach = k.reach ∙ r.holds.reach ∙ ap reach (sym h);
        last = t;
        runs = r;
        same = S;
        halts = k;
      }

pub least_pace : (s : Scanner) → s.made ≤ pace s.limit (course_of s).read s.taken s.made
unfolding pace
least_pace s = omega arith

-- t is s after steps that its next token needs
pub record Goes (s t : Scanner) : Type 0 where
  pub runs : IsRunning t
  pub same : Same s t
  pub least : s.made ≤ t.made
  pub most : t.made ≤ pace s.limit (course_of s).read s.taken s.made

-- after one step, or two that were needed
pub goes_on : (s t u : Scanner) → IsRunning t → Same s t → s.made ≤ t.made → length (before t.limit (history t)) ≤ t.taken → StepsOn t u → Goes s u
goes_on s t u r S l n (inl k) = record {
  runs = k.runs;
  same = same_trans s t u S k.same;
  least = (let b = k.made in omega arith);
  most = one_more s t r S u k n;
}
goes_on s t u r S l n (inr k) = record {
  runs = k.runs;
  same = same_trans s t u S k.same;
  least = (let b = k.made in omega arith);
  most = two_more s t r S u k;
}

pub fewer_left : (t u : Scanner) → IsRunning t → StepsOn t u → length (course_of u).read + 2 - u.made < length (course_of t).read + 2 - t.made
fewer_left t u r (inl k) = let m = k.made in let e = ap (λ (x : Course). length x.read) (course_same t u k.same) in let w = r.within in omega arith
fewer_left t u r (inr k) = let m = k.made in let e = ap (λ (x : Course). length x.read) (course_same t u k.same) in let w = r.within in omega arith
