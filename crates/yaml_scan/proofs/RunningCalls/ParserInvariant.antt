-- What a call keeps: how many steps wait, and that they are few.
use Rattle.std.proofs.Common.{◌≡◌, ℕ, ◌+◌, ◌-◌, ◌≤◌, ◌<◌, List, length, refl, ap, sym, ◌∙◌, subst, arith, inl, inr}
use Rattle.std.specs.Prelude.{◌⊎◌}
use Rattle.yaml_text.specs.declared.types.yaml_encoding_t.{yaml_encoding_t}
use Rattle.yaml_scan.specs.Course.{Course}
use Rattle.yaml_scan.specs.inside.Scanner.{Scanner}
use Rattle.yaml_scan.specs.Token.{yaml_token_t}
use Rattle.yaml_scan.specs.Laid.{Laid, reach}
use Rattle.yaml_scan.specs.Order.{IsHistory}
use Rattle.yaml_scan.specs.Settled.{before}
use Rattle.yaml_scan.specs.Sessions.{queued}
use Rattle.yaml_scan.specs.Settled.{pace, first_steps}
use Rattle.yaml_scan.specs.Decoded.{decoded_input}
use Rattle.yaml_scan.specs.inside.Scanning.{history}
use Rattle.yaml_scan.specs.inside.Ready.{IsIn, IsReady, IsSettled, IsStopped, Pops, course_in}
use Rattle.yaml_scan.specs.inside.Sent.{HasSent}
use Rattle.yaml_scan.proofs.Course.CourseSteps.{course_is_history}
use Rattle.yaml_scan.proofs.Course.InputLaws.{inputs_keep_order}
use Rattle.yaml_scan.proofs.Course.StepsNeeded.{at_most}
use Rattle.yaml_scan.proofs.RunningCalls.ToNextToken.{course_is}
use Rattle.yaml_scan.proofs.RunningQueue.StepsWaiting.{waiting_at, waiting_new, waiting_more, waiting_fewer, waiting_later, some_made, few_wait_on}

-- so many steps wait, d steps do not, and they are few
pub record Keeps (limit : ℕ) (H : List Laid) (n t d : ℕ) : Type 0 where
  pub queued : waiting_at H n t + d ≡ n
  pub few : waiting_at H n t ≤ limit + 1

module _ (setting : yaml_encoding_t) (input : List ℕ) (s : Scanner) where
  abbrev H : List Laid
  H = (course_in s.limit setting input).read

  -- the tokens that were taken were settled
  abbrev pub Stands : Type 0
  Stands = ((s.made ≡ 0) × (s.taken ≡ 0)) ⊎ ((0 < s.made) × (s.made ≤ length H + 1) × (s.taken ≤ length (before s.limit (first_steps s.made H))))

  read_is_history : IsHistory s.limit H
  read_is_history = course_is_history s.limit (decoded_input setting input) (inputs_keep_order setting input)

  pub stands_in : IsIn setting input s → Stands
  unfolding history
  stands_in i =
      let c = course_is setting input s i.reads in
      let a = ap (λ (x : Course). length x.read) c in
      let b = ap (λ (x : Course). length (before s.limit (first_steps s.made x.read))) c in
      let w = i.runs.within in
      let l = i.runs.holds.taken in
      inr (i.runs.begun, omega arith, omega arith)

  pub reach_in : IsIn setting input s → s.reach ≡ reach (first_steps s.made H)
  unfolding history
  reach_in i = i.runs.holds.reach ∙ ap (λ (c : Course). reach (first_steps s.made c.read)) (course_is setting input s i.reads)

  pub reach_stopped : (t : Scanner) → IsStopped setting input s t → t.reach ≡ reach (first_steps t.made (course_in t.limit setting input).read)
  reach_stopped t k = k.reach ∙ ap (λ (n : ℕ). reach (first_steps t.made (course_in n setting input).read)) (sym k.limit)

  pub stands_ready : IsReady setting input s → Stands
  stands_ready (inl n) = inl (n.made, n.taken)
  stands_ready (inr r) = stands_in r.0

  module _ (t : Scanner) (l : t.limit ≡ s.limit) (e : t.taken ≡ s.taken) (a : s.made ≤ t.made) (b : t.made ≤ pace s.limit H s.taken s.made) where
    made_within : s.made ≤ length H + 1 → t.made ≤ length H + 1
    unfolding pace
    made_within m = let q = at_most s.limit H s.taken in omega arith

    waits_on : Stands → (d : ℕ) → waiting_at H s.made s.taken + d ≡ s.made → waiting_at H t.made s.taken + d ≡ t.made
    waits_on (inr r) d k = let q = waiting_more s.limit H read_is_history s.made t.made s.taken r.0 a (made_within r.1) r.2 in omega arith
    waits_on (inl r) d k =
        let q = waiting_new s.limit H read_is_history t.made (made_within (omega (arith, r.0))) in
        let z : waiting_at H t.made s.taken ≡ t.made = ap (λ (n : ℕ). waiting_at H t.made n) r.1 ∙ q in
        omega (arith, r.0)

    pub keeps_on : Stands → (d : ℕ) → Keeps s.limit H s.made s.taken d → Keeps t.limit (course_in t.limit setting input).read t.made t.taken d
    keeps_on st d k =
        let r : Keeps s.limit H t.made s.taken d = record { queued = waits_on st d k.queued; few = few_wait_on s.limit H read_is_history s.made t.made s.taken a b k.few } in
        subst (λ (n : ℕ). Keeps t.limit (course_in t.limit setting input).read t.made n d) (sym e) (subst (λ (n : ℕ). Keeps n (course_in n setting input).read t.made s.taken d) (sym l) r)

  least : (t : Scanner) → t.made ≡ pace s.limit H s.taken s.made → s.made ≤ t.made
  unfolding pace
  least t e = omega arith

  pub keeps_settled : (t : Scanner) → IsSettled setting input s t → Stands → (d : ℕ) → Keeps s.limit H s.made s.taken d → Keeps t.limit (course_in t.limit setting input).read t.made t.taken d
  keeps_settled t k = let m = k.made in keeps_on t k.limit k.taken (least t k.made) (omega arith)

  pub keeps_stopped : (t : Scanner) → IsStopped setting input s t → Stands → (d : ℕ) → Keeps s.limit H s.made s.taken d → Keeps t.limit (course_in t.limit setting input).read t.made t.taken d
  keeps_stopped t k = keeps_on t k.limit k.taken k.least k.most

  -- a token is taken
  pub keeps_taken : (u : Scanner) (x : yaml_token_t) → Pops s u x → IsIn setting input u → (d n : ℕ) → Keeps s.limit H s.made s.taken n → queued (history u) u.taken (history u) + d ≡ u.made → Keeps u.limit (course_in u.limit setting input).read u.made u.taken d
  unfolding history
  keeps_taken u x p i d n k q =
      let c = course_is setting input u i.reads in
      let a = ap (λ (y : Course). queued (first_steps u.made y.read) u.taken (first_steps u.made y.read)) c in
      let b = some_made (course_in u.limit setting input).read u.made u.taken i.runs.begun in
      let g = waiting_fewer H s.made s.taken in
      let z : waiting_at (course_in u.limit setting input).read u.made u.taken ≡ waiting_at H s.made (s.taken + 1) = rw (p.limit, p.made, p.taken) refl in
      let f = k.few in
      let l = p.limit in
      record { queued = omega arith; few = omega arith }

  -- tokens were given to a sink
  pub keeps_sent : (u : Scanner) (tokens : List yaml_token_t) → HasSent setting input s u tokens → (n : ℕ) → Keeps s.limit H s.made s.taken n → queued (history u) u.taken (history u) + u.layout.queue.done ≡ u.made
      → Keeps u.limit (course_in u.limit setting input).read u.made u.taken u.layout.queue.done
  unfolding history
  keeps_sent u tokens k n w q =
      let i = k.stands in
      let c = course_is setting input u i.reads in
      let a = ap (λ (y : Course). queued (first_steps u.made y.read) u.taken (first_steps u.made y.read)) c in
      let b = some_made (course_in u.limit setting input).read u.made u.taken i.runs.begun in
      let some = k.some in
      let taken = k.taken in
      let f = waiting_later H s.made s.taken (length tokens - 1) in
      let e = ap (λ (x : ℕ). waiting_at H s.made x) (let z : s.taken + (length tokens - 1) ≡ u.taken - 1 = omega arith in z) in
      let few = w.few in
      let m = k.made in
      let g = few_wait_on s.limit H read_is_history s.made u.made (u.taken - 1) k.least (omega arith) (omega arith) in
      let l = waiting_fewer H u.made (u.taken - 1) in
      let d = ap (λ (x : ℕ). waiting_at H u.made x) (let z : u.taken - 1 + 1 ≡ u.taken = omega arith in z) in
      let z : waiting_at (course_in u.limit setting input).read u.made u.taken ≡ waiting_at H u.made u.taken = rw k.limit refl in
      let v = k.limit in
      record { queued = omega arith; few = omega arith }
