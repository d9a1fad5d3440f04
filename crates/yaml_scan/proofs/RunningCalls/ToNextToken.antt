-- From a scanner that is ready to its next token.
use Rattle.std.proofs.Common.{◌≡◌, ℕ, ◌+◌, ◌-◌, ◌≤◌, ◌<◌, ◌&&◌, Bool, true, false, List, ◌++◌, length, refl, ap, sym, ◌∙◌, arith, inl, inr, le-ltb}
use Rattle.yaml_text.specs.declared.types.yaml_encoding_t.{yaml_encoding_t}
use Rattle.yaml_text.specs.Fault.{Fault}
use Rattle.yaml_scan.specs.Course.{Input, Course, course}
use Rattle.yaml_scan.specs.inside.Scanner.{Scanner}
use Rattle.yaml_scan.specs.Laid.{reach}
use Rattle.yaml_scan.specs.Settled.{before}
use Rattle.yaml_scan.specs.Settled.{settled, steps_for, pace, first_steps, tokens_of}
use Rattle.yaml_scan.specs.Session.{all_steps}
use Rattle.yaml_scan.specs.Decoded.{decoded_input}
use Rattle.yaml_scan.specs.inside.Scanning.{IsOpen, IsRunning, Settles, Fails, Stops, Same, course_of, input_of}
use Rattle.yaml_scan.specs.inside.Ready.{IsIn, IsNew, IsReady, Begins, IsStarted, IsSettled, IsStopped, IsEnded, course_in}
use Rattle.yaml_scan.specs.Token.{yaml_token_t}
use Rattle.std.specs.Prelude.{Result, Ok, Err}
use Rattle.yaml_scan.specs.declared.stop.stop_t.{stop_t}
use Rattle.yaml_scan.specs.inside.Sent.{HasSent, HasSentOrSettled, Sends, SendsOrSettles}
use Rattle.yaml_scan.specs.inside.Stop.{fault_at}
use Rattle.yaml_scan.proofs.RunningCalls.GivenTokens.{taken_is}
use Rattle.yaml_scan.proofs.Course.StepsNeeded.{at_least}
use Rattle.yaml_scan.proofs.RunningCalls.StepsMade.{open_too}

both_false : (a b : Bool) → b ≡ false → (a && b) ≡ false
both_false true b e = e
both_false false b e = refl

pub started_new : (setting : yaml_encoding_t) (input : List ℕ) (s t : Scanner) → Begins setting input s t → s.made ≡ 0 → IsStarted setting input s t
started_new setting input s t b z = let m = b.made in record { stands = b.stands; still_open = b.still_open; made = omega arith; limit = b.limit; taken = b.taken; done = b.done }

pub started_before : (setting : yaml_encoding_t) (input : List ℕ) (s : Scanner) → IsReady setting input s → 0 < s.made → IsStarted setting input s s
started_before setting input s (inl n) z = let m = n.made in absurd (omega arith)
started_before setting input s (inr r) z = record { stands = r.0; still_open = r.1; made = omega arith; limit = refl; taken = refl; done = refl }

pub ready_new : (setting : yaml_encoding_t) (input : List ℕ) (s : Scanner) → IsReady setting input s → s.made ≤ 0 → IsNew s
ready_new setting input s (inl n) z = n
ready_new setting input s (inr r) z = let b = r.0.runs.begun in absurd (omega arith)

pub course_is : (setting : yaml_encoding_t) (input : List ℕ) (s : Scanner) → input_of s ≡ decoded_input setting input → course_of s ≡ course_in s.limit setting input
unfolding course_of
course_is setting input s e = ap (λ (i : Input). course s.limit i) e

module _ (setting : yaml_encoding_t) (input : List ℕ) (s t u : Scanner) (b : IsStarted setting input s t) where
  course_t : course_of t ≡ course_in s.limit setting input
  course_t = course_is setting input t b.stands.reads ∙ ap (λ (n : ℕ). course_in n setting input) b.limit

  pace_is : pace t.limit (course_of t).read t.taken t.made ≡ pace s.limit (course_in s.limit setting input).read s.taken s.made
  unfolding pace
  pace_is =
      let e : steps_for t.limit (course_of t).read t.taken ≡ steps_for s.limit (course_in s.limit setting input).read s.taken = rw (course_t, b.limit, b.taken) refl in
      let o = at_least s.limit (course_in s.limit setting input).read s.taken in
      let m = b.made in omega arith

  input_same : Same t u → input_of u ≡ input_of t
  input_same e = rw (e.text, e.refusal) refl

  pub settled_in : Settles t u → IsSettled setting input s u
  settled_in k = record {
    stands = record { runs = k.runs; reads = input_same k.same ∙ b.stands.reads; text = k.same.text ∙ b.stands.text };
    still_open = open_too t u k.runs k.same b.still_open;
    settled = k.settled;
    made = k.made ∙ pace_is;
    limit = (let e = k.same in e.limit ∙ b.limit);
    taken = (let e = k.same in e.taken ∙ b.taken);
    done = (let e = k.same in e.done ∙ b.done);
  }

  unsettled_in : Stops t u → settled s.limit (course_in s.limit setting input).read s.taken u.made ≡ false
  unsettled_in k =
      let v = ap (λ (x : Course). length (before t.limit (first_steps u.made x.read))) course_t in
      let w = ap (λ (n : ℕ). length (before n (first_steps u.made (course_in s.limit setting input).read))) b.limit in
      let x = b.taken in
      let l = k.unsettled in
      both_false _ _ (le-ltb s.taken (length (before s.limit (first_steps u.made (course_in s.limit setting input).read))) (omega arith))

  last_in : (l : Scanner) → IsRunning l → Same t l → IsIn setting input l × IsOpen l
  last_in l r k = (record { runs = r; reads = (rw (k.text, k.refusal) refl) ∙ b.stands.reads; text = k.text ∙ b.stands.text }, open_too t l r k b.still_open)

  pub stopped_in : Stops t u → IsStopped setting input s u
  stopped_in k = let p = pace_is in let m = b.made in let l = k.least in let n = k.most in record { limit = k.limit ∙ b.limit; taken = k.taken ∙ b.taken; done = k.done ∙ b.done; least = omega arith; most = omega arith; unsettled = unsettled_in k; reach = k.reach ∙ ap (λ (x : Course). reach (first_steps u.made x.read)) course_t; last = k.last; ready = inr (last_in k.last k.runs k.same); halts = k.halts }

  pub begun_is : (course_in s.limit setting input).begun ≡ true
  begun_is = sym (ap (λ (c : Course). c.begun) course_t) ∙ b.stands.runs.start

  tokens_is : (c : Course) → c.begun ≡ true → tokens_of s.limit c ≡ before s.limit c.read
  tokens_is c e = rw e refl

  steps_is : (c : Course) → c.begun ≡ true → all_steps c ≡ length c.read + 1
  steps_is c e = rw e refl

  pub ended_in : (f : Fault) → Fails t u f → IsEnded setting input s u f
  ended_in f k = record {
    none = (let a = ap (λ (x : List Rattle.yaml_scan.specs.Groups.Token). length x) (tokens_is (course_in s.limit setting input) begun_is) in let c = ap (λ (x : Course). length (before s.limit x.read)) course_t in let d = ap (λ (n : ℕ). length (before n (course_of t).read)) b.limit in let e = b.taken in let n = k.none in omega arith);
    fault = sym (ap (λ (c : Course). c.fault) course_t) ∙ k.fault;
    made = (let m = k.made in let c = ap (λ (x : Course). length x.read) course_t in let a = steps_is (course_in s.limit setting input) begun_is in omega arith);
  }

  -- what went to a sink
  pub sent_in : (tokens : List yaml_token_t) → Sends t u tokens → HasSent setting input s u tokens
  unfolding pace
  sent_in tokens k = record {
    stands = record { runs = k.runs; reads = (rw (k.text, k.refusal) refl) ∙ b.stands.reads; text = k.text ∙ b.stands.text };
    still_open = k.still_open;
    limit = k.limit ∙ b.limit;
    some = k.some;
    taken = (let n = k.taken in let m = b.taken in omega arith);
    told = k.told ∙ ap (λ (z : List yaml_token_t). z ++ tokens) (taken_is u t (sym k.text) (sym k.refusal) (sym k.limit) s.taken b.taken);
    least = (let n = k.least in let m = b.made in omega arith);
    made = (let e : steps_for t.limit (course_of t).read (u.taken - 1) ≡ steps_for s.limit (course_in s.limit setting input).read (u.taken - 1) = rw (course_t, b.limit) refl in
        let o = at_least s.limit (course_in s.limit setting input).read (u.taken - 1) in
        let m = b.made in
        let n = k.made in
        omega arith);
    no_end = k.no_end;
  }

  -- the same, whatever came
  pub sent_or_settled_in : (took : List yaml_token_t → Type 0) (refuses : Type 0) (result : Result Bool stop_t) → SendsOrSettles t u took refuses result → HasSentOrSettled setting input s u took refuses result
  sent_or_settled_in took refuses (Ok true) w = (settled_in w.0, w.1)
  sent_or_settled_in took refuses (Ok false) w = (w.0, sent_in w.0 w.1, w.2)
  sent_or_settled_in took refuses (Err stop) (inr w) = inr w
  sent_or_settled_in took refuses (Err stop) (inl w) = inl (
    elim w.0 [
      | inl m ↦ inl (record { fault = m; in_utf8 = λ e. begun_is })
      | inr f ↦ inr (ended_in (fault_at stop u.refusal) f)
    ],
    stopped_in w.1,
    w.2,
  )
