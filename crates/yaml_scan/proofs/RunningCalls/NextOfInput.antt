-- A step of the running scanner is the next one of its input.
use Rattle.std.proofs.Common.{◌≡◌, ℕ, ◌+◌, ◌-◌, ◌*◌, ◌^◌, ◌≤◌, ◌<◌, Bool, true, false, List, [], ◌∷◌, length, Option, Some, None, refl, ap, sym, ◌∙◌, subst, arith, inl, inr}
use Rattle.std.specs.Prelude.{option_map, ◌⊎◌, Result, Ok, Err, MatchResult}
use Rattle.yaml_scan.specs.Course.{ended, Cut, cut_from, oldest, Course, course, course_from, next}
use Rattle.yaml_scan.specs.declared.stop.stop_t.{stop_t}
use Rattle.yaml_scan.specs.inside.Stop.{fault_at}
use Rattle.std.proofs.lemmas.Bool.{cases_eq, false≢true}
use Rattle.yaml_text.specs.Fault.{Fault, memory_fault}
use Rattle.yaml_text.specs.Decoding.{refusal_seen}
use Rattle.yaml_scan.specs.declared.groups.group_t.{group_t}
use Rattle.yaml_scan.specs.inside.Scanner.{Scanner}
use Rattle.yaml_scan.specs.Source.{Offence}
use Rattle.yaml_scan.specs.SourceOf.{source_of}
use Rattle.yaml_scan.specs.Laid.{Laid, Lexeme}
use Rattle.yaml_scan.specs.Levels.{laid}
use Rattle.yaml_scan.specs.Order.{IsHistory}
use Rattle.yaml_scan.specs.Step.{Outcome, step}
use Rattle.yaml_scan.specs.Step.Outcome.{Reads, Faults}
use Rattle.yaml_scan.specs.Cut.{IsRun, EndsWith}
use Rattle.yaml_scan.specs.Near.{unless_near, is_near, place_of, starts_near}
use Rattle.yaml_scan.specs.Settled.{before}
use Rattle.yaml_scan.specs.inside.Holding.{HoldsQueue}
use Rattle.yaml_scan.specs.inside.Handed.{set_queue}
use Rattle.yaml_scan.specs.declared.queue.queue_t.{queue_t}
use Rattle.yaml_scan.specs.inside.Scanning.{HoldsWith, AdvancesWith, AdvancesTwice, Ends, Makes, Needs, Offends, IsRunning, RunsWith, StepsOn, StepsWith, IsLast, groups_in, Same, IsNearFrom, IsNearOf, IsStep, Halts, counted, history}
use Rattle.yaml_scan.specs.inside.Scanning.{course_of, input_of}
use Rattle.yaml_scan.proofs.Course.LongestCut.{IsHistory-from_run, run_short}
use Rattle.yaml_scan.proofs.Course.CourseSteps.{next_orderly, steps_are}
use Rattle.yaml_scan.proofs.Course.NextStep.{oldest-next, oldest-fault, oldest_all}
use Rattle.yaml_scan.proofs.RunningStep.HeldBeside.{counted_holds, holds_as}
use Rattle.yaml_scan.proofs.RunningStep.StepMoves.{same_trans}
use Rattle.yaml_scan.proofs.TokenList.QueueBound.{length-begins}
use Rattle.yaml_scan.proofs.TokenList.SettledStays.{before-offline}
use Rattle.yaml_scan.proofs.TokenList.GroupSizes.{four_tokens_a_step}
use Rattle.yaml_scan.proofs.Course.StepsNeeded.{oldest_length}
use Rattle.yaml_scan.proofs.Texts.TextOrder.{text_order}

-- NEAR STEPS
size_of : (cs : List ℕ) → (source_of cs).size ≡ length cs
unfolding source_of
size_of cs = refl

module _ (cs : List ℕ) (near : ℕ) (o : Outcome) (w : place_of o ≤ length cs) (index : ℕ) (I : index ≡ ((source_of cs).mark (place_of o)).index) where
  pub not_near : (r : Option Fault) → IsNearOf r cs near → index < near → unless_near (source_of cs).size r o ≡ o
  not_near None N l = refl
  not_near (Some f) N l = let e : is_near (source_of cs).size (place_of o) ≡ false = rw (size_of cs) ((N (place_of o) w).1 (omega (arith, I))) in rw e refl

  pub now_near : (f : Fault) → IsNearFrom cs near → near ≤ index → unless_near (source_of cs).size (Some f) o ≡ Faults (record { fault = f; place = (source_of cs).size })
  now_near f N l = let e : is_near (source_of cs).size (place_of o) ≡ true = rw (size_of cs) ((N (place_of o) w).0 (omega (arith, I))) in rw e refl

-- a problem that is not near, and one that is
module _ (H : List Laid) (s : Scanner) (f : Fault) (o : Offends H s f) (N : IsNearOf (refusal_seen s.refusal) s.text.chars s.near) where
  place_in : o.offence.place ≤ length s.text.chars
  place_in = let a = o.problem.within in let z = size_of s.text.chars in omega arith

  index_in : f.problem_mark.index ≡ ((source_of s.text.chars).mark o.offence.place).index
  index_in = subst (λ (g : Fault). g.problem_mark.index ≡ ((source_of s.text.chars).mark o.offence.place).index) o.fault o.problem.index

  next_row : next (input_of s) s.limit H ≡ unless_near (source_of s.text.chars).size (refusal_seen s.refusal) (Faults o.offence)
  unfolding next
  next_row = ap (λ (x : Outcome). unless_near (source_of s.text.chars).size (refusal_seen s.refusal) x) o.step

  pub ends_far : f.problem_mark.index < s.near → Ends H s f
  ends_far l = (o.offence, next_row ∙ not_near s.text.chars s.near (Faults o.offence) place_in f.problem_mark.index index_in (refusal_seen s.refusal) N l, o.fault)

  pub ends_unrefused : refusal_seen s.refusal ≡ None → Ends H s f
  ends_unrefused e = (o.offence, next_row ∙ (rw e refl), o.fault)

  pub ends_near : (g : Fault) → refusal_seen s.refusal ≡ Some g → s.near ≤ f.problem_mark.index → Ends H s g
  ends_near g e l =
      let n : IsNearFrom s.text.chars s.near = rw e at N in
      (record { fault = g; place = (source_of s.text.chars).size }, next_row ∙ (rw e (now_near s.text.chars s.near (Faults o.offence) place_in f.problem_mark.index index_in g n l)), refl)

-- a lexeme that is near
pub reads_near : (H : List Laid) (s : Scanner) (x : Lexeme) → step (source_of s.text.chars) s.limit H ≡ Reads x → x.place ≤ length s.text.chars → (index : ℕ) → index ≡ ((source_of s.text.chars).mark x.place).index
    → (g : Fault) → refusal_seen s.refusal ≡ Some g → IsNearOf (refusal_seen s.refusal) s.text.chars s.near → s.near ≤ index → Ends H s g
unfolding next
reads_near H s x e w index i g r N l =
    let n : IsNearFrom s.text.chars s.near = rw r at N in
    (record { fault = g; place = (source_of s.text.chars).size }, ap (λ (o : Outcome). unless_near (source_of s.text.chars).size (refusal_seen s.refusal) o) e ∙ (rw r (now_near s.text.chars s.near (Reads x) w index i g n l)), refl)

-- WHAT STAYS
pub course_same : (s t : Scanner) → Same s t → course_of t ≡ course_of s
unfolding course_of
course_same s t e = rw (e.text, e.refusal, e.limit) refl

pub history_same : (s t : Scanner) → Same s t → t.made ≡ s.made → history t ≡ history s
unfolding history
history_same s t e m = rw (course_same s t e, m) refl

-- ANOTHER QUEUE
-- one with another queue, of which n tokens were taken
course_queue : (s : Scanner) (q : queue_t) (n : ℕ) → course_of (set_queue s q n) ≡ course_of s
unfolding course_of
course_queue s q n = refl

history_queue : (s : Scanner) (q : queue_t) (n : ℕ) → history (set_queue s q n) ≡ history s
unfolding history
history_queue s q n = ap (λ (c : Course). oldest (s.made - 1) c.read) (course_queue s q n)

pub runs_queued : (s : Scanner) {ys : List group_t} → RunsWith s ys → (q : queue_t) (n : ℕ) → HoldsQueue s.text.encoding n (history s) q q.groups.items → n ≤ length (before s.limit (history s)) → IsRunning (set_queue s q n)
runs_queued s r q n k l = record {
  small = r.small;
  near = r.near;
  holds = subst (λ (Z : List Laid). HoldsWith Z (s.made + 1) (set_queue s q n) q.groups.items) (sym (history_queue s q n)) (holds_as (history s) (s.made + 1) s (set_queue s q n) r.holds refl refl refl refl refl refl k l);
  begun = r.begun;
  start = rw (course_queue s q n) r.start;
  within = rw (course_queue s q n) r.within;
}

-- THE COURSE
module _ (s : Scanner) {ys : List group_t} (r : RunsWith s ys) where
  abbrev cut_of : Cut
  cut_of = cut_from (next (input_of s) s.limit) ((source_of s.text.chars).size + 1) s.limit []

  course_is : course_of s ≡ course_from false (refusal_seen s.refusal) cut_of
  unfolding course_of course
  course_is = go (starts_near (source_of s.text.chars).size (refusal_seen s.refusal)) refl r.start
    where
      go : (b : Bool) → starts_near (source_of s.text.chars).size (refusal_seen s.refusal) ≡ b → (course_from (starts_near (source_of s.text.chars).size (refusal_seen s.refusal)) (refusal_seen s.refusal) cut_of).begun ≡ true
          → course_from (starts_near (source_of s.text.chars).size (refusal_seen s.refusal)) (refusal_seen s.refusal) cut_of ≡ course_from false (refusal_seen s.refusal) cut_of
      go true e b = let f : false ≡ true = rw e at b in absurd (false≢true f)
      go false e b = rw e refl

  read_is : (course_of s).read ≡ cut_of.read
  read_is = ap (λ (c : Course). c.read) course_is

  fault_is : (course_of s).fault ≡ option_map (λ o. o.fault) cut_of.fault
  fault_is = ap (λ (c : Course). c.fault) course_is

  pub is_run : IsRun (next (input_of s) s.limit) s.limit (course_of s).read
  is_run = rw read_is (steps_are s.limit (input_of s) (text_order s.text.chars r.holds.text)).0

  ends_with : EndsWith (next (input_of s) s.limit) (course_of s).read cut_of.fault
  ends_with = rw read_is (steps_are s.limit (input_of s) (text_order s.text.chars r.holds.text)).1

  pub read_history : IsHistory s.limit (course_of s).read
  read_history = IsHistory-from_run (next (input_of s) s.limit) s.limit (source_of s.text.chars).size (next_orderly s.limit (input_of s) (text_order s.text.chars r.holds.text)) (course_of s).read is_run

  pub read_short : length (course_of s).read ≤ length s.text.chars + 1
  read_short = let a = run_short (next (input_of s) s.limit) s.limit (source_of s.text.chars).size (next_orderly s.limit (input_of s) (text_order s.text.chars r.holds.text)) (course_of s).read is_run in let z = size_of s.text.chars in omega arith

  pub inside : s.made - 1 ≤ length (course_of s).read
  inside = let a = r.within in let b = r.begun in omega arith

  module _ (e : ended (history s) ≡ false) where
    not_all : (x : Lexeme) → next (input_of s) s.limit (history s) ≡ Reads x → s.made - 1 < length (course_of s).read
    unfolding history
    not_all x q = elim (cases_eq (s.made - 1) (length (course_of s).read)) [
      | inr z ↦ (let l = inside in omega arith)
      | inl z ↦ (let a : oldest (s.made - 1) (course_of s).read ≡ (course_of s).read = oldest_all _ _ z in
          absurd (go cut_of.fault ends_with (subst (λ (X : List Laid). ended X ≡ false) a e) (subst (λ (X : List Laid). next (input_of s) s.limit X ≡ Reads x) a q)))
    ]
      where
        clash : (x : Lexeme) (o : Offence) → Reads x ≡ Faults o → ⊥
        clash x o q = cc

        go : (o : Option Offence) → EndsWith (next (input_of s) s.limit) (course_of s).read o → ended (course_of s).read ≡ false → next (input_of s) s.limit (course_of s).read ≡ Reads x → ⊥
        go None w n u = false≢true (sym n ∙ w)
        go (Some f) w n u = clash x f (sym u ∙ w.1)

    next_is : (x : Lexeme) → next (input_of s) s.limit (history s) ≡ Reads x → oldest s.made (course_of s).read ≡ laid s.limit (history s) x ∷ history s
    unfolding history
    next_is x q = let l = not_all x q in let b = r.begun in
        let n : s.made ≡ (s.made - 1) + 1 = omega arith in
        ap (λ (k : ℕ). oldest k (course_of s).read) n ∙ oldest-next (next (input_of s) s.limit) s.limit (course_of s).read (s.made - 1) x is_run l q

    -- the fault after the course
    last_is : (o : Offence) → next (input_of s) s.limit (history s) ≡ Faults o → IsLast s o.fault
    unfolding history
    last_is o q =
        let a = oldest-fault (next (input_of s) s.limit) s.limit (course_of s).read (s.made - 1) o cut_of.fault is_run ends_with inside e q in
        let b = r.begun in let z = a.0 in
        record { made = omega arith; fault = fault_is ∙ ap (λ (p : Option Offence). option_map (λ o. o.fault) p) a.1 }

    -- the next lexeme
    module _ (t : Scanner) (zs : List group_t) (a : AdvancesWith (history s) s t zs) where
      abbrev X : Outcome
      X = Reads a.lexeme

      next_step : next (input_of s) s.limit (history s) ≡ unless_near (source_of s.text.chars).size (refusal_seen s.refusal) X
      unfolding next
      next_step = ap (λ (o : Outcome). unless_near (source_of s.text.chars).size (refusal_seen s.refusal) o) a.step

      module _ (far : t.reach.index < s.near) where
        reads : next (input_of s) s.limit (history s) ≡ X
        reads = next_step ∙ not_near s.text.chars s.near X a.within t.reach.index a.index (refusal_seen s.refusal) r.near far

        t_same : Same s (counted t)
        t_same = let e = a.same in record { text = e.text; refusal = e.refusal; near = e.near; limit = e.limit; taken = e.taken; done = e.done }

        t_made : t.made + 1 ≡ s.made + 1
        t_made = let m = a.made in omega arith

        pub t_history : history (counted t) ≡ laid s.limit (history s) a.lexeme ∷ history s
        unfolding history
        t_history = let m : t.made + 1 - 1 ≡ s.made = (let k = t_made in omega arith) in rw (course_same s (counted t) t_same, m) (next_is a.lexeme reads)

        t_runs : RunsWith (counted t) zs
        t_runs = let e = t_same in record {
          small = rw e.text r.small;
          near = rw (e.text, e.refusal, e.near) r.near;
          holds = subst (λ (Z : List Laid). HoldsWith Z (t.made + 1 + 1) (counted t) zs) (sym t_history)
              (subst (λ (k : ℕ). HoldsWith (laid s.limit (history s) a.lexeme ∷ history s) (k + 1) (counted t) zs) (sym t_made) (counted_holds (laid s.limit (history s) a.lexeme ∷ history s) (s.made + 1 + 1) t zs a.holds));
          begun = omega arith;
          start = rw (course_same s (counted t) e) r.start;
          within = (let k = t_made in let l = not_all a.lexeme reads in rw (course_same s (counted t) e) (omega arith));
        }

        pub stepped_with : StepsWith s (counted t) zs
        stepped_with = record { runs = t_runs; made = t_made; same = t_same }

    -- the fault of a step
    pub ends_last : (f : Fault) → Ends (history s) s f → IsLast s f
    ends_last f w = subst (λ (g : Fault). IsLast s g) w.2 (last_is w.0 w.1)

-- two steps at once, neither of which is near
module _ (s : Scanner) {ys : List group_t} (r : RunsWith s ys) (e : ended (history s) ≡ false) (t : Scanner) (zs : List group_t) (a : AdvancesTwice (history s) s t zs) (far : t.reach.index < s.near) where
  abbrev between : Scanner
  between = counted a.between

  once : StepsWith s between a.then_queued
  once = stepped_with s r e a.between a.then_queued a.first a.far

  history_then : history between ≡ laid s.limit (history s) a.first.lexeme ∷ history s
  history_then = t_history s r e a.between a.then_queued a.first a.far

  then_advances : AdvancesWith (history between) between t zs
  then_advances = subst (λ (H : List Laid). AdvancesWith H between t zs) (sym history_then) a.second

  then_far : t.reach.index < between.near
  then_far = let q = once.same in let n = q.near in omega arith

  twice : (u : Scanner) → u ≡ counted t → StepsWith between u zs
  twice u q = rw q (stepped_with between once.runs (rw history_then a.running) t zs then_advances then_far)

  middle_is : oldest s.made (course_of s).read ≡ laid s.limit (history s) a.first.lexeme ∷ history s
  unfolding history
  middle_is =
      let f = once.same in
      let n : s.made ≡ between.made - 1 = (let k = once.made in omega arith) in
      ap (λ (k : ℕ). oldest k (course_of s).read) n ∙ ap (λ (c : Course). oldest (between.made - 1) c.read) (sym (course_same s between f)) ∙ history_then

  both_needed : Needs true (history s) s t zs a → length (before s.limit (oldest s.made (course_of s).read)) ≤ s.taken
  both_needed n = rw middle_is (n refl)

one_step : (s u : Scanner) {ys : List group_t} → RunsWith s ys → ended (history s) ≡ false → (t : Scanner) (zs : List group_t) → AdvancesWith (history s) s t zs → t.reach.index < s.near → u ≡ counted t → StepsWith s u zs
one_step s u r e t zs a far q = rw q (stepped_with s r e t zs a far)

-- one step was made, or two, whether the next token needs both or not
pub some_steps : (sparing : Bool) (s u : Scanner) (zs : List group_t) → IsRunning s → ended (history s) ≡ false → Makes sparing (history s) s u zs → RunsWith u zs × (s.made < u.made) × Same s u
some_steps sparing s u zs r e (inl m) = let k = one_step s u r e m.0 zs m.1 m.2 m.3 in let n = k.made in (k.runs, omega arith, k.same)
some_steps sparing s u zs r e (inr m) =
    let t : Scanner = m.0 in
    let a = m.1.0.0 in
    let j = once s r e (counted t) zs a m.1.1 in
    let k = twice s r e (counted t) zs a m.1.1 u m.2 in
    let l = j.made in
    let n = k.made in
    (k.runs, omega arith, same_trans s (counted a.between) u j.same k.same)

-- a step of the scanner is the next one of its input
pub steps_on : (s u : Scanner) → IsRunning s → ended (history s) ≡ false → Makes true (history s) s u (groups_in u) → StepsOn s u
steps_on s u r e (inl m) = inl (one_step s u r e m.0 (groups_in u) m.1 m.2 m.3)
steps_on s u r e (inr m) =
    let t : Scanner = m.0 in
    let a = m.1.0.0 in
    let j = once s r e (counted t) (groups_in u) a m.1.1 in
    let k = twice s r e (counted t) (groups_in u) a m.1.1 u m.2 in
    let l = j.made in
    let n = k.made in
    inr (record {
      runs = k.runs;
      made = omega arith;
      same = same_trans s (counted a.between) u j.same k.same;
      needed = both_needed s r e (counted t) (groups_in u) a m.1.1 m.1.0.1;
    })

-- or the last one of its input
pub step_on : (s t : Scanner) (o : Result (Unit {0}) stop_t) → IsRunning s → ended (history s) ≡ false → IsStep (history s) s t o
    → MatchResult o (λ _. StepsOn s t) (λ stop. ((fault_at stop t.refusal ≡ memory_fault) ⊎ IsLast s (fault_at stop t.refusal)) × Halts s t)
step_on s t (Ok x) r e w = steps_on s t r e w
step_on s t (Err stop) r e w = (elim w.0 [ inl m ↦ inl m | inr f ↦ inr (ends_last s r e (fault_at stop t.refusal) f) ], w.1)

-- FEW TOKENS, AND FEW STEPS
pub few_made : (s : Scanner) → IsRunning s → s.made + 2 < 2 ^ 64
few_made s r = let a = r.within in let b = read_short s r in let c = r.small in omega arith

pub history_length : (s : Scanner) {ys : List group_t} → RunsWith s ys → length (history s) ≡ s.made - 1
unfolding history
history_length s r = oldest_length (course_of s).read (s.made - 1) (inside s r)

few_are_few : (t n : ℕ) → t ≤ 4 * (n + 3) → n < 9223372036854775808 → t + 4 ≤ 2 ^ 100
few_are_few t n l m = omega arith

pub few_settled : (s : Scanner) → IsRunning s → length (before s.limit (history s)) + 4 ≤ 2 ^ 100
few_settled s r =
    let b = length-begins _ _ (before-offline s.limit (history s) r.holds.is_history) in
    let c = four_tokens_a_step s.limit (history s) r.holds.is_history in
    let d = history_length s r in
    let e = read_short s r in
    let f = inside s r in
    let g = r.small in
    few_are_few (length (before s.limit (history s))) (length s.text.chars) (omega arith) (omega arith)

pub few_taken : (s : Scanner) → IsRunning s → s.taken + 4 ≤ 2 ^ 100
few_taken s r = let a = r.holds.taken in let b = few_settled s r in omega arith
