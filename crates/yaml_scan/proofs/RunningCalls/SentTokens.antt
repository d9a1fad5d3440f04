-- What goes straight to a sink that has room for it leaves the scanner that scans of these tokens leave.
use Rattle.std.proofs.Common.{◌∷◌, ◌≡◌, ℕ, ◌-◌, ◌≤◌, ◌<◌, Bool, true, false, List, [], ◌++◌, length, length-append, ap, sym, ◌∙◌, subst, arith, inl, inr}
use Rattle.std.specs.Prelude.{◌⊎◌, Ok, Err}
use Rattle.std.proofs.lemmas.Bool.{cases_lt}
use Rattle.yaml_text.specs.Fault.{memory_fault}
use Rattle.yaml_scan.specs.Course.{oldest, ended, Course}
use Rattle.yaml_scan.specs.declared.stop.stop_t.{stop_t}
use Rattle.yaml_scan.specs.declared.groups.group_t.{group_t}
use Rattle.yaml_scan.specs.inside.Scanner.{Scanner}
use Rattle.yaml_scan.specs.Begins.{Begins}
use Rattle.yaml_scan.specs.Groups.{Token, offline}
use Rattle.yaml_scan.specs.Laid.{Laid}
use Rattle.yaml_scan.specs.Order.{IsHistory}
use Rattle.yaml_scan.specs.Settled.{before, pace, steps_for}
use Rattle.yaml_scan.specs.Token.{yaml_token_t}
use Rattle.yaml_scan.specs.inside.Given.{HasGiven}
use Rattle.yaml_scan.specs.inside.Handed.{groups_tokens, Empties, StepsTo}
use Rattle.yaml_scan.specs.inside.Scanning.{CanStep, Fails, IsOpen, Makes, Refuses, Same, Stops, course_of, groups_in, history, RunsWith}
use Rattle.yaml_scan.specs.inside.Sent.{Sends}
use Rattle.yaml_scan.specs.inside.Stop.{fault_at}
use Rattle.yaml_scan.proofs.Course.StepsNeeded.{enough, needs_more, older, oldest_length, oldest_twice, split}
use Rattle.yaml_scan.proofs.RunningQueue.CandidateGroup.{count, count-append, count_groups}
use Rattle.yaml_scan.proofs.RunningQueue.WholeQueue.{whole_front}
use Rattle.yaml_scan.proofs.TokenList.SettledStays.{before-before, before-offline}
use Rattle.yaml_scan.proofs.RunningCalls.GivenTokens as given
use Rattle.yaml_scan.proofs.RunningCalls.NextOfInput.{course_same, ends_last, history_length, inside, read_history, some_steps, steps_on}
use Rattle.yaml_scan.proofs.RunningCalls.StepsMade.{Goes, fails, goes_on, open_too, still_running, stops}

-- HOW MANY TOKENS ARE SETTLED
-- if all tokens of some lexemes are settled, they are more than those that fewer lexemes settle
pub more_settled : (limit : ℕ) (Y P : List Laid) → IsHistory limit (Y ++ P) → IsHistory limit P → 0 < length Y → before limit (Y ++ P) ≡ offline (Y ++ P) → length (before limit P) < length (offline (Y ++ P))
unfolding offline
more_settled limit Y P h g y w = elim (cases_lt (length (before limit P)) (length (offline (Y ++ P)))) [
  | inl l ↦ l
  | inr l ↦ (let b : Begins (before limit P) (offline (Y ++ P)) = subst (λ (z : List Token). Begins (before limit P) z) w (before-before limit Y P h) in
      let a = before-offline limit P g in
      let e : offline (Y ++ P) ≡ before limit P = whole_front (before limit P) (offline (Y ++ P)) b l in
      let c = ap count e in
      let d = count_groups (Y ++ P) (Y ++ P) in
      let f = ap count a.is in
      let i = count-append (before limit P) a.rest in
      let j = count_groups P P in
      let k = length-append Y P in
      absurd (omega arith))
]

-- ONE MORE STEP, OR TWO
module _ (a s : Scanner) (g : Goes a s) (o : IsOpen a) (l : length (before s.limit (history s)) ≤ s.taken) where
  open_s : IsOpen s
  open_s = open_too a s g.runs g.same o

  running : ended (history s) ≡ false
  running = still_running s g.runs open_s l

  pub can : CanStep (history s) s
  can = given.can_step s g.runs open_s l

  -- its tokens are queued
  pub queued : (t : Scanner) → Makes true (history s) s t (groups_in t) → Goes a t
  queued t k = goes_on a s t g.runs g.same g.least l (steps_on s t g.runs running k)

  pub queued_more : (t : Scanner) → Makes true (history s) s t (groups_in t) → s.made < t.made
  queued_more t k = let p = some_steps true s t (groups_in t) g.runs running k in p.1

  module _ (m : Scanner) (zs : List group_t) (b : Bool) (k : Makes b (history s) s m zs) (t : Scanner) (tokens : List yaml_token_t) (e : Empties m zs t tokens) where
    p : RunsWith m zs × (s.made < m.made) × Same s m
    p = some_steps b s m zs g.runs running k

    open_m : IsOpen m
    open_m = given.open_same s m p.2 open_s

    h : HasGiven s t tokens
    h = given.emptied m zs p.0 open_m tokens e.all t e s p.2

    all_taken : t.taken ≡ length (offline (history m))
    all_taken = given.taken_then m zs p.0 open_m tokens e.all t e

    limit_then : t.limit ≡ m.limit
    limit_then = given.limit_then m zs p.0 open_m tokens e.all t e

    made_then : t.made ≡ m.made
    made_then = given.made_then m zs p.0 open_m tokens e.all t e

    same_history : history t ≡ history m
    same_history = given.history_then m zs p.0 open_m tokens e.all t e

    whole : before m.limit (history m) ≡ offline (history m)
    whole = given.whole m zs p.0 open_m tokens e.all

    limits : t.limit ≡ s.limit
    limits = h.limit

    course_t : course_of t ≡ course_of s
    course_t = given.course_as s t h.text h.refusal h.limit

    -- after the first n steps fewer are settled
    fewer_before : (n : ℕ) → n < t.made - 1 → length (before t.limit (oldest n (course_of t).read)) < t.taken
    unfolding history
    fewer_before n q =
        let R = (course_of t).read in
        let w = inside t h.runs in
        let z = split (history t) n (let x = history_length t h.runs in omega arith) in
        let u : oldest n (oldest (t.made - 1) R) ≡ oldest n R = oldest_twice R n (t.made - 1) (omega arith) w in
        let P : List Laid = oldest n (oldest (t.made - 1) R) in
        let H : IsHistory t.limit (z.0 ++ P) = subst (λ (X : List Laid). IsHistory t.limit X) z.1 h.runs.holds.is_history in
        let x = length-append z.0 P in
        let y = ap (λ (X : List Laid). length X) z.1 in
        let v = history_length t h.runs in
        let c = oldest_length (oldest (t.made - 1) R) n (omega arith) in
        let f : before t.limit (history t) ≡ offline (history t) = ap (λ (X : List Laid). before t.limit X) same_history ∙ ap (λ (i : ℕ). before i (history m)) limit_then ∙ whole ∙ ap offline (sym same_history) in
        let d : length (before t.limit P) < length (offline (z.0 ++ P)) = more_settled t.limit z.0 P H (older t.limit z.0 P H) (omega arith) (subst (λ (X : List Laid). before t.limit X ≡ offline X) z.1 f) in
        let i = ap (λ (X : List Laid). length (offline X)) (sym z.1 ∙ same_history) in
        let j = all_taken in
        let r = ap (λ (X : List Laid). length (before t.limit X)) u in
        omega arith

    last_needs : t.made ≤ steps_for t.limit (course_of t).read (t.taken - 1)
    last_needs =
        let q = p.1 in
        let b = g.runs.begun in
        let n = made_then in
        let w = h.runs.within in
        let f = fewer_before (t.made - 2) (omega arith) in
        let k = needs_more t.limit (course_of t).read (t.taken - 1) (t.made - 2) (read_history t h.runs) (omega arith) (omega arith) in
        omega arith

    last_has : steps_for t.limit (course_of t).read (t.taken - 1) ≤ t.made
    unfolding history
    last_has =
        let f = fewer_before 0 (let q = p.1 in let b = g.runs.begun in let n = made_then in omega arith) in
        let j = ap (λ (X : List Laid). length (before t.limit X)) same_history in
        let i = ap (λ (n : ℕ). length (before n (history m))) limit_then in
        let w = ap (λ (X : List Token). length X) whole in
        let v = all_taken in
        let k = enough t.limit (course_of t).read (t.taken - 1) (t.made - 1) (inside t h.runs) (omega arith) in
        let b = h.runs.begun in
        omega arith

    some_given : 0 < length tokens
    unfolding history
    some_given =
        let q = p.1 in
        let n = made_then in
        let f = fewer_before (s.made - 1) (let b = g.runs.begun in omega arith) in
        let c = ap (λ (X : Course). length (before t.limit (oldest (s.made - 1) X.read))) course_t in
        let i = ap (λ (k : ℕ). length (before k (oldest (s.made - 1) (course_of s).read))) limits in
        let d = ap (λ (z : Scanner). z.taken) e.same in
        let u = p.2.taken in
        let r = g.runs.holds.taken in
        omega arith

    some_groups : (ys : List group_t) → tokens ≡ groups_tokens ys → 0 < length ys
    some_groups [] q = absurd (let c = ap (λ (ts : List yaml_token_t). length ts) q in let n = some_given in omega arith)
    some_groups (y ∷ ys) q = omega arith

    -- groups were taken
    pub more_done : s.layout.queue.done < t.layout.queue.done
    more_done = let n = some_groups zs e.all.tokens_are in let d = e.done in let u = p.2.done in omega arith

    pub sent : Sends a t tokens
    unfolding pace
    sent =
        let S = g.same in
        let c : course_of s ≡ course_of a = course_same a s S in
        record {
          runs = h.runs;
          still_open = h.still_open;
          text = h.text ∙ S.text;
          refusal = h.refusal ∙ S.refusal;
          limit = h.limit ∙ S.limit;
          some = some_given;
          taken = (let d = ap (λ (z : Scanner). z.taken) e.same in let u = p.2.taken in let v = S.taken in omega arith);
          told = h.given ∙ ap (λ (z : List yaml_token_t). z ++ tokens) (given.taken_is a s S.text S.refusal S.limit a.taken S.taken);
          least = (let q = p.1 in let n = made_then in let v = g.least in omega arith);
          made = (let x = ap (λ (C : Course). steps_for t.limit C.read (t.taken - 1)) (course_t ∙ c) in
              let y = ap (λ (n : ℕ). steps_for n (course_of a).read (t.taken - 1)) (h.limit ∙ S.limit) in
              let u = last_needs in
              let v = last_has in
              let q = p.1 in let n = made_then in let z = g.least in
              omega arith);
          no_end = e.all.no_end;
        }

  -- it stopped
  pub stopped : (t : Scanner) (stop : stop_t) → Refuses (history s) s t stop → ((fault_at stop t.refusal ≡ memory_fault) ⊎ Fails a t (fault_at stop t.refusal)) × Stops a t
  stopped t stop w = (
    elim w.0 [ inl m ↦ inl m | inr f ↦ inr (fails a s g.runs g.same t _ w.1 (ends_last s g.runs running _ f) l) ],
    stops a s g.runs g.same t w.1 g.least g.most l,
  )

  -- a step goes on, or gives tokens to the sink
  pub goes : (t : Scanner) (took : List yaml_token_t → Type 0) (refuses : Type 0) (x : Unit {0}) → StepsTo (history s) s t true took refuses (Ok x)
      → (Goes a t × (s.made < t.made) × took []) ⊎ ((tokens : List yaml_token_t) × Sends a t tokens × took tokens × (s.layout.queue.done < t.layout.queue.done))
  goes t took refuses x w = elim w.5 [
    | inl e ↦ (let m : Makes true (history s) s t (groups_in t) = subst (λ (z : Scanner). Makes true (history s) s z (groups_in z)) (sym e.2)
        (subst (λ (zs : List group_t). Makes true (history s) s w.1 zs) e.3 (subst (λ (b : Bool). Makes b (history s) s w.1 w.2) e.0 w.4)) in
        inl (queued t m, queued_more t m, subst took e.1 w.6))
    | inr e ↦ inr (w.0, sent w.1 w.2 w.3 w.4 t w.0 e.1, w.6, more_done w.1 w.2 w.3 w.4 t w.0 e.1)
  ]

  -- or stops
  pub halts : (t : Scanner) (took : List yaml_token_t → Type 0) (refuses : Type 0) (stop : stop_t) → StepsTo (history s) s t true took refuses (Err stop)
      → (((fault_at stop t.refusal ≡ memory_fault) ⊎ Fails a t (fault_at stop t.refusal)) × Stops a t × took []) ⊎ refuses
  halts t took refuses stop (inl w) = let q = stopped t stop w.0 in inl (q.0, q.1, w.1)
  halts t took refuses stop (inr w) = inr w.2
