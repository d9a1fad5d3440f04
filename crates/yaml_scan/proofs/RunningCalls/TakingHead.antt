-- The head of the queue is the next token of the list, and taking it leaves the rest.
use Rattle.std.proofs.Common.{◌≡◌, ℕ, zero, suc, ◌+◌, ◌-◌, ◌<◌, ◌^◌, List, [], ◌∷◌, ◌++◌, length, drop, slice_get, Some, refl, ap, sym, ◌∙◌, subst, arith}
use Rattle.yaml_scan.specs.inside.Scanner.{Scanner}
use Rattle.yaml_scan.specs.Token.{yaml_token_t}
use Rattle.yaml_scan.specs.Laid.{Laid}
use Rattle.yaml_scan.specs.Order.{IsHistory}
use Rattle.yaml_scan.specs.Groups.{Token, offline}
use Rattle.yaml_scan.specs.Settled.{before}
use Rattle.yaml_scan.specs.declared.queue.queue_t.{queue_t}
use Rattle.yaml_scan.specs.inside.Handed.{set_queue}
use Rattle.yaml_scan.specs.inside.Queue.{IsQueue, Takes, TakesNext}
use Rattle.yaml_scan.specs.inside.Holding.{HoldsQueue}
use Rattle.yaml_scan.specs.inside.Scanning.{IsRunning, history, course_of}
use Rattle.yaml_scan.specs.inside.Ready.{Pops}
use Rattle.yaml_scan.proofs.TokenList.QueueBound.{length-begins}
use Rattle.yaml_scan.proofs.TokenList.SettledStays.{before-before, before-offline}
use Rattle.yaml_scan.proofs.Course.StepsNeeded.{split}
use Rattle.yaml_scan.proofs.RunningQueue.CandidateGroup.{groups_count, drop_count, offline_whole}
use Rattle.yaml_scan.proofs.RunningCalls.NextOfInput.{read_history, runs_queued, inside, history_length, few_made}

get-append : (xs ys : List Token) (n : ℕ) → n < length xs → slice_get (xs ++ ys) n ≡ slice_get xs n
get-append [] ys n l = absurd (omega arith)
get-append (x ∷ xs) ys zero l = refl
get-append (x ∷ xs) ys (suc n) l = get-append xs ys n (omega arith)

get-drop : (xs : List Token) (n : ℕ) (x : Token) (r : List Token) → drop n xs ≡ x ∷ r → (slice_get xs n ≡ Some x) × (drop (n + 1) xs ≡ r)
get-drop [] zero x r e = cc
get-drop [] (suc n) x r e = cc
get-drop (y ∷ xs) zero x r e = (cc, cc)
get-drop (y ∷ xs) (suc n) x r e = let q = get-drop xs n x r e in let m : suc n + 1 ≡ suc (n + 1) = omega arith in (q.0, rw m q.1)

-- what is settled stays: the token at a place of what the steps so far hand out
head_same : (limit : ℕ) (W P Y : List Laid) (t : ℕ) → W ≡ Y ++ P → IsHistory limit W → IsHistory limit P → t < length (before limit P) → slice_get (offline P) t ≡ slice_get (before limit W) t
head_same limit W P Y t e h g l =
    let a = before-before limit Y P (subst (λ (X : List Laid). IsHistory limit X) e h) in
    let b = before-offline limit P g in
    let x : slice_get (offline P) t ≡ slice_get (before limit P) t = rw b.is (get-append (before limit P) b.rest t l) in
    let y : slice_get (before limit (Y ++ P)) t ≡ slice_get (before limit P) t = rw a.is (get-append (before limit P) a.rest t l) in
    x ∙ sym y ∙ ap (λ (X : List Laid). slice_get (before limit X) t) (sym e)

module _ (s : Scanner) (r : IsRunning s) (l : s.taken < length (before s.limit (history s))) where
  pub groups_some : 0 < length s.layout.queue.groups.items
  groups_some =
      let b = length-begins _ _ (before-offline s.limit (history s) r.holds.is_history) in
      let c = groups_count s.text.encoding s.layout.queue.early s.layout.queue.early_mark s.layout.queue.groups.items (drop s.taken (offline (history s))) r.holds.queue.tokens in
      let d = drop_count (offline (history s)) s.taken (offline_whole (history s)) (omega arith) in
      omega arith

  pub few_done : s.layout.queue.done + 1 < 2 ^ 64
  few_done = let a = r.holds.queue.count in let b = history_length s r in let c = few_made s r in omega arith

  pub token_is : (first : Token) (rest : List Token) → drop s.taken (offline (history s)) ≡ first ∷ rest → slice_get (before s.limit (course_of s).read) s.taken ≡ Some first
  unfolding history
  token_is first rest e =
      let z = split (course_of s).read (s.made - 1) (inside s r) in
      sym (head_same s.limit (course_of s).read (history s) z.0 s.taken z.1 (read_history s r) r.holds.is_history l) ∙ (get-drop (offline (history s)) s.taken first rest e).0

  -- the head is taken from the queue
  module _ (q : queue_t) (x : yaml_token_t) (k : TakesNext s.layout.queue q x) where
    taken_from : Takes s.text.encoding s.layout.queue q x (drop s.taken (offline (history s)))
    taken_from = k s.text.encoding (drop s.taken (offline (history s))) r.holds.queue.tokens

    parts : (slice_get (offline (history s)) s.taken ≡ Some taken_from.first) × (drop (s.taken + 1) (offline (history s)) ≡ taken_from.rest)
    parts = get-drop (offline (history s)) s.taken taken_from.first taken_from.rest taken_from.is

    queue_held : HoldsQueue s.text.encoding (s.taken + 1) (history s) q q.groups.items
    queue_held = let w = r.holds.queue in record {
      tokens = subst (λ (z : List Token). IsQueue s.text.encoding q.early q.early_mark q.groups.items z) (sym parts.1) taken_from.queue;
      count = (let a = taken_from.count in let b = w.count in omega arith);
      early = λ z. (let a = taken_from.early in let b = w.early z in omega arith);
    }

    pub next_popped : Pops s (set_queue s q (s.taken + 1)) x
    next_popped = record {
      token = taken_from.first;
      is = token_is taken_from.first taken_from.rest taken_from.is;
      answer = taken_from.told;
      runs = runs_queued s r q (s.taken + 1) queue_held (omega (arith, l));
      text = refl;
      refusal = refl;
      limit = refl;
      made = refl;
      taken = refl;
    }
