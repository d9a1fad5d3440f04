-- No token of the group at the head of the queue waits, if it is not that of the candidate which is awaited, and taking
-- the group leaves the rest.
use Rattle.std.proofs.Common.{◌≡◌, ℕ, ◌+◌, ◌≤◌, ◌<◌, ◌^◌, true, false, List, [], ◌∷◌, ◌++◌, map, take, drop, length, length-append, length-drop, append_assoc, Some, refl, ap, sym, ◌∙◌, subst, arith, inl, inr}
use Rattle.std.specs.Prelude.{◌≢◌, ◌⊎◌}
use Rattle.std.specs.List.{list_any}
use Rattle.std.proofs.lemmas.Bool.{cases_eq, cases_lt, false≢true}
use Rattle.std.proofs.lemmas.List.{map-append, take_all, take_at, take-append-le, drop-append-le, drop-drop, drop_at}
use Rattle.yaml_text.specs.declared.types.yaml_encoding_t.{yaml_encoding_t}
use Rattle.yaml_text.specs.Token.{token_of}
use Rattle.yaml_scan.specs.Begins.{Begins}
use Rattle.yaml_scan.specs.Course.{Course, ended}
use Rattle.yaml_scan.specs.Depth.{depth}
use Rattle.yaml_scan.specs.Groups.{Token, handed_out, offline}
use Rattle.yaml_scan.specs.Groups.Token.{OfLexeme}
use Rattle.yaml_scan.specs.Keys.{candidate}
use Rattle.yaml_scan.specs.Laid.{Laid}
use Rattle.yaml_scan.specs.Settled.{before, up_to}
use Rattle.yaml_scan.specs.Token.{yaml_token_t}
use Rattle.yaml_scan.specs.Words.{HasWords, HaveWords}
use Rattle.yaml_scan.specs.declared.groups.group_t.{group_t}
use Rattle.yaml_scan.specs.declared.queue.queue_t.{queue_t}
use Rattle.yaml_scan.specs.inside.Scanner.{Scanner}
use Rattle.yaml_scan.specs.inside.Given.{all_in, told_all, told_taken}
use Rattle.yaml_scan.specs.inside.Handed.{group_tokens, is_end, set_queue, told_leads}
use Rattle.yaml_scan.specs.inside.Holding.{HoldsQueue}
use Rattle.yaml_scan.specs.inside.Queue.{IsQueue, leads}
use Rattle.yaml_scan.specs.inside.Scanning.{IsOpen, IsRunning, course_of, groups_in, history}
use Rattle.yaml_scan.specs.inside.Sent.{Drains, IsReadyGroup}
use Rattle.yaml_scan.specs.inside.Slots.{Held, held_step}
use Rattle.yaml_scan.proofs.RunningQueue.CandidateGroup.{count, leads_made, offline_split, split_made, stands, taken_count}
use Rattle.yaml_scan.proofs.RunningQueue.GroupTokens.{group_no_end, told_count}
use Rattle.yaml_scan.proofs.RunningQueue.HeadIsNext.{here, lowest_open, none_open}
use Rattle.yaml_scan.proofs.RunningQueue.SlotOrder.{IsLowest, IsNone, awaited_is, lowest_is}
use Rattle.yaml_scan.proofs.RunningQueue.WholeQueue.{leads_told, none_early}
use Rattle.yaml_scan.proofs.RunningCalls.GivenTokens.{all_fit, course_as, end_is_told, settled_begins, taken_is}
use Rattle.yaml_scan.proofs.RunningCalls.NextOfInput.{few_settled, read_history, runs_queued}
use Rattle.yaml_scan.proofs.RunningCalls.ScansToTheEnd.{begins_take}
use Rattle.yaml_scan.proofs.RunningCalls.SeveralScans.{take-more}
use Rattle.yaml_scan.proofs.TokenList.OneLexemeMore.{all_is_handed_out}
use Rattle.yaml_scan.proofs.TokenList.QueueBound.{length-begins}
use Rattle.yaml_scan.proofs.TokenList.SettledStays.{before-offline}

-- LISTS
-- a part that lies within the common front of two lists
part_same : (front a b : List Token) (t n : ℕ) → t + n ≤ length front → take n (drop t (front ++ a)) ≡ take n (drop t (front ++ b))
part_same front a b t n l =
    let d = length-drop t front in
    rw (drop-append-le t front a (omega arith), drop-append-le t front b (omega arith)) (take-append-le n (drop t front) a (omega arith) ∙ sym (take-append-le n (drop t front) b (omega arith)))

words_front : (xs ys : List yaml_token_t) → HaveWords (xs ++ ys) → HaveWords xs
words_front [] ys w = tt
words_front (x ∷ xs) ys w = (w.0, words_front xs ys w.1)

words_back : (xs ys : List yaml_token_t) → HaveWords (xs ++ ys) → HaveWords ys
words_back [] ys w = w
words_back (x ∷ xs) ys w = words_back xs ys w.1

-- WHAT IS SETTLED
-- the group at the head is the first one of the queue
pub ready_head : (s : Scanner) (y z : group_t) (ys : List group_t) → IsReadyGroup s y → groups_in s ≡ z ∷ ys → IsReadyGroup s z
ready_head s y z ys g q =
    let w : y ∷ g.others ≡ z ∷ ys = sym g.head ∙ q in
    let e : y ≡ z = cc in
    record { others = ys; head = q; early = g.early; awaited = g.awaited; no_end = subst (λ (x : group_t). is_end (token_of x.token) ≡ false) e g.no_end }

module _ (s : Scanner) (r : IsRunning s) (y : group_t) (g : IsReadyGroup s y) where
  abbrev H : List Laid
  H = history s

  abbrev e : yaml_encoding_t
  e = s.text.encoding

  abbrev h : Token → yaml_token_t
  h x = handed_out s.text.encoding x

  -- how many tokens the group hands out
  abbrev n : ℕ
  n = length (group_tokens y)

  queue_is : IsQueue e 0 s.layout.queue.early_mark (y ∷ g.others) (drop s.taken (offline H))
  queue_is = subst (λ (ys : List group_t). IsQueue e 0 s.layout.queue.early_mark ys (drop s.taken (offline H))) g.head
      (subst (λ (k : ℕ). IsQueue e k s.layout.queue.early_mark (groups_in s) (drop s.taken (offline H))) g.early r.holds.queue.tokens)

  abbrev first : Token
  first = queue_is.0

  abbrev rest : List Token
  rest = queue_is.1

  parts : drop s.taken (offline H) ≡ leads y ++ first ∷ rest
  parts = queue_is.2 ∙ ap (λ (z : List Token). z ++ first ∷ rest) (none_early e s.layout.queue.early_mark g.others y)

  long : n ≡ length (leads y) + 1
  long = let a = length-append (told_leads (leads y)) (token_of y.token ∷ []) in let b = told_count (leads y) in omega arith

  made_long : s.taken + n ≤ length (offline H)
  made_long =
      let a = ap (λ (z : List Token). length z) parts in
      let b = length-append (leads y) (first ∷ rest) in
      let c = length-drop s.taken (offline H) in
      let d = long in
      omega arith

  -- a candidate whose group is another one stands after the group
  candidate_after : (k : ℕ) (c : Laid) → candidate H k ≡ Some c → c.number + 2 ≢ s.layout.queue.done + 1 → s.taken ≤ length (up_to H (Some c)) → s.taken + n ≤ length (up_to H (Some c))
  candidate_after k c i d l =
      let o = offline_split s.limit H k c r.holds.is_history i in
      let p = stands s.limit H k c s.taken (up_to H (Some c)) o.0 r.holds.is_history i refl o.1 l in
      let q : leads y ++ first ∷ rest ≡ p.whole ++ (p.ends ++ OfLexeme c.lexeme ∷ o.0) =
      sym parts ∙ ap (λ (z : List Token). drop s.taken z) o.1 ∙ drop-append-le s.taken (up_to H (Some c)) (OfLexeme c.lexeme ∷ o.0) l
      ∙ ap (λ (z : List Token). z ++ OfLexeme c.lexeme ∷ o.0) p.front_is ∙ append_assoc p.whole p.ends (OfLexeme c.lexeme ∷ o.0) in
      let u = taken_count H s.taken e s.layout.queue.early s.layout.queue.early_mark (groups_in s) r.holds.queue.tokens s.layout.queue.done r.holds.queue.count in
      let w = p.place in
      let f = p.far in
      let m = long in
      elim (cases_eq (count p.whole) 0) [
        | inl z ↦ absurd (d (omega arith))
        | inr z ↦ (let v = split_made (leads y) first rest p.whole (p.ends ++ OfLexeme c.lexeme ∷ o.0) (leads_made y) queue_is.4 p.is_whole (omega arith) q in
            let a = ap (λ (x : List Token). length x) v.is in
            let b = length-append (leads y) (first ∷ v.more) in
            omega arith)
      ]

  pub group_settled : s.taken + n ≤ length (before s.limit H)
  group_settled = elim (cases_lt (length (before s.limit H)) (s.taken + n)) [
    | inr l ↦ l
    | inl l ↦ (let m = made_long in absurd (go l (omega arith) (lowest_is s.limit H (depth H + 1))))
  ]
    where
      go : length (before s.limit H) < s.taken + n → length (before s.limit H) < length (offline H) → IsLowest s.limit H (depth H + 1) ⊎ IsNone s.limit H (depth H + 1) → ⊥
      go l m (inr o) = let x = none_open s.limit H r.holds.is_history (length (before s.limit H)) (omega arith) o m in omega arith
      go l m (inl o) =
          let c = here s.limit H r.holds.is_history (length (before s.limit H)) (omega arith) o in
          let a : s.slots.awaited ≡ c.laid.number + 2 = awaited_is s.limit H s.slots s.allowed r.holds.keys ∙ ap held_step o.told ∙ ap (λ (z : Held). z.step) c.told in
          let x = lowest_open s.limit H r.holds.is_history (length (before s.limit H)) (omega arith) o
          (λ q. let w = candidate_after o.at c.laid c.is (λ z. g.awaited (a ∙ z)) (let t = r.holds.taken in omega arith) in absurd (omega arith)) m in
          omega arith

  -- THE TOKENS OF THE GROUP
  -- they are the next ones of the input
  next_are : take n (drop s.taken (all_in s)) ≡ leads y ++ first ∷ []
  next_are =
      let a = settled_begins s r in
      let b = before-offline s.limit H r.holds.is_history in
      let l = long in
      let k = length-append (leads y) (first ∷ []) in
      ap (λ (z : List Token). take n (drop s.taken z)) a.is
      ∙ part_same (before s.limit H) a.rest b.rest s.taken n group_settled
      ∙ ap (λ (z : List Token). take n (drop s.taken z)) (sym b.is)
      ∙ ap (λ (z : List Token). take n z) (parts ∙ sym (append_assoc (leads y) (first ∷ []) rest))
      ∙ take_at (leads y ++ first ∷ []) rest n (omega arith)

  tokens_are : map h (leads y ++ first ∷ []) ≡ group_tokens y
  tokens_are =
      map-append h (leads y) (first ∷ [])
      ∙ ap (λ (z : List yaml_token_t). z ++ h first ∷ []) (leads_told e y)
      ∙ ap (λ (z : yaml_token_t). told_leads (leads y) ++ z ∷ []) (sym queue_is.3)

  told_then : map h (take (s.taken + n) (all_in s)) ≡ told_taken s ++ group_tokens y
  told_then =
      ap (λ (z : List Token). map h z) (take-more s.taken n (all_in s))
      ∙ map-append h (take s.taken (all_in s)) (take n (drop s.taken (all_in s)))
      ∙ ap (λ (z : List Token). told_taken s ++ map h z) next_are
      ∙ ap (λ (z : List yaml_token_t). told_taken s ++ z) tokens_are

  all_long : s.taken + n ≤ length (all_in s)
  all_long = let a = length-begins _ _ (settled_begins s r) in let b = group_settled in omega arith

  pub group_few : s.taken + n < 2 ^ 128
  group_few = let a = group_settled in let b = few_settled s r in omega arith

  pub group_words : HaveWords (told_all s) → HasWords (token_of y.token).token_data
  group_words w =
      let b : Begins (told_taken s ++ group_tokens y) (told_all s) = subst (λ (z : List yaml_token_t). Begins z (told_all s)) told_then (begins_take h (all_in s) (s.taken + n)) in
      let x = words_front (told_taken s ++ group_tokens y) b.rest (subst (λ (z : List yaml_token_t). HaveWords z) b.is w) in
      (words_back (told_leads (leads y)) (token_of y.token ∷ []) (words_back (told_taken s) (group_tokens y) x)).0

  -- the stream end comes after them
  more_follow : IsOpen s → ended (course_of s).read ≡ true → s.taken + n < length (offline (course_of s).read)
  more_follow o f =
      let v : all_in s ≡ offline (course_of s).read = (all_is_handed_out s.limit (course_of s).read (read_history s r) f).1 in
      let k = ap (λ (z : List Token). length z) v in
      let l = all_long in
      elim (cases_lt (s.taken + n) (length (offline (course_of s).read))) [
        | inl m ↦ m
        | inr m ↦ (let d = length-drop s.taken (all_in s) in
            let a : map h (drop s.taken (offline (course_of s).read)) ≡ group_tokens y =
            ap (λ (z : List Token). map h (drop s.taken z)) (sym v)
            ∙ ap (λ (z : List Token). map h z) (sym (take_all n (drop s.taken (all_in s)) (omega arith)) ∙ next_are)
            ∙ tokens_are in
            let q = end_is_told e (course_of s).read s.taken f (all_fit s r) (o f) in
            absurd (false≢true (sym (group_no_end y g.no_end) ∙ ap (λ (z : List yaml_token_t). list_any is_end z) (sym a) ∙ q)))
      ]

  -- THE REST
  rest_is : drop (s.taken + n) (offline H) ≡ rest
  rest_is =
      let l = long in
      let k = length-append (leads y) (first ∷ []) in
      sym (drop-drop n s.taken (offline H))
      ∙ ap (λ (z : List Token). drop n z) (parts ∙ sym (append_assoc (leads y) (first ∷ []) rest))
      ∙ drop_at (leads y ++ first ∷ []) rest n (omega arith)

  -- the group is taken
  module _ (q : queue_t) (E : q.early ≡ s.layout.queue.early) (F : q.early_mark ≡ s.layout.queue.early_mark) (D : q.done ≡ s.layout.queue.done + 1) (Y : q.groups.items ≡ g.others) (k : ℕ) (K : k ≡ n) where
    abbrev u : Scanner
    u = set_queue s q (s.taken + k)

    course_u : course_of u ≡ course_of s
    course_u = course_as s u refl refl refl

    taken_u : s.taken + k ≡ s.taken + n
    taken_u = ap (λ (m : ℕ). s.taken + m) K

    early_u : q.early ≡ 0
    early_u = E ∙ g.early

    queue_held : HoldsQueue e (s.taken + k) H q q.groups.items
    queue_held = record {
      tokens = rw (early_u, F, Y, K, rest_is) queue_is.5;
      count = (let c = r.holds.queue.count in let a = ap (λ (z : List group_t). length z) g.head in let b = ap (λ (z : List group_t). length z) Y in omega arith);
      early = λ z. early_u;
    }

    open_u : IsOpen s → IsOpen u
    open_u o q =
        let f : ended (course_of s).read ≡ true = sym (ap (λ (c : Course). ended c.read) course_u) ∙ q in
        let l = more_follow o f in
        let c = ap (λ (x : Course). length (offline x.read)) course_u in
        omega (arith, K)

    pub group_drained : IsOpen s → Drains s u (group_tokens y)
    group_drained o = record {
      given = record {
        runs = runs_queued s r q (s.taken + k) queue_held (rw K group_settled);
        still_open = open_u o;
        text = refl;
        refusal = refl;
        limit = refl;
        grows = omega arith;
        given = taken_is s u refl refl refl (s.taken + n) taken_u ∙ told_then;
      };
      taken = taken_u;
      made = refl;
      no_end = group_no_end y g.no_end;
    }
