-- What calls take of the list, and how many steps are queued after them.
use Rattle.std.proofs.Common.{◌≡◌, ℕ, zero, suc, ◌+◌, ◌-◌, ◌≤◌, max, Bool, true, false, List, [], ◌∷◌, ◌++◌, length, drop, slice_get, Option, Some, None, refl, ap, sym, ◌∙◌, subst, arith, inl, inr, ltb}
use Rattle.std.specs.Prelude.{if◌then◌else◌, nat_eq}
use Rattle.std.specs.Option.{option_to_list}
use Rattle.std.proofs.lemmas.Bool.{cases_lt, cond_both, false≢true, and_parts}
use Rattle.std.proofs.lemmas.List.{drop_all}
use Rattle.yaml_scan.specs.Course.{Course}
use Rattle.yaml_scan.specs.Laid.{Laid}
use Rattle.yaml_scan.specs.Groups.{Token, groups}
use Rattle.yaml_scan.specs.Settled.{before}
use Rattle.yaml_scan.specs.Sessions.{queued}
use Rattle.yaml_scan.specs.Order.{IsHistory}
use Rattle.yaml_scan.specs.Session.{Call, Session, next_token, is_last}
use Rattle.yaml_scan.specs.Sessions.{new_session}
use Rattle.yaml_scan.specs.Session.{after}
use Rattle.yaml_scan.specs.Sessions.{after_all, session_queued}
use Rattle.yaml_scan.specs.Settled.{first_steps, steps_for, pace, tokens_of}
use Rattle.yaml_scan.specs.Session.Call.{SCAN, PEEK, SKIP}
use Rattle.yaml_scan.specs.SessionLaws.{token_taken, taken_by, tokens_in, TakenAreBeginning, without_peeks}
use Rattle.yaml_scan.specs.SessionLaws.{skips_peeked, PeeksChangeNothing, FewStepsQueued}
use Rattle.yaml_scan.proofs.SessionCalls.CallCases.{paced, looked, took, finished, after_scan, after_peek, after_skip}
use Rattle.yaml_scan.proofs.TokenList.QueueBound.{queued_few}
use Rattle.yaml_scan.proofs.TokenList.OneLexemeMore.{few_wait}
use Rattle.yaml_scan.proofs.Course.StepsNeeded.{steps_for_is, steps_for_least, oldest_of}
use Rattle.yaml_scan.proofs.History.HistoryOrder.{IsHistory-older}

-- WHAT CALLS TAKE
get_drop : (xs : List Token) (n : ℕ) (x : Token) → slice_get xs n ≡ Some x → drop n xs ≡ x ∷ drop (n + 1) xs
get_drop [] n x e = cc
get_drop (y ∷ xs) zero x e = cc
get_drop (y ∷ xs) (suc n) x e = let m : suc n + 1 ≡ suc (n + 1) = omega arith in rw m (get_drop xs n x e)

module _ (limit : ℕ) (c : Course) where
  -- what a call took
  abbrev count : Option Token → ℕ
  count None = 0
  count (Some x) = 1

  scan_counts : (s : Session) (b : Bool) → s.over ≡ b → (o : Option Token) → next_token limit c s ≡ o
      → (if b then s else after_scan limit c s o).taken ≡ s.taken + count (if b then None else o)
  scan_counts s true e o q = omega arith
  scan_counts s false e None q = omega arith
  scan_counts s false e (Some x) q = refl

  peek_counts : (s : Session) (b : Bool) (o : Option Token) → (if b then s else after_peek limit c s o).taken ≡ s.taken
  peek_counts s true o = refl
  peek_counts s false None = refl
  peek_counts s false (Some x) = refl

  skip_counts : (s : Session) (b : Bool) (o : Option Token) → (if b then after_skip s o else s).taken ≡ s.taken + count (if b then o else None)
  skip_counts s true None = omega arith
  skip_counts s true (Some x) = refl
  skip_counts s false o = omega arith

  counts : (call : Call) (s : Session) → (after limit c call s).taken ≡ s.taken + count (token_taken limit c call s)
  counts SCAN s = scan_counts s s.over refl (next_token limit c s) refl
  counts PEEK s = peek_counts s s.over (next_token limit c s) ∙ omega arith
  counts SKIP s = skip_counts s s.peeked (next_token limit c s)

  if_next : (b : Bool) (o : Option Token) (x : Token) → (if b then None else o) ≡ Some x → o ≡ Some x
  if_next true o x e = cc
  if_next false o x e = e

  then_next : (b : Bool) (o : Option Token) (x : Token) → (if b then o else None) ≡ Some x → o ≡ Some x
  then_next true o x e = e
  then_next false o x e = cc

  taken_is_next : (call : Call) (s : Session) (x : Token) → token_taken limit c call s ≡ Some x → next_token limit c s ≡ Some x
  taken_is_next SCAN s x e = if_next s.over (next_token limit c s) x e
  taken_is_next PEEK s x e = cc
  taken_is_next SKIP s x e = then_next s.peeked (next_token limit c s) x e

  -- what is left of the list after n tokens begins with some, k of them
  pub record Goes (n : ℕ) (xs : List Token) (k : ℕ) : Type 0 where
    pub rest : List Token
    pub is : drop n (tokens_of limit c) ≡ xs ++ rest
    pub count_is : length xs ≡ k

  goes : (s t : Session) (o : Option Token) (xs : List Token) (k : ℕ) → ((x : Token) → o ≡ Some x → next_token limit c s ≡ Some x) → t.taken ≡ s.taken + count o → Goes t.taken xs k → Goes s.taken (option_to_list o ++ xs) (count o + k)
  goes s t None xs k f e g = record { rest = g.rest; is = (let q : t.taken ≡ s.taken = omega arith in ap (λ (n : ℕ). drop n (tokens_of limit c)) (sym q) ∙ g.is); count_is = (let m = g.count_is in omega arith) }
  goes s t (Some x) xs k f e g = record {
    rest = g.rest;
    is = get_drop (tokens_of limit c) s.taken x (f x refl) ∙ ap (λ (l : List Token). x ∷ l) (ap (λ (n : ℕ). drop n (tokens_of limit c)) (sym e) ∙ g.is);
    count_is = (let m = g.count_is in omega arith);
  }

  -- by all calls
  pub all_go : (calls : List Call) (s : Session) → (k : ℕ) × ((after_all limit c calls s).taken ≡ s.taken + k) × Goes s.taken (tokens_in (taken_by limit c calls s)) k
  unfolding after_all taken_by
  all_go [] s = (0, omega arith, record { rest = drop s.taken (tokens_of limit c); is = refl; count_is = refl })
  all_go (SCAN ∷ calls) s =
      let r = all_go calls (after limit c SCAN s) in
      let q = counts SCAN s in
      (count (token_taken limit c SCAN s) + r.0, (let p = r.1 in omega arith), goes s (after limit c SCAN s) (token_taken limit c SCAN s) _ r.0 (taken_is_next SCAN s) q r.2)
  all_go (PEEK ∷ calls) s =
      let r = all_go calls (after limit c PEEK s) in
      let q : (after limit c PEEK s).taken ≡ s.taken = peek_counts s s.over (next_token limit c s) in
      (r.0, (let p = r.1 in omega arith), subst (λ (n : ℕ). Goes n (tokens_in (taken_by limit c calls (after limit c PEEK s))) r.0) q r.2)
  all_go (SKIP ∷ calls) s =
      let r = all_go calls (after limit c SKIP s) in
      let q = counts SKIP s in
      (count (token_taken limit c SKIP s) + r.0, (let p = r.1 in omega arith), goes s (after limit c SKIP s) (token_taken limit c SKIP s) _ r.0 (taken_is_next SKIP s) q r.2)

pub taken_are_beginning : TakenAreBeginning
taken_are_beginning limit c calls = let r = all_go limit c calls new_session in let g = r.2 in
    (record { rest = g.rest; is = g.is }, (let a = r.1 in let b = g.count_is in omega arith))

-- PEEKS
module _ (limit : ℕ) (c : Course) where
  -- the token that a scan would take
  abbrev open_token : Session → Option Token
  open_token s = token_taken limit c SCAN s

  abbrev token_at : Bool → ℕ → Option Token
  token_at over n = if over then None else slice_get (tokens_of limit c) n

  -- and then
  abbrev then_open : ℕ → Option Token → Option Token
  then_open n None = None
  then_open n (Some x) = token_at (is_last x) (n + 1)

  scan_opens : (s : Session) (b : Bool) → s.over ≡ b → (o : Option Token) → next_token limit c s ≡ o
      → open_token (if b then s else after_scan limit c s o) ≡ then_open s.taken (if b then None else o)
  scan_opens s true e o q = rw e refl
  scan_opens s false e None q = refl
  scan_opens s false e (Some x) q = refl

  peek_opens : (s : Session) (b : Bool) → s.over ≡ b → (o : Option Token) → next_token limit c s ≡ o
      → open_token (if b then s else after_peek limit c s o) ≡ (if b then None else o)
  peek_opens s true e o q = rw e refl
  peek_opens s false e None q = refl
  peek_opens s false e (Some x) q = rw e q

  skip_opens : (s : Session) → s.over ≡ false → (o : Option Token) → next_token limit c s ≡ o → open_token (after_skip s o) ≡ then_open s.taken o
  skip_opens s e None q = rw e q
  skip_opens s e (Some x) q = refl

  after_scan_opens : (s : Session) → open_token (after limit c SCAN s) ≡ then_open s.taken (open_token s)
  after_scan_opens s = scan_opens s s.over refl (next_token limit c s) refl

  after_peek_opens : (s : Session) → open_token (after limit c PEEK s) ≡ open_token s
  after_peek_opens s = peek_opens s s.over refl (next_token limit c s) refl

  -- a peeked session is not over
  abbrev IsSound : Session → Type 0
  IsSound s = s.peeked ≡ true → s.over ≡ false

  sound_scan : (s : Session) → IsSound s → (b : Bool) (o : Option Token) → IsSound (if b then s else after_scan limit c s o)
  sound_scan s h true o = h
  sound_scan s h false None = λ e. absurd (false≢true e)
  sound_scan s h false (Some x) = λ e. absurd (false≢true e)

  sound_peek : (s : Session) → IsSound s → (b : Bool) → s.over ≡ b → (o : Option Token) → IsSound (if b then s else after_peek limit c s o)
  sound_peek s h true e o = h
  sound_peek s h false e None = λ e. absurd (false≢true e)
  sound_peek s h false e (Some x) = λ q. e

  sound_skip : (s : Session) → IsSound s → (b : Bool) (o : Option Token) → IsSound (if b then after_skip s o else s)
  sound_skip s h true None = h
  sound_skip s h true (Some x) = λ e. absurd (false≢true e)
  sound_skip s h false o = h

  same_next : (s t : Session) → s.taken ≡ t.taken → open_token s ≡ open_token t → then_open s.taken (open_token s) ≡ then_open t.taken (open_token t)
  same_next s t e f = ap (λ (n : ℕ). then_open n (open_token s)) e ∙ ap (λ (o : Option Token). then_open t.taken o) f

  count_same : (s t : Session) (m n : ℕ) (o p : Option Token) → s.taken ≡ t.taken → o ≡ p → m ≡ s.taken + count limit c o → n ≡ t.taken + count limit c p → m ≡ n
  count_same s t m n o p e f g h = g ∙ ap (λ (x : ℕ). x + count limit c o) e ∙ ap (λ (x : Option Token). t.taken + count limit c x) f ∙ sym h

  peeks_nothing : (calls : List Call) (s t : Session) → s.taken ≡ t.taken → open_token s ≡ open_token t → IsSound s → skips_peeked limit c calls s ≡ true
      → taken_by limit c calls s ≡ taken_by limit c (without_peeks calls) t
  unfolding taken_by skips_peeked
  peeks_nothing [] s t e f h k = refl
  peeks_nothing (SCAN ∷ calls) s t e f h k =
      let r = peeks_nothing calls (after limit c SCAN s) (after limit c SCAN t) (count_same s t _ _ (open_token s) (open_token t) e f (counts limit c SCAN s) (counts limit c SCAN t))
      (after_scan_opens s ∙ same_next s t e f ∙ sym (after_scan_opens t)) (sound_scan s h s.over (next_token limit c s)) k in
      ap (λ (o : Option Token). o ∷ taken_by limit c calls (after limit c SCAN s)) f ∙ ap (λ (l : List (Option Token)). open_token t ∷ l) r
  peeks_nothing (PEEK ∷ calls) s t e f h k =
      peeks_nothing calls (after limit c PEEK s) t (peek_counts limit c s s.over (next_token limit c s) ∙ e) (after_peek_opens s ∙ f) (sound_peek s h s.over refl (next_token limit c s)) k
  peeks_nothing (SKIP ∷ calls) s t e f h k =
      let p = and_parts s.peeked (skips_peeked limit c calls (after limit c SKIP s)) k in
      let o : s.over ≡ false = h p.0 in
      let a : token_taken limit c SKIP s ≡ open_token s = same_taken s s.peeked s.over p.0 o (next_token limit c s) in
      let b : open_token (after limit c SKIP s) ≡ then_open s.taken (open_token s) = skip_is s s.peeked s.over p.0 o (skip_opens s o (next_token limit c s) refl) in
      let r = peeks_nothing calls (after limit c SKIP s) (after limit c SCAN t) (count_same s t _ _ (token_taken limit c SKIP s) (open_token t) e (a ∙ f) (counts limit c SKIP s) (counts limit c SCAN t))
      (b ∙ same_next s t e f ∙ sym (after_scan_opens t)) (sound_skip s h s.peeked (next_token limit c s)) p.1 in
      ap (λ (x : Option Token). x ∷ taken_by limit c calls (after limit c SKIP s)) (a ∙ f) ∙ ap (λ (l : List (Option Token)). open_token t ∷ l) r
    where
      same_taken : (s : Session) (p o : Bool) → p ≡ true → o ≡ false → (x : Option Token) → (if p then x else None) ≡ (if o then None else x)
      same_taken s p o q r x = rw (q, r) refl

      skip_is : (s : Session) (p o : Bool) → p ≡ true → o ≡ false → open_token (after_skip s (next_token limit c s)) ≡ then_open s.taken (next_token limit c s)
          → open_token (if p then after_skip s (next_token limit c s) else s) ≡ then_open s.taken (if o then None else next_token limit c s)
      skip_is s p o q r w = rw (q, r) w

pub peeks_change_nothing : PeeksChangeNothing
peeks_change_nothing limit c calls k = peeks_nothing limit c calls new_session new_session refl refl (λ e. absurd (false≢true e)) k

-- THE BOUND
pub data IsPaced (limit : ℕ) (c : Course) (s : Session) : Type 0 where
  none : s.steps ≡ 0 → IsPaced limit c s
  first : s.steps ≡ 1 → IsPaced limit c s
  reached : (Y : List Laid) (i : Laid) (P : List Laid) → c.read ≡ Y ++ i ∷ P → s.steps ≡ length P + 2 → length (before limit P) ≤ s.taken → IsPaced limit c s
  faulted : s.steps ≡ length c.read + 1 → length (before limit c.read) ≤ s.taken → IsPaced limit c s

module _ (limit : ℕ) (c : Course) (h : IsHistory limit c.read) where
  paced_later : (s r : Session) → r.steps ≡ s.steps → s.taken ≤ r.taken → IsPaced limit c s → IsPaced limit c r
  paced_later s r e l (none f) = none (e ∙ f)
  paced_later s r e l (first f) = first (e ∙ f)
  paced_later s r e l (reached Y i P q f m) = reached Y i P q (e ∙ f) (omega arith)
  paced_later s r e l (faulted f m) = faulted (e ∙ f) (omega arith)

  paced_pace : (s : Session) → IsPaced limit c s → IsPaced limit c (paced limit c s)
  unfolding pace
  paced_pace s p = elim (cases_lt s.steps (steps_for limit c.read s.taken)) [
    | inr l ↦ paced_later s (paced limit c s) (omega arith) (omega arith) p
    | inl l ↦ (let r = steps_for_is limit c.read s.taken in go r.later r.done r.is r.steps (omega arith))
  ]
    where
      go : (Y P : List Laid) → c.read ≡ Y ++ P → steps_for limit c.read s.taken ≡ length P + 1 → max s.steps (steps_for limit c.read s.taken) ≡ steps_for limit c.read s.taken → IsPaced limit c (paced limit c s)
      go Y [] e f m = first (m ∙ f ∙ omega arith)
      go Y (i ∷ P) e f m =
          let g : steps_for limit c.read s.taken ≡ length P + 2 = omega arith in
          let k : length (before limit P) ≤ s.taken = subst (λ (X : List Laid). steps_for limit X s.taken ≡ length P + 2 → length (before limit P) ≤ s.taken) (sym e) (steps_for_least limit Y i P s.taken) g in
          reached Y i P e (m ∙ g) k

  get_none : (xs : List Token) (n : ℕ) → slice_get xs n ≡ None → length xs ≤ n
  get_none [] n e = omega arith
  get_none (x ∷ xs) zero e = absurd (cc)
  get_none (x ∷ xs) (suc n) e = let r = get_none xs n e in omega arith

  paced_finished : (s : Session) → next_token limit c s ≡ None → IsPaced limit c (finished c s)
  paced_finished s e = go c.begun refl
    where
      go : (b : Bool) → c.begun ≡ b → IsPaced limit c (finished c s)
      go false q = none (rw q refl)
      go true q = faulted (rw q refl) (get_none (before limit c.read) s.taken (rw q at e))

  paced_scan : (s : Session) → IsPaced limit c s → (o : Option Token) → next_token limit c s ≡ o → IsPaced limit c (after_scan limit c s o)
  paced_scan s p None q = paced_finished s q
  paced_scan s p (Some x) q = paced_later (paced limit c s) (took x (paced limit c s)) (omega arith) (omega arith) (paced_pace s p)

  paced_peek : (s : Session) → IsPaced limit c s → (o : Option Token) → next_token limit c s ≡ o → IsPaced limit c (after_peek limit c s o)
  paced_peek s p None q = paced_finished s q
  paced_peek s p (Some x) q = paced_later (paced limit c s) (looked (paced limit c s)) (omega arith) (omega arith) (paced_pace s p)

  paced_skip : (s : Session) → IsPaced limit c s → (o : Option Token) → IsPaced limit c (after_skip s o)
  paced_skip s p None = p
  paced_skip s p (Some x) = paced_later s (took x s) (omega arith) (omega arith) p

  paced_after : (call : Call) (s : Session) → IsPaced limit c s → IsPaced limit c (after limit c call s)
  paced_after SCAN s p = cond_both s.over s (after_scan limit c s (next_token limit c s)) (λ r. IsPaced limit c r) (λ e. p) (λ e. paced_scan s p (next_token limit c s) refl)
  paced_after PEEK s p = cond_both s.over s (after_peek limit c s (next_token limit c s)) (λ r. IsPaced limit c r) (λ e. p) (λ e. paced_peek s p (next_token limit c s) refl)
  paced_after SKIP s p = cond_both s.peeked (after_skip s (next_token limit c s)) s (λ r. IsPaced limit c r) (λ e. paced_skip s p (next_token limit c s)) (λ e. p)

  pub paced_all : (calls : List Call) (s : Session) → IsPaced limit c s → IsPaced limit c (after_all limit c calls s)
  unfolding after_all
  paced_all [] s p = p
  paced_all (call ∷ calls) s p = paced_all calls (after limit c call s) (paced_after call s p)

  queued_nothing : (t : ℕ) → queued [] t [] ≤ 1
  unfolding queued
  queued_nothing t = one (ltb t (length (groups [] [])))
    where
      one : (b : Bool) → (if b then 1 else 0) ≤ 1
      one true = omega arith
      one false = omega arith

  if_le : (b : Bool) (n m : ℕ) → n ≤ m → (if b then 0 else n) ≤ m
  if_le true n m l = omega arith
  if_le false n m l = l

  steps_are : (Y P : List Laid) (s : ℕ) → c.read ≡ Y ++ P → s ≡ length P + 1 → first_steps s c.read ≡ P
  steps_are Y P s e f = let g : s - 1 ≡ length P = omega arith in rw (g, e) (oldest_of Y P)

  pub bound : (s : Session) → IsPaced limit c s → session_queued c s ≤ limit + 1
  bound s (none e) = rw e (omega arith)
  bound s (first e) =
      let q = queued_nothing s.taken in
      let o : first_steps s.steps c.read ≡ [] = drop_all (length c.read - (s.steps - 1)) c.read (omega arith) in
      rw o (if_le (nat_eq s.steps 0) (queued [] s.taken []) (limit + 1) (omega arith))
  bound s (reached Y i P e f l) =
      let g : IsHistory limit (i ∷ P) = IsHistory-older limit Y (i ∷ P) (subst (λ (X : List Laid). IsHistory limit X) e h) in
      let q = queued_few limit i P s.taken g l in
      let o : first_steps s.steps c.read ≡ i ∷ P = steps_are Y (i ∷ P) s.steps e (omega arith) in
      rw o (if_le (nat_eq s.steps 0) _ (limit + 1) q)
  bound s (faulted e l) =
      let q = few_wait limit c.read s.taken h l in
      let o : first_steps s.steps c.read ≡ c.read = steps_are [] c.read s.steps refl e in
      rw o (if_le (nat_eq s.steps 0) _ (limit + 1) (omega arith))

pub few_steps_queued : FewStepsQueued
few_steps_queued limit c calls h = bound limit c h (after_all limit c calls new_session) (paced_all limit c h calls new_session (none refl))
