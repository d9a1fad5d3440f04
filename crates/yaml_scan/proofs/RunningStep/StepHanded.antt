-- What was laid is handed on: into the queue, or straight to a sink.
use Rattle.std.proofs.Common.{◌≡◌, ℕ, ◌+◌, ◌^◌, ◌≤◌, ◌<◌, not, ◌||◌, Bool, true, false, List, [], ◌∷◌, ◌++◌, drop, length, length-append, length-drop, append-nil, append_assoc, Option, None, Some, Ok, Err, refl, ap, sym, ◌∙◌, subst, arith, inl, inr}
use Rattle.std.specs.Prelude.{◌⊎◌, OnOk, Result}
use Rattle.std.specs.VecDeque.{deque_capacity}
use Rattle.std.proofs.lemmas.Bool.{false≢true}
use Rattle.std.proofs.lemmas.List.Folds.{list_any-append}
use Rattle.yaml_text.specs.declared.types.yaml_encoding_t.{yaml_encoding_t}
use Rattle.yaml_text.specs.declared.types.yaml_mark_t.{yaml_mark_t}
use Rattle.yaml_text.specs.declared.token.yaml_token_t.{yaml_token_t as code_token_t}
use Rattle.yaml_text.specs.Token.{token_of}
use Rattle.yaml_scan.specs.Course.{ended}
use Rattle.yaml_scan.specs.declared.stop.stop_t.{stop_t}
use Rattle.yaml_scan.specs.declared.stop.stop_t.TheVariants.{SINK}
use Rattle.yaml_scan.specs.declared.groups.group_t.{group_t}
use Rattle.yaml_scan.specs.declared.queue.queue_t.{queue_t}
use Rattle.yaml_scan.specs.inside.Scanner.{Scanner}
use Rattle.yaml_scan.specs.Groups.{Token, offline}
use Rattle.yaml_lexeme.specs.Counted.{IsMarkOf}
use Rattle.yaml_scan.specs.Kind.{Kind, is_candidate_kind, is_stream_end}
use Rattle.yaml_scan.specs.Laid.{Laid, Lexeme}
use Rattle.yaml_scan.specs.Levels.{laid}
use Rattle.yaml_scan.specs.Token.{unnamed_yaml_token_t_data, yaml_token_t, type_of}
use Rattle.yaml_scan.specs.TokenTypes.{is_last_type}
use Rattle.yaml_scan.specs.Words.{HasWords}
use Rattle.yaml_scan.specs.SourceOf.{source_of}
use Rattle.yaml_scan.specs.Step.{gap_end_of}
use Rattle.yaml_scan.specs.inside.TextReads.{IsDecider, IsRead}
use Rattle.yaml_scan.proofs.RunningStep.HeldBeside.{holds_as}
use Rattle.yaml_scan.proofs.RunningStep.TwoLaid.{read_place}
use Rattle.yaml_lexeme.specs.Lexeme.{Lexeme as yaml_lexeme_t}
use Rattle.yaml_scan.specs.declared.met.met_t.{met_t}
use Rattle.yaml_scan.proofs.SessionCalls.AnswerWords.{read_has_words}
use Rattle.yaml_scan.proofs.Texts.LexemeReads.{decider_silent, read_says}
use Rattle.yaml_scan.specs.inside.Handed.{AllSettled, Empties, HandsOut, IsCut, IsHanded, IsHandedOn, IsLaidAlone, IsLaidAs, IsLaidBoth, IsPushed, LaysTo, WasLaidWith, group_tokens, groups_tokens, is_end, keys_of, lone, made_by, one_done, set_queue, starts_of, told_leads, with_queue}
use Rattle.yaml_scan.specs.inside.Queue.{IsQueue, early_before, leads, pending}
use Rattle.yaml_scan.specs.inside.Scanning.{AdvancesTwice, AdvancesWith, CanLayAll, CanStep, HoldsWith, IsFollower, IsLaidBy, LaysTwo, counted, groups_in}
use Rattle.yaml_scan.proofs.History.KindTests.{candidate_not_end, decider_not_end}
use Rattle.yaml_scan.specs.Sink.{said_len, texts_len}
use Rattle.yaml_scan.specs.declared.groups.block_t.TheVariants.{NONE}
use Rattle.yaml_scan.proofs.RunningQueue.GroupTexts.{group_len, texts_append}
use Rattle.yaml_scan.proofs.RunningQueue.GroupTokens.{count_is, group_no_end, group_some, keys_few, starts_few, cut_after, cut_longer, told_count}
use Rattle.yaml_scan.proofs.TokenList.GroupSizes.{four_tokens_a_step}

-- TOKENS OF GROUPS
pub groups_append : (ys zs : List group_t) → groups_tokens (ys ++ zs) ≡ groups_tokens ys ++ groups_tokens zs
groups_append [] zs = refl
groups_append (y ∷ ys) zs = ap (λ (l : List yaml_token_t). group_tokens y ++ l) (groups_append ys zs) ∙ sym (append_assoc (group_tokens y) (groups_tokens ys) (groups_tokens zs))

-- the queue has at least the tokens of its groups
tokens_within : (e : yaml_encoding_t) (n : ℕ) (m : yaml_mark_t) (ys : List group_t) (xs : List Token) → IsQueue e n m ys xs → length (groups_tokens ys) ≤ length xs
tokens_within e n m [] xs q = omega arith
tokens_within e n m (y ∷ ys) xs q =
    let r = tokens_within e n m ys q.1 q.5 in
    let a = ap (λ (l : List Token). length l) q.2 in
    let b = length-append (pending n m (y ∷ ys)) (q.0 ∷ q.1) in
    let c = length-append (early_before n m ys) (leads y) in
    let d = length-append (group_tokens y) (groups_tokens ys) in
    let f = length-append (told_leads (leads y)) (token_of y.token ∷ []) in
    let g = told_count (leads y) in
    omega arith

-- there are few of them
pub few_tokens : (H : List Laid) (n : ℕ) (s : Scanner) (ys : List group_t) → HoldsWith H n s ys → n < 2 ^ 65 → 0 < length (groups_tokens ys) → s.taken + length (groups_tokens ys) < 2 ^ 128
few_tokens H n s ys h l z =
    let a = tokens_within s.text.encoding s.layout.queue.early s.layout.queue.early_mark ys (drop s.taken (offline H)) h.queue.tokens in
    let b = length-drop s.taken (offline H) in
    let c = four_tokens_a_step s.limit H h.is_history in
    let d = h.number in
    omega arith

-- THE SAME SCANNER WITH ANOTHER QUEUE
queue_holds : (H : List Laid) (n : ℕ) (s : Scanner) (zs : List group_t) (q : queue_t) → q.done ≡ s.layout.queue.done → q.early ≡ s.layout.queue.early → q.early_mark ≡ s.layout.queue.early_mark → HoldsWith H n s zs → HoldsWith H n (with_queue s q) zs
queue_holds H n s zs q D E F h = let k = h.queue in holds_as H n s (with_queue s q) h refl refl refl refl refl refl (record { tokens = rw (E, F) k.tokens; count = rw D k.count; early = λ e. E ∙ k.early e }) h.taken

queue_advances : (H : List Laid) (s t : Scanner) (zs : List group_t) (q : queue_t) → q.done ≡ t.layout.queue.done → q.early ≡ t.layout.queue.early → q.early_mark ≡ t.layout.queue.early_mark → AdvancesWith H s t zs → AdvancesWith H s (with_queue t q) zs
queue_advances H s t zs q D E F a = record {
  lexeme = a.lexeme;
  step = a.step;
  holds = queue_holds (laid s.limit H a.lexeme ∷ H) (s.made + 1 + 1) t zs q D E F a.holds;
  index = a.index;
  within = a.within;
  same = (let e = a.same in record { text = e.text; refusal = e.refusal; near = e.near; limit = e.limit; taken = e.taken; done = D ∙ e.done });
  made = a.made;
}

queue_two : (sparing : Bool) (H : List Laid) (s t : Scanner) (zs : List group_t) (q : queue_t) → q.done ≡ t.layout.queue.done → q.early ≡ t.layout.queue.early → q.early_mark ≡ t.layout.queue.early_mark → LaysTwo sparing H s t zs → LaysTwo sparing H s (with_queue t q) zs
queue_two sparing H s t zs q D E F w = let a = w.0.0 in (
  (
    record { between = a.between; then_queued = a.then_queued; first = a.first; running = a.running; far = a.far; second = queue_advances (laid s.limit H a.first.lexeme ∷ H) (counted a.between) (counted t) zs q D E F a.second },
    w.0.1,
  ),
  w.1,
)

-- ONE LEXEME
ended_is : (limit : ℕ) (H : List Laid) (x : Lexeme) → ended (laid limit H x ∷ H) ≡ is_stream_end x.kind
unfolding laid
ended_is limit H x = refl

module _ (H : List Laid) (s u : Scanner) (k : Kind) (y : group_t) (A : IsLaidAs H s k u (groups_in u ++ y ∷ [])) (FAR : u.reach.index < s.near) (SAYS : is_end (token_of y.token) ≡ is_stream_end k) where
  long : 0 < length (groups_tokens (groups_in u ++ y ∷ []))
  long = let a = ap (λ (l : List yaml_token_t). length l) (groups_append (groups_in u) (y ∷ [])) in let b = length-append (groups_tokens (groups_in u)) (groups_tokens (y ∷ [])) in let c = length-append (group_tokens y) [] in let d = group_some y in omega arith

  -- there is room for what is counted
  pub few_there : s.made + 2 < 2 ^ 64 → u.taken + length (group_tokens y) < 2 ^ 128
  few_there l =
      let h = A.advances.holds in
      let f = few_tokens (laid s.limit H A.advances.lexeme ∷ H) (s.made + 1 + 1) u (groups_in u ++ y ∷ []) h (omega arith) long in
      let a = ap (λ (l : List yaml_token_t). length l) (groups_append (groups_in u) (y ∷ [])) in
      let b = length-append (groups_tokens (groups_in u)) (groups_tokens (y ∷ [])) in
      let c = length-append (group_tokens y) [] in omega arith

  pub done_there : s.made + 2 < 2 ^ 64 → u.layout.queue.done + 1 < 2 ^ 64
  done_there l = let h = A.advances.holds in let a = h.queue.count in let b = h.number in let c = length-append (groups_in u) (y ∷ []) in omega arith

  module _ (direct waits : Bool) (LAST : waits ≡ false → is_stream_end k ≡ false) (NONE : waits ≡ false → u.slots.awaited ≡ 0) (ALONE : waits ≡ false → groups_in u ≡ []) (t : Scanner) (took : List yaml_token_t → Type 0) (refuses : Type 0) where
    settled_all : waits ≡ false → AllSettled u (groups_in u ++ y ∷ []) (group_tokens y)
    settled_all w = record {
      awaited = NONE w;
      early = A.advances.holds.queue.early (ended_is s.limit H A.advances.lexeme ∙ ap is_stream_end A.kind ∙ LAST w);
      tokens_are = rw (ALONE w) (sym (append-nil (group_tokens y)));
      no_end = group_no_end y (SAYS ∙ LAST w);
    }

    queued : IsPushed u.layout.queue y t.layout.queue → t ≡ with_queue u t.layout.queue → IsLaidBy true H s t (groups_in t) 1
    queued p e =
        let a : AdvancesWith H s (with_queue u t.layout.queue) (groups_in t) = subst (λ (zs : List group_t). AdvancesWith H s (with_queue u t.layout.queue) zs) (sym p.groups) (queue_advances H s u (groups_in u ++ y ∷ []) t.layout.queue p.done p.early p.early_mark A.advances) in
        subst (λ (z : Scanner). IsLaidBy true H s z (groups_in t) 1) (sym e) (inl (refl, a, FAR))

    emptied : waits ≡ false → (tokens : List yaml_token_t) → tokens ≡ group_tokens y → t ≡ set_queue u (one_done u.layout.queue) (u.taken + length tokens) → Empties u (groups_in u ++ y ∷ []) t tokens
    emptied w tokens T e =
        let S = settled_all w in
        let f : Empties u (groups_in u ++ y ∷ []) (set_queue u (one_done u.layout.queue) (u.taken + length tokens)) tokens = record {
          all = subst (λ (ts : List yaml_token_t). AllSettled u (groups_in u ++ y ∷ []) ts) (sym T) S;
          same = refl;
          early = S.early;
          groups = ALONE w;
          done = rw (ALONE w) refl;
        } in subst (λ (z : Scanner). Empties u (groups_in u ++ y ∷ []) z tokens) (sym e) f

    pub one_handed : (o : Result (Unit {0}) stop_t) → IsHandedOn direct waits u t y took refuses o → LaysTo H s t direct took refuses (made_by 1 o)
    one_handed (Ok x) g = elim g.1 [
      | inl p ↦ (g.0, t, groups_in t, true, queued p.2 p.3, inl (refl, p.1, refl, refl), g.2)
      | inr p ↦ (g.0, u, groups_in u ++ y ∷ [], false, inl (refl, A.advances, FAR), inr (p.0, emptied p.1 g.0 p.2 p.3), g.2)
    ]
    one_handed (Err stop) g = (g.2, (1, group_tokens y, u, groups_in u ++ y ∷ [], inl (refl, A.advances, FAR), g.0, settled_all g.1, g.3), g.4)

-- THE LEXEME OF A STEP
module _ (H : List Laid) (s : Scanner) (r : met_t) (x : yaml_lexeme_t) (c : CanLayAll H s r x) where
  read_there : IsRead s.text.chars r.kind r.context.depth r.context.level (gap_end_of (source_of s.text.chars) H) x
  read_there = c.read (gap_end_of (source_of s.text.chars) H) c.can.met.gap_end

  pub words_there : (d : unnamed_yaml_token_t_data) → d ≡ x.token_data → HasWords d
  words_there d e = subst (λ (z : unnamed_yaml_token_t_data). HasWords z) (sym e) (read_has_words s.text.chars r.kind r.context.depth r.context.level (gap_end_of (source_of s.text.chars) H) x read_there)

  pub says_there : (d : unnamed_yaml_token_t_data) → d ≡ x.token_data → is_last_type (type_of d) ≡ is_stream_end r.kind
  says_there d e = ap (λ (z : unnamed_yaml_token_t_data). is_last_type (type_of z)) e ∙ (let w = read_says s.text.chars r.kind r.context.depth r.context.level (gap_end_of (source_of s.text.chars) H) x read_there in w.last)

  pub far_there : (m : yaml_mark_t) → m ≡ x.reach → m.index < s.near
  far_there m e = subst (λ (z : yaml_mark_t). z.index < s.near) (sym e) c.far

-- A LEXEME AND WHAT DECIDES IT
-- groups that go into the queue are of steps that the next token needs
is_sparing : (direct waits : Bool) → (waits ≡ false → direct ≡ true) → (direct ≡ true → waits ≡ true) → waits ≡ true
is_sparing direct true f g = refl
is_sparing direct false f g = g (f refl)

module _ (H : List Laid) (s u : Scanner) (direct waits : Bool) (y : group_t) (second : code_token_t) (B : IsLaidBoth H s u direct waits y second) where
  abbrev z : group_t
  z = lone second

  abbrev both : List group_t
  both = groups_in u ++ y ∷ (z ∷ [])

  abbrev a : AdvancesTwice H s (counted u) both
  a = B.laid.0.0

  abbrev H1 : List Laid
  H1 = laid s.limit H a.first.lexeme ∷ H

  both_long : length (group_tokens y) + length (group_tokens z) ≤ length (groups_tokens both)
  both_long =
      let e = ap (λ (ts : List yaml_token_t). length ts) (groups_append (groups_in u) (y ∷ (z ∷ []))) in
      let a = length-append (groups_tokens (groups_in u)) (groups_tokens (y ∷ (z ∷ []))) in
      let b = length-append (group_tokens y) (groups_tokens (z ∷ [])) in
      let c = length-append (group_tokens z) [] in omega arith

  pub few_both : u.taken + (length (group_tokens y) + length (group_tokens z)) < 2 ^ 128
  few_both =
      let b = both_long in
      let d = group_some y in
      let m = a.first.made in
      let few = B.few in
      let f = few_tokens (laid a.between.limit H1 a.second.lexeme ∷ H1) ((counted a.between).made + 1 + 1) (counted u) both a.second.holds (omega arith) (omega arith) in omega arith

  pub done_both : u.layout.queue.done + 2 < 2 ^ 64
  done_both =
      let m = a.first.made in
      let h = a.second.holds in
      let e = h.queue.count in
      let n = h.number in
      let few = B.few in
      let b = length-append (groups_in u) (y ∷ (z ∷ [])) in omega arith

  both_settled : waits ≡ false → AllSettled u both (group_tokens y ++ group_tokens z)
  both_settled straight = record {
    awaited = B.awaited straight;
    early = B.early;
    tokens_are = rw (B.alone straight) (ap (λ (l : List yaml_token_t). group_tokens y ++ l) (sym (append-nil (group_tokens z))));
    no_end = list_any-append is_end (group_tokens y) (group_tokens z) ∙ (rw (group_no_end y B.no_end, group_no_end z B.decider_no_end) refl);
  }

  laid_all : waits ≡ false → IsLaidBy false H s u both 2
  laid_all w = subst (λ (b : Bool). IsLaidBy b H s u both 2) w (inr (refl, B.laid))

  module _ (t v : Scanner) (took : List yaml_token_t → Type 0) (refuses : Type 0) where
    both_queued : IsPushed u.layout.queue y t.layout.queue → t ≡ with_queue u t.layout.queue → IsPushed t.layout.queue z v.layout.queue → v ≡ with_queue t v.layout.queue → IsLaidBy waits H s v (groups_in v) 2
    both_queued p e q f =
        let G : groups_in v ≡ both = q.groups ∙ ap (λ (ys : List group_t). ys ++ z ∷ []) p.groups ∙ append_assoc (groups_in u) (y ∷ []) (z ∷ []) in
        let w : LaysTwo waits H s (with_queue u v.layout.queue) (groups_in v) = subst (λ (zs : List group_t). LaysTwo waits H s (with_queue u v.layout.queue) zs) (sym G) (queue_two waits H s u both v.layout.queue (q.done ∙ p.done) (q.early ∙ p.early) (q.early_mark ∙ p.early_mark) B.laid) in
        let F : v ≡ with_queue u v.layout.queue = f ∙ ap (λ (x : Scanner). with_queue x v.layout.queue) e in
        inr (refl, subst (λ (x : Scanner). LaysTwo waits H s x (groups_in v)) (sym F) w)

    both_emptied : waits ≡ false → (k l : List yaml_token_t) → k ≡ group_tokens y → l ≡ group_tokens z → t ≡ set_queue u (one_done u.layout.queue) (u.taken + length k) → v ≡ set_queue t (one_done t.layout.queue) (t.taken + length l) → Empties u both v (k ++ l)
    both_emptied straight k l K M e f =
        let S : AllSettled u both (k ++ l) = subst (λ (ts : List yaml_token_t). AllSettled u both ts) (sym (ap (λ (ts : List yaml_token_t). ts ++ l) K ∙ ap (λ (ts : List yaml_token_t). group_tokens y ++ ts) M)) (both_settled straight) in
        let F : v ≡ set_queue (set_queue u (one_done u.layout.queue) (u.taken + length k)) (one_done (one_done u.layout.queue)) (u.taken + length k + length l) = f ∙ ap (λ (x : Scanner). set_queue x (one_done x.layout.queue) (x.taken + length l)) e in
        let n : u.taken + length k + length l ≡ u.taken + length (k ++ l) = (let a = length-append k l in omega arith) in
        let alone = ap (λ (ys : List group_t). length ys) (B.alone straight) in
        let w : Empties u both (set_queue (set_queue u (one_done u.layout.queue) (u.taken + length k)) (one_done (one_done u.layout.queue)) (u.taken + length k + length l)) (k ++ l) = record {
          all = S;
          same = ap (λ (i : ℕ). set_queue u (one_done (one_done u.layout.queue)) i) n;
          early = B.early;
          groups = B.alone straight;
          done = rw (B.alone straight) (omega arith);
        } in subst (λ (x : Scanner). Empties u both x (k ++ l)) (sym F) w

    both_handed : (k l : List yaml_token_t) → IsHanded direct waits u t y k → IsHanded direct waits t v z l → took (k ++ l) → LaysTo H s v direct took refuses (Ok 2)
    both_handed k l (inl p) (inl q) g = ([], v, groups_in v, waits, both_queued p.2 p.3 q.2 q.3, inl (is_sparing direct waits B.straight p.0, refl, refl, refl), subst took (ap (λ (ts : List yaml_token_t). ts ++ l) p.1 ∙ q.1) g)
    both_handed k l (inl p) (inr q) g = absurd (false≢true (sym q.1 ∙ p.0 q.0))
    both_handed k l (inr p) (inl q) g = absurd (false≢true (sym p.1 ∙ q.0 p.0))
    both_handed k l (inr p) (inr q) g = (k ++ l, u, both, waits, inr (refl, B.laid), inr (p.0, both_emptied p.1 k l p.2 q.2 p.3 q.3), g)

    cut : (stop : stop_t) → direct ≡ true → waits ≡ false → stop ≡ SINK → IsCut took (group_tokens y ++ group_tokens z) → refuses → LaysTo H s v direct took refuses (Err stop)
    cut stop d w e c r = (e, (2, group_tokens y ++ group_tokens z, u, both, laid_all w, d, both_settled w, c), r)

    -- a token of the first was refused
    pub first_cut : (stop : stop_t) → IsHandedOn direct waits u v y took refuses (Err stop) → LaysTo H s v direct took refuses (Err stop)
    first_cut stop c = cut stop c.0 c.1 c.2 (cut_longer took (group_tokens y) (group_tokens z) c.3) c.4

  -- what was given of the first
  first_given : (v : Scanner) (k : List yaml_token_t) → direct ≡ true → waits ≡ false → IsHanded direct waits u v y k → k ≡ group_tokens y
  first_given v k d w (inl p) = absurd (false≢true (sym w ∙ p.0 d))
  first_given v k d w (inr p) = p.2

  -- the scanner after the first
  pub first_done : (v : Scanner) (k : List yaml_token_t) → IsHanded direct waits u v y k → (length (groups_in v) < deque_capacity v.layout.queue.groups) × (v.layout.queue.done + 1 < 2 ^ 64) × (v.taken + length (group_tokens z) < 2 ^ 128)
  first_done v k (inl p) =
      let q = p.2 in
      let n = ap (λ (ys : List group_t). length ys) q.groups in
      let g = length-append (groups_in u) (y ∷ []) in
      let c = q.capacity in
      let d = q.done in
      let e = ap (λ (x : Scanner). x.taken) p.3 in
      let R = B.room in
      let D = done_both in
      let T = few_both in
      (omega arith, omega arith, omega arith)
  first_done v k (inr p) =
      let n = ap (λ (x : Scanner). length (groups_in x)) p.3 in
      let m = ap (λ (ys : List group_t). length ys) (B.alone p.1) in
      let c = ap (λ (x : Scanner). deque_capacity x.layout.queue.groups) p.3 in
      let d = ap (λ (x : Scanner). x.layout.queue.done) p.3 in
      let e = ap (λ (x : Scanner). x.taken) p.3 in
      let l = ap (λ (ts : List yaml_token_t). length ts) p.2 in
      let R = B.room in
      let D = done_both in
      let T = few_both in
      (omega arith, omega arith, omega arith)

  module _ (v w : Scanner) {S : Type 0} (took : S → List yaml_token_t → S → Type 0) (more : (a b c : S) (xs ys : List yaml_token_t) → took a xs b → took b ys c → took a (xs ++ ys) c) (a b c : S) (refuses : Type 0) where
    -- the second was handed on, or it was refused
    pub both_done : (k : List yaml_token_t) → IsHanded direct waits u v y k → took a k b → (o : Result (Unit {0}) stop_t) → IsHandedOn direct waits v w z (λ ts. took b ts c) refuses o → LaysTo H s w direct (λ ts. took a ts c) refuses (made_by 2 o)
    both_done k p g (Ok x) e = both_handed v w (λ ts. took a ts c) refuses k e.0 p e.1 (more a b c k e.0 g e.2)
    both_done k p g (Err stop) e =
        let q : IsCut (λ ts. took a ts c) (k ++ group_tokens z) = cut_after took more a b c k (group_tokens z) g e.3 in
        cut v w (λ ts. took a ts c) refuses stop e.0 e.1 e.2 (subst (λ (l : List yaml_token_t). IsCut (λ ts. took a ts c) (l ++ group_tokens z)) (first_given v k e.0 e.1 p) q) e.4

-- WHAT A STEP HAS LAID
-- its group can be handed on
pub can_hand : (H : List Laid) (s u : Scanner) (direct waits : Bool) (y : group_t) (o : Option code_token_t) → WasLaidWith H s u direct waits y o → (length (groups_in u) < deque_capacity u.layout.queue.groups) × HasWords (token_of y.token).token_data × (u.layout.queue.done + 1 < 2 ^ 64) × (u.taken + length (group_tokens y) < 2 ^ 128)
can_hand H s u direct waits y None w = let A = w.1 in (A.room, A.words, done_there H s u w.0 y A.laid A.far A.says A.few, few_there H s u w.0 y A.laid A.far A.says A.few)
can_hand H s u direct waits y (Some t) B =
    let r = B.room in
    let d = done_both H s u direct waits y t B in
    let f = few_both H s u direct waits y t B in
    (omega arith, B.words, omega arith, omega arith)

-- with what decides it
pub both_laid : (H : List Laid) (s u : Scanner) (direct waits : Bool) (y : group_t) (o : Option code_token_t) (z : code_token_t) → o ≡ Some z → WasLaidWith H s u direct waits y o → IsLaidBoth H s u direct waits y z
both_laid H s u direct waits y o z e w = subst (λ (p : Option code_token_t). WasLaidWith H s u direct waits y p) e w

-- it was handed on alone
pub alone_handed : (H : List Laid) (s u : Scanner) (direct : Bool) (k : Kind) (waits : Bool) (y : group_t) → IsLaidAlone H s u k waits y → (t : Scanner) (took : List yaml_token_t → Type 0) (refuses : Type 0) (o : Result (Unit {0}) stop_t) → IsHandedOn direct waits u t y took refuses o → LaysTo H s t direct took refuses (made_by 1 o)
alone_handed H s u direct k waits y A t took refuses o g = one_handed H s u k y A.laid A.far A.says direct waits A.last A.awaited A.alone t took refuses o g

pub alone_done : (H : List Laid) (s u : Scanner) (direct waits : Bool) (y : group_t) (o : Option code_token_t) → o ≡ None → WasLaidWith H s u direct waits y o → (t : Scanner) (took : List yaml_token_t → Type 0) (refuses : Type 0) (r : Result (Unit {0}) stop_t) → IsHandedOn direct waits u t y took refuses r → LaysTo H s t direct took refuses (made_by 1 r)
alone_done H s u direct waits y o e w t took refuses r g =
    let v : WasLaidWith H s u direct waits y None = subst (λ (p : Option code_token_t). WasLaidWith H s u direct waits y p) e w in
    alone_handed H s u direct v.0 waits y v.1 t took refuses r g

-- or a token of it was refused
pub cut_done : (H : List Laid) (s u : Scanner) (direct waits : Bool) (y : group_t) (o : Option code_token_t) → WasLaidWith H s u direct waits y o → (t : Scanner) (took : List yaml_token_t → Type 0) (refuses : Type 0) (stop : stop_t) → IsHandedOn direct waits u t y took refuses (Err stop) → LaysTo H s t direct took refuses (Err stop)
cut_done H s u direct waits y None w t took refuses stop g = alone_done H s u direct waits y None refl w t took refuses (Err stop) g
cut_done H s u direct waits y (Some z) B t took refuses stop g = first_cut H s u direct waits y z B u t took refuses stop g

-- what was given of both: nothing, or all, for which there was room
pub both_given : (direct waits : Bool) (u t v : Scanner) (y z : group_t) (k l : List yaml_token_t) → IsHanded direct waits u t y k → IsHanded direct waits t v z l → ((k ≡ []) × (l ≡ [])) ⊎ ((waits ≡ false) × (k ≡ group_tokens y) × (l ≡ group_tokens z))
both_given direct waits u t v y z k l (inl p) (inl q) = inl (p.1, q.1)
both_given direct waits u t v y z k l (inl p) (inr q) = absurd (false≢true (sym q.1 ∙ p.0 q.0))
both_given direct waits u t v y z k l (inr p) (inl q) = absurd (false≢true (sym p.1 ∙ q.0 p.0))
both_given direct waits u t v y z k l (inr p) (inr q) = inr (p.1, p.2, q.2)

-- WHAT COMES RIGHT AFTER A CANDIDATE
module _ (H : List Laid) (s : Scanner) (r : met_t) (x : yaml_lexeme_t) (c : CanLayAll H s r x) (candidate : is_candidate_kind r.kind ≡ true) (k : Kind) (w : yaml_lexeme_t) (d : (p : ℕ) → IsMarkOf s.text.chars x.reach p → IsDecider s.text.chars r.in_flow p k w) where
  decider_there : IsDecider s.text.chars r.in_flow (read_place H s r x c candidate).0 k w
  decider_there = let p = read_place H s r x c candidate in d p.0 p.1

  pub decider_words : (t : unnamed_yaml_token_t_data) → t ≡ w.token_data → HasWords t
  decider_words t e =
      let p = read_place H s r x c candidate in
      subst (λ (z : unnamed_yaml_token_t_data). HasWords z) (sym e) (read_has_words s.text.chars k 0 None p.0 w (let q = decider_there in q.read 0 None))

  pub decider_says : (t : unnamed_yaml_token_t_data) → t ≡ w.token_data → is_last_type (type_of t) ≡ false
  decider_says t e =
      let p = read_place H s r x c candidate in
      let q = decider_there in
      ap (λ (z : unnamed_yaml_token_t_data). is_last_type (type_of z)) e
      ∙ (let v = read_says s.text.chars k 0 None p.0 w (q.read 0 None) in v.last)
      ∙ decider_not_end r.in_flow k q.decides

  pub candidate_says : (t : unnamed_yaml_token_t_data) → t ≡ x.token_data → is_last_type (type_of t) ≡ false
  candidate_says t e = says_there H s r x c t e ∙ candidate_not_end r.kind candidate

  pub early_there : (q : queue_t) → q ≡ s.layout.queue → q.early ≡ 0
  early_there q e = ap (λ (z : queue_t). z.early) e ∙ c.can.can.holds.queue.early c.can.can.running

  -- it has no text
  pub decider_len : (t : unnamed_yaml_token_t_data) → t ≡ w.token_data → said_len t ≡ 0
  decider_len t e =
      let p = read_place H s r x c candidate in
      let q = decider_there in
      ap said_len e ∙ decider_silent s.text.chars r.in_flow k 0 None p.0 w q.decides (q.read 0 None)

-- WHAT FOLLOWS, WAITING OR NOT
module _ (s : Scanner) (sparing : Bool) (r : met_t) (at : yaml_mark_t) where
  pub follower_candidate : (waits : Bool) (k : Kind) (w : yaml_lexeme_t) → IsFollower s sparing r at waits k w → is_candidate_kind r.kind ≡ true
  follower_candidate true k w f = let u = f.waits in u.candidate
  follower_candidate false k w f = let u = f.undecided in u.candidate

  pub follower_decides : (waits : Bool) (k : Kind) (w : yaml_lexeme_t) → IsFollower s sparing r at waits k w → (p : ℕ) → IsMarkOf s.text.chars at p → IsDecider s.text.chars r.in_flow p k w
  follower_decides true k w f = f.decider
  follower_decides false k w f = f.decider

  -- both find room in the queue
  pub follower_room : (waits : Bool) (k : Kind) (w : yaml_lexeme_t) → IsFollower s sparing r at waits k w → (q : queue_t) → q ≡ s.layout.queue → length q.groups.items + 1 < deque_capacity q.groups
  follower_room true k w f q e =
      let u = f.waits in
      let l = u.room in
      let n = ap (λ (z : queue_t). length z.groups.items) e in
      let m = ap (λ (z : queue_t). deque_capacity z.groups) e in omega arith
  follower_room false k w f q e =
      let u = f.undecided in
      let l = u.room in
      let n = ap (λ (z : queue_t). length z.groups.items) e in
      let i = ap (λ (ys : List group_t). length ys) u.alone in
      let m = ap (λ (z : queue_t). deque_capacity z.groups) e in omega arith

  -- what does not wait is alone
  pub follower_alone : (waits : Bool) (k : Kind) (w : yaml_lexeme_t) → IsFollower s sparing r at waits k w → waits ≡ false → (q : queue_t) → q ≡ s.layout.queue → q.groups.items ≡ []
  follower_alone true k w f z q e = absurd (false≢true (sym z))
  follower_alone false k w f z q e = ap (λ (i : queue_t). i.groups.items) e ∙ (let u = f.undecided in u.alone)

-- fewer groups were taken than steps can be made
pub few_queued : (H : List Laid) (s : Scanner) → CanStep H s → s.layout.queue.done + 1 < 2 ^ 64
few_queued H s c = let a = c.holds.queue.count in let b = c.holds.number in let d = c.few_steps in omega arith

-- GROUPS THAT GO TO A SINK IF IT HAS ROOM
-- as many tokens as are counted on, with no more texts
pub few_given : (y z : group_t) (n m : ℕ) → z.ends ≡ 0 → z.opens ≡ NONE → z.key ≡ false → y.ends ≤ n → said_len (token_of y.token).token_data ≤ m → said_len (token_of z.token).token_data ≡ 0
    → (length (group_tokens y ++ group_tokens z) ≤ n + 4) × (texts_len (group_tokens y ++ group_tokens z) ≤ m)
few_given y z n m E O K f a b =
    let p = count_is y in
    let q = count_is z in
    let l = length-append (group_tokens y) (group_tokens z) in
    let v = texts_append (group_tokens y) (group_tokens z) in
    let g = group_len y in
    let h = group_len z in
    let i = starts_few y.opens in
    let j = keys_few y.key in
    let o = ap starts_of O in
    let k = ap keys_of K in
    (omega arith, omega arith)

-- nor if it is one group
pub few_one : (y : group_t) (n m : ℕ) → y.ends ≤ n → said_len (token_of y.token).token_data ≤ m → (length (group_tokens y) ≤ n + 4) × (texts_len (group_tokens y) ≤ m)
few_one y n m f a =
    let p = count_is y in
    let g = group_len y in
    let i = starts_few y.opens in
    let j = keys_few y.key in
    (omega arith, omega arith)

-- what is known if a group went into the queue, and if it went to the sink
pub known_after : (D waits : Bool) (u t : Scanner) (y : group_t) (took : List yaml_token_t → Type 0) (refuses W : Type 0) → (took [] → W) → (waits ≡ false → took (group_tokens y) → W) → (o : Result (Unit {0}) stop_t) → IsHandedOn D waits u t y took refuses o → OnOk o W
known_after D waits u t y took refuses W none all (Ok x) w = elim w.1 [
  | inl p ↦ none (subst took p.1 w.2)
  | inr p ↦ all p.1 (subst took p.2 w.2)
]
known_after D waits u t y took refuses W none all (Err stop) w = tt

-- what is not queued need not wait, and goes straight
pub not_queued : (waits direct : Bool) → (waits || not direct) ≡ false → (waits ≡ false) × (direct ≡ true)
not_queued true direct e = absurd (false≢true (sym e))
not_queued false true e = (refl, refl)
not_queued false false e = absurd (false≢true (sym e))

-- THE NUMBER OF STEPS
pub laid_few : (H : List Laid) (s u : Scanner) (direct waits : Bool) (y : group_t) (o : Option code_token_t) → WasLaidWith H s u direct waits y o → s.made + 2 < 2 ^ 64
laid_few H s u direct waits y None w = let A = w.1 in A.few
laid_few H s u direct waits y (Some z) B = B.few

made_by_laid : (sparing : Bool) (H : List Laid) (s t : Scanner) (zs : List group_t) (n : ℕ) → IsLaidBy sparing H s t zs n → (t.made ≡ s.made) × (n ≤ 2)
made_by_laid sparing H s t zs n (inl w) = let a = w.1 in let e = a.made in let f = w.0 in (e, omega arith)
made_by_laid sparing H s t zs n (inr w) =
    let a = w.1.0.0 in
    let e = a.first.made in
    let f = a.second.made in
    let g = w.0 in (omega arith, omega arith)

made_of : (direct sparing : Bool) (m : Scanner) (zs : List group_t) (t : Scanner) (tokens : List yaml_token_t) → HandsOut direct sparing m zs t tokens → t.made ≡ m.made
made_of direct sparing m zs t tokens (inl w) = ap (λ (z : Scanner). z.made) w.2
made_of direct sparing m zs t tokens (inr w) = let e = w.1 in ap (λ (z : Scanner). z.made) e.same

-- there is room for what is counted
pub few_made : (H : List Laid) (s t : Scanner) (direct : Bool) (took : List yaml_token_t → Type 0) (refuses : Type 0) (n : ℕ) → LaysTo H s t direct took refuses (Ok n) → s.made + 2 < 2 ^ 64 → t.made + n < 2 ^ 64
few_made H s t direct took refuses n w l =
    let a = made_by_laid w.3 H s w.1 w.2 n w.4 in
    let b = made_of direct w.3 w.1 w.2 t w.0 w.5 in
    let c = a.0 in
    let d = a.1 in omega arith
