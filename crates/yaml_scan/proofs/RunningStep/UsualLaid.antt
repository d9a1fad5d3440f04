-- A scalar that is met where nothing is queued, and that closes no level: a key in the column of a level is laid with the
-- `:` after it, and a value alone. Levels and candidates stay as they are.
use Rattle.std.proofs.Common.{◌≡◌, ℕ, ◌+◌, ◌<◌, ◌≤◌, not, ◌&&◌, Bool, true, false, List, [], ◌∷◌, ◌++◌, reverse, filter, length, Option, Some, None, refl, ap, sym, ◌∙◌, subst, arith, vec_len, le-leb, le-ltb}
use Rattle.std.specs.Prelude.{if◌then◌else◌, nat_lt}
use Rattle.std.specs.VecDeque.{deque_capacity}
use Rattle.std.proofs.lemmas.Bool.{false≢true}
use Rattle.yaml_text.specs.declared.types.yaml_mark_t.{yaml_mark_t}
use Rattle.yaml_text.specs.declared.token.yaml_token_t.{yaml_token_t as code_token_t}
use Rattle.yaml_text.specs.Token.{token_of}
use Rattle.yaml_lexeme.specs.Counted.{IsMarkOf}
use Rattle.yaml_lexeme.specs.Decider.{decides}
use Rattle.yaml_lexeme.specs.LexemeOf.{part_from}
use Rattle.yaml_lexeme.specs.declared.lexeme.yaml_part_t.{yaml_part_t}
use Rattle.yaml_lexeme.specs.Lexeme.{Lexeme as yaml_lexeme_t}
use Rattle.yaml_scan.specs.declared.groups.block_t.TheVariants.{NONE}
use Rattle.yaml_scan.specs.declared.groups.group_t.{group_t}
use Rattle.yaml_scan.specs.declared.met.met_t.{met_t}
use Rattle.yaml_scan.specs.Allowed.{allows}
use Rattle.yaml_scan.specs.Falling.{IsFalling}
use Rattle.yaml_scan.specs.Kind.{Kind, is_candidate_kind, is_flow_start, is_value}
use Rattle.yaml_scan.specs.Laid.{Laid}
use Rattle.yaml_scan.specs.Levels.{greatest_level, stays}
use Rattle.yaml_scan.specs.SourceOf.{source_of}
use Rattle.yaml_scan.specs.Step.{gap_end_of, problem_of}
use Rattle.yaml_scan.specs.inside.Handed.{IsLaidAlone, IsLaidBoth, group_with, lone}
use Rattle.yaml_scan.specs.inside.Opened.{is_new}
use Rattle.yaml_scan.specs.inside.Queue.{closing}
use Rattle.yaml_scan.specs.inside.Scanner.{Scanner}
use Rattle.yaml_scan.specs.inside.Scanning.{Beside, CanLayAll, CanRead, Comes, HasRoom, Holds, IsDecided, LaysTwo, allowed_in, cleared_in, groups_in, met_in, refused_in}
use Rattle.yaml_scan.specs.inside.Slots.{Held, held_step, is_level, is_live, lowest, needed, nested_outer, nested_top}
use Rattle.yaml_scan.specs.inside.TextReads.{IsDecider, IsRead}
use Rattle.yaml_scan.proofs.History.KindTests.{candidate_not_closer, candidate_not_end, candidate_not_entry, candidate_not_flow_end, candidate_not_key, candidate_not_value, candidate_opens_nothing}
use Rattle.yaml_scan.proofs.History.KindTests.{decider_is_value, decider_no_start, value_allows_none, value_no_end}
use Rattle.yaml_scan.proofs.History.LevelsFall.{level_first}
use Rattle.yaml_scan.proofs.RunningQueue.NoCandidates.{all_empty, none_at_all, none_given_up, none_lost}
use Rattle.yaml_scan.proofs.RunningQueue.NoneAwaited.{lowest_front}
use Rattle.yaml_scan.proofs.RunningStep.DecidedLaid as decided
use Rattle.yaml_scan.proofs.RunningStep.DecidedLaid.{live_kept}
use Rattle.yaml_scan.proofs.RunningStep.LentTokens.{part_can}
use Rattle.yaml_scan.proofs.RunningStep.LevelStack.{all_kept, none_closed}
use Rattle.yaml_scan.proofs.RunningStep.StepHanded.{candidate_says, decider_says, decider_words, says_there, words_there}
use Rattle.yaml_scan.proofs.RunningStep.StepLaid.{put_in}
use Rattle.yaml_scan.proofs.RunningStep.StepMoves.{ready}
use Rattle.yaml_scan.proofs.RunningStep.StepPut.{put_advances}
use Rattle.yaml_scan.proofs.RunningStep.StepTests.{can_put, falls_in, met_there}
use Rattle.yaml_scan.proofs.RunningStep.TwoLaid.{and_not, read_ends, read_place}

-- WITHOUT CANDIDATES
module _ (H : List Laid) (s : Scanner) (h : Holds H (s.made + 1) s) (ALONE : groups_in s ≡ []) where
  pub none : (lowest s.slots.outer.items ≡ None) × (s.slots.top ≡ None)
  none = lowest_front s.slots.outer.items s.slots.top (none_at_all H (s.made + 1) s h ALONE)

  pub none_waits : s.slots.awaited ≡ 0
  none_waits = h.keys.awaited ∙ ap held_step (none_at_all H (s.made + 1) s h ALONE)

-- WITHIN A LEVEL
pub closes_none : (k : Kind) (m : yaml_mark_t) (cs : List ℕ) (l : ℕ) → IsFalling cs → is_candidate_kind k ≡ true → greatest_level cs ≡ Some l → l ≤ m.column → closing false k m cs ≡ None
closes_none k m [] l f q e w = refl
closes_none k m (c ∷ cs) l f q e w =
    let s : Some c ≡ Some l = sym (level_first c cs f) ∙ e in
    let t : c ≡ l = cc in
    rw (candidate_not_closer k q, le-leb c m.column (omega arith)) refl

pub opens_none : (column : ℕ) (cs : List ℕ) (l : ℕ) → greatest_level cs ≡ Some l → column ≤ l → is_new false column cs ≡ false
opens_none column cs l e w = rw (e, le-ltb l column w) refl

-- IT CAN BE READ
not_refused : (b lone : Bool) (k : Kind) → is_candidate_kind k ≡ true → (if b then problem_of k lone else None) ≡ None
not_refused true lone k q = rw (candidate_not_entry k q, candidate_not_key k q, candidate_not_value k q) refl
not_refused false lone k q = refl

not_cleared : (b : Bool) (limit : ℕ) (m : yaml_mark_t) (top : Option Held) → top ≡ None → (if b then needed limit m top else None) ≡ None
not_cleared true limit m top e = rw e refl
not_cleared false limit m top e = refl

beside_itself : (s : Scanner) → Beside s s
beside_itself s = record { text = refl; refusal = refl; near = refl; limit = refl; outer = refl; depth = refl; empty = refl; top = refl; awaited = refl; allowed = refl; levels = refl; groups = refl; done = refl; early = refl; early_mark = refl; reach = refl; gap_end = refl; taken = refl; made = refl }

pub can_read : (H : List Laid) (s : Scanner) (f : Bool) (k : Kind) → Comes H s f k → is_candidate_kind k ≡ true → groups_in s ≡ [] → HasRoom s f k → closing f k s.gap_end (reverse s.layout.levels.items) ≡ None
    → (a : Bool) → a ≡ allowed_in s f → (l : Option ℕ) → l ≡ greatest_level (reverse s.layout.levels.items) → (new : Held) → new ≡ record { step = s.made + 1; start = s.gap_end; required = is_level f l s.gap_end.column }
    → (d : ℕ) → d ≡ vec_len s.slots.outer → CanRead H s (record { kind = k; in_flow = f; allowed = a; new = new; context = record { depth = d; level = l } })
can_read H s f k w Q ALONE room kept a A l L new N d D =
    let holds = w.passes.can.holds in
    let top = (none H s holds ALONE).1 in
    let refused : refused_in s f k (allowed_in s f) ≡ None = not_refused (not f && not (allowed_in s f)) _ k Q in
    let cleared : cleared_in s f k (allowed_in s f) ≡ None = not_cleared _ s.limit s.gap_end s.slots.top top in
    let falls = falls_in H (s.made + 1) s holds in
    let r : met_t = record { kind = k; in_flow = f; allowed = a; new = new; context = record { depth = d; level = l } } in
    let start : new.start ≡ s.gap_end = ap (λ (n : Held). n.start) N in
    let all : reverse s.layout.levels.items ≡ filter (stays f k new.start) (reverse s.layout.levels.items) = rw start (sym (all_kept f k s.gap_end (reverse s.layout.levels.items) falls kept)) in
    ready H s s f k w (met_there H s f w.passes k w.is_kind refused cleared) (beside_itself s) r room refl A
    record {
      flow = w.passes.flow;
      is_greatest = L ∙ ap greatest_level all;
      step = ap (λ (n : Held). n.step) N;
      start = start ∙ (rw (candidate_not_end k Q) refl);
      required = ap (λ (n : Held). n.required) N ∙ (rw start refl);
    }
    D

-- IT IS READ
module _ (H : List Laid) (s : Scanner) (r : met_t) (k : Kind) (part : yaml_part_t) (can : CanRead H s r) (K : r.kind ≡ k) (READ : (start : yaml_mark_t) (p : ℕ) → IsMarkOf s.text.chars s.gap_end p → IsRead s.text.chars k r.context.depth r.context.level p (part_from start part)) (Q : is_candidate_kind k ≡ true) where
  candidate : is_candidate_kind r.kind ≡ true
  candidate = subst (λ (z : Kind). is_candidate_kind z ≡ true) (sym K) Q

  pub part_ends : (p : ℕ) × IsMarkOf s.text.chars part.reach p
  part_ends = read_ends H s r (part_from s.gap_end part) can candidate (subst (λ (z : Kind). IsRead s.text.chars z r.context.depth r.context.level (gap_end_of (source_of s.text.chars) H) (part_from s.gap_end part)) (sym K) (READ s.gap_end (gap_end_of (source_of s.text.chars) H) can.met.gap_end))

  module _ (ALONE : groups_in s ≡ []) (far : part.reach.index < s.near) (start : yaml_mark_t) where
    empty : (lowest s.slots.outer.items ≡ None) × (s.slots.top ≡ None)
    empty = none H s can.can.holds ALONE

    pub key_can : r.allowed ≡ true → is_live s.limit part.reach r.new ≡ true → CanLayAll H s r (part_from start part)
    key_can A live = part_can H s r k part can K READ (rw (candidate, A) (none_lost s.limit part.reach s.slots.outer.items (Some r.new) empty.0 (live_kept s.limit part.reach r.new live))) far start

    pub value_can : r.allowed ≡ false → CanLayAll H s r (part_from start part)
    value_can A = part_can H s r k part can K READ (rw (candidate, A, empty.1) (none_lost s.limit part.reach s.slots.outer.items None empty.0 refl)) far start

    pub key_decided : is_flow_start k ≡ false → r.allowed ≡ true → r.in_flow ≡ false → 1 < deque_capacity s.layout.queue.groups → is_live s.limit part.reach r.new ≡ true
        → (j : Kind) (y : yaml_lexeme_t) → ((p : ℕ) → IsMarkOf s.text.chars part.reach p → IsDecider s.text.chars false p j y) → y.reach.index < s.near → IsDecided s false r part.reach j y
    key_decided ST A FLOW room live j y decides there = record {
      undecided = record {
        candidate = candidate;
        stays = subst (λ (z : Kind). is_flow_start z ≡ false) (sym K) ST;
        allowed = A;
        alone = ALONE;
        room = room;
        none_closed = λ e. absurd (false≢true e);
        live = live;
      };
      decider = λ p i. subst (λ (f : Bool). IsDecider s.text.chars f p j y) (sym FLOW) (decides p i);
      far = there;
    }

-- IT IS LAID
module _ (H : List Laid) (s : Scanner) (r : met_t) (x : yaml_lexeme_t) (c : CanLayAll H s r x) (FLOW : r.in_flow ≡ false) (Q : is_candidate_kind r.kind ≡ true) (ALONE : groups_in s ≡ []) (KEPT : closing false r.kind r.new.start (reverse s.layout.levels.items) ≡ None)
    (t : code_token_t) (TOKEN : token_of t ≡ record { token_data = x.token_data; start_mark = r.new.start; end_mark = x.end_mark }) where
  abbrev h : Holds H (s.made + 1) s
  h = c.can.can.holds

  abbrev ls : List ℕ
  ls = reverse s.layout.levels.items

  falls : IsFalling ls
  falls = falls_in H (s.made + 1) s h

  kept : closing r.in_flow r.kind r.new.start ls ≡ None
  kept = rw FLOW KEPT

  early : s.layout.queue.early ≡ 0
  early = h.queue.early c.can.can.running

  top : s.slots.top ≡ None
  top = (none H s h ALONE).1

  outer : lowest s.slots.outer.items ≡ None
  outer = (none H s h ALONE).0

  -- a value, alone
  pub value_laid : is_flow_start r.kind ≡ false → r.allowed ≡ false → (a : Bool) → ((d : ℕ) → false ≡ nat_lt 0 d → a ≡ allows r.kind d true x.passed_break)
      → IsLaidAlone H s (put_in s s.slots a s.layout x.reach) r.kind false (group_with 0 NONE false t)
  value_laid ST A a ALLOWS = record {
    laid = put_advances H s (groups_in s) (met_in s r) r.in_flow r.new x (can_put H s r x c) s.slots a s.layout (groups_in s ++ group_with 0 NONE false t ∷ []) record {
      left = s.layout.levels.items;
      left_is = sym (all_kept r.in_flow r.kind r.new.start ls falls kept);
      early = λ z. early;
      early_mark = λ z. absurd (let e = early in omega arith);
      completed = None;
      completed_is = rw (candidate_not_value r.kind Q) refl;
      none = true;
      none_is = refl;
      group = group_with 0 NONE false t;
      ends_are = rw (early, none_closed r.in_flow r.kind r.new.start ls falls kept) refl;
      token = TOKEN;
      key = refl;
      opens = rw (candidate_opens_nothing r.kind true Q, and_not (is_new r.in_flow r.new.start.column ls)) refl;
      levels = rw (candidate_opens_nothing r.kind true Q, and_not (is_new r.in_flow r.new.start.column ls)) refl;
      groups = refl;
      long = rw ALONE refl;
      done = refl;
      outer = rw (ST, candidate_not_flow_end r.kind Q, none_given_up s.limit x.reach s.slots.outer.items outer) refl;
      top = rw (ST, candidate_not_flow_end r.kind Q, Q, A, top) refl;
      empty = h.keys.empty;
      awaited = h.keys.awaited;
      allows = λ d e. ALLOWS d (sym FLOW ∙ e);
    };
    far = c.far;
    few = c.can.can.few_steps;
    room = c.can.room.groups;
    words = words_there H s r x c _ (ap (λ (z : _). z.token_data) TOKEN);
    says = says_there H s r x c _ (ap (λ (z : _). z.token_data) TOKEN);
    keyless = refl;
    last = λ _. candidate_not_end r.kind Q;
    awaited = λ _. none_waits H s h ALONE;
    alone = λ _. ALONE;
  }

  -- a key, with the `:` right after it
  module _ (k : Kind) (y : yaml_lexeme_t) (D : IsDecided s false r x.reach k y) (OLD : is_new false r.new.start.column ls ≡ false) (z : code_token_t) (COLON : token_of z ≡ record { token_data = y.token_data; start_mark = x.reach; end_mark = y.end_mark }) where
    decides_it : decides false k ≡ true
    decides_it = let i = read_place H s r x c Q in subst (λ (f : Bool). decides f k ≡ true) FLOW (D.decider i.0 i.1).decides

    value : is_value k ≡ true
    value = decider_is_value k decides_it

    same_outer : s.slots.outer.items ≡ nested_outer k s.slots.outer.items None
    same_outer = rw (decider_no_start false k decides_it, value_no_end k value) refl

    same_top : s.slots.top ≡ nested_top k s.slots.outer.items None
    same_top = top ∙ (rw (decider_no_start false k decides_it, value_no_end k value) refl)

    same_empty : s.slots.not_simple_keys ≡ vec_len s.slots.outer
    same_empty = let e = all_empty s.slots.outer.items outer in let f = h.keys.empty in let o = s.slots.outer.ok.0 in omega arith

    twice : LaysTwo false H s (put_in s s.slots false s.layout y.reach) (groups_in s ++ group_with 0 NONE true t ∷ (lone z ∷ []))
    twice = decided.twice H s r x c false k y D s.layout.levels.items (sym (all_kept r.in_flow r.kind r.new.start ls falls kept)) 0 (rw (none_closed r.in_flow r.kind r.new.start ls falls kept) refl) t TOKEN
        true (sym value) s.layout.levels (rw (FLOW, OLD) refl) z COLON s.slots same_outer same_top same_empty (none_waits H s h ALONE)
        false (λ n e. value_allows_none k n value)
        _ (rw (ALONE, FLOW, OLD) refl) _ refl

    pub key_laid : IsLaidBoth H s (put_in s s.slots false s.layout y.reach) true false (group_with 0 NONE true t) z
    key_laid = record {
      laid = twice;
      few = c.can.can.few_steps;
      room = (let e = ap (λ (ys : List group_t). length ys) ALONE in let o = D.undecided.room in omega arith);
      words = words_there H s r x c _ (ap (λ (w : _). w.token_data) TOKEN);
      decider_words = decider_words H s r x c Q k y D.decider _ (ap (λ (w : _). w.token_data) COLON);
      no_end = candidate_says H s r x c Q k y D.decider _ (ap (λ (w : _). w.token_data) TOKEN);
      decider_no_end = decider_says H s r x c Q k y D.decider _ (ap (λ (w : _). w.token_data) COLON);
      straight = λ _. refl;
      awaited = λ _. none_waits H s h ALONE;
      early = early;
      alone = λ _. ALONE;
    }
