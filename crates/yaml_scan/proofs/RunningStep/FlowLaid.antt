-- A scalar in flow that is met where nothing is queued is laid with what comes right after it, or alone. The levels stay as
-- they are.
use Rattle.std.proofs.Common.{◌≡◌, ℕ, ◌+◌, ◌-◌, ◌<◌, ◌≤◌, ◌^◌, not, ◌&&◌, Bool, true, false, List, [], ◌∷◌, ◌++◌, reverse, filter, length, Option, Some, None, refl, ap, sym, ◌∙◌, subst, arith, inl, inr, vec_len}
use Rattle.std.specs.Prelude.{if◌then◌else◌, nat_eq, nat_lt}
use Rattle.std.specs.Option.{is_some}
use Rattle.std.specs.VecDeque.{deque_capacity}
use Rattle.std.proofs.lemmas.Bool.{cases_Bool, and_parts, false≢true}
use Rattle.yaml_text.specs.declared.types.yaml_mark_t.{yaml_mark_t}
use Rattle.yaml_text.specs.declared.token.yaml_token_t.{yaml_token_t}
use Rattle.yaml_text.specs.Token.{token_of}
use Rattle.yaml_lexeme.specs.Counted.{IsMarkOf}
use Rattle.yaml_lexeme.specs.Decider.{decides}
use Rattle.yaml_lexeme.specs.LexemeOf.{part_from}
use Rattle.yaml_lexeme.specs.declared.lexeme.yaml_part_t.{yaml_part_t}
use Rattle.yaml_lexeme.specs.Lexeme.{Lexeme as yaml_lexeme_t}
use Rattle.yaml_scan.specs.declared.groups.block_t.TheVariants.{NONE}
use Rattle.yaml_scan.specs.declared.groups.group_t.{group_t}
use Rattle.yaml_scan.specs.declared.slots.slots_t.{slots_t}
use Rattle.yaml_scan.specs.declared.met.met_t.{met_t}
use Rattle.yaml_scan.specs.Allowed.{allows}
use Rattle.yaml_scan.specs.Kind.{Kind, is_candidate_kind, is_flow_start, is_stream_end, is_value}
use Rattle.yaml_scan.specs.Laid.{Laid}
use Rattle.yaml_scan.specs.inside.Handed.{IsLaidAlone, IsLaidAs, IsLaidBoth, group_with}
use Rattle.yaml_scan.specs.inside.Queue.{closing, completed_in}
use Rattle.yaml_scan.specs.inside.Scanner.{Scanner}
use Rattle.yaml_scan.specs.inside.Scanning.{CanLayAll, CanPut, CanRead, Holds, LaysTwo, counted, groups_in, met_in}
use Rattle.yaml_scan.specs.inside.Slots.{Held, completed_held, held_step, is_live, lost_held, lowest, nested_outer, nested_top, root_of, slot_after, still_held}
use Rattle.yaml_scan.specs.inside.TextReads.{IsDecider, IsRead}
use Rattle.yaml_scan.proofs.History.KindTests.{candidate_invites_none, candidate_not_end, candidate_not_flow_end, candidate_not_key, candidate_not_value}
use Rattle.yaml_scan.proofs.History.KindTests.{decider_no_start, decider_not_candidate}
use Rattle.yaml_scan.proofs.RunningQueue.EmptySlots.{lowest-next}
use Rattle.yaml_scan.proofs.RunningQueue.NoCandidates.{all_empty, nested_none, none_given_up}
use Rattle.yaml_scan.proofs.RunningStep.LentTokens.{part_can}
use Rattle.yaml_scan.proofs.RunningStep.StepHanded.{candidate_says, decider_says, decider_words, says_there, words_there}
use Rattle.yaml_scan.proofs.RunningStep.StepLaid.{put_in}
use Rattle.yaml_scan.proofs.RunningStep.StepPut.{IsPut, put_advances}
use Rattle.yaml_scan.proofs.RunningStep.StepTests.{can_put}
use Rattle.yaml_scan.proofs.RunningStep.TwoLaid.{allows_same, and_not, between_of, lays_two, met_after, new_after, read_place}
use Rattle.yaml_scan.proofs.RunningStep.UsualLaid as usual
use Rattle.yaml_scan.proofs.RunningStep.WaitingLaid.{flow_closes_none, flow_keeps, flow_opened, flow_opens_none}

-- LEVELS
pub flow_closing : (k : Kind) (m : yaml_mark_t) (cs : List ℕ) → closing true k m cs ≡ None
flow_closing k m [] = refl
flow_closing k m (c ∷ cs) = refl

-- CANDIDATES
-- the candidate of depth 0 is one of an outer depth
none_outside : (limit : ℕ) (m : yaml_mark_t) (hs : List (Option Held)) (top : Option Held) → lowest hs ≡ None → 0 < length hs → lost_held limit m (root_of hs top) ≡ None
none_outside limit m [] top e l = absurd (omega arith)
none_outside limit m (None ∷ hs) top e l = refl
none_outside limit m (Some h ∷ hs) top e l = cc

-- IT IS READ
-- it can be laid, if it is not near the fault
pub can_lay : (H : List Laid) (s : Scanner) (r : met_t) (k : Kind) (part : yaml_part_t) → CanRead H s r → r.kind ≡ k → ((start : yaml_mark_t) (p : ℕ) → IsMarkOf s.text.chars s.gap_end p → IsRead s.text.chars k r.context.depth r.context.level p (part_from start part))
    → groups_in s ≡ [] → r.in_flow ≡ true → part.reach.index < s.near → (start : yaml_mark_t) → CanLayAll H s r (part_from start part)
can_lay H s r k part can e read ALONE FLOW far start =
    let deep : true ≡ nat_lt 0 (vec_len s.slots.outer) = sym FLOW ∙ can.is_new.flow in
    let long : 0 < length s.slots.outer.items = (let o = s.slots.outer.ok.0 in let b = Rattle.std.proofs.Common.ltb-true _ _ (sym deep) in omega arith) in
    part_can H s r k part can e read (none_outside s.limit part.reach s.slots.outer.items _ (usual.none H s can.can.holds ALONE).0 long) far start

-- IT IS LAID
module _ (H : List Laid) (s : Scanner) (r : met_t) (x : yaml_lexeme_t) (c : CanLayAll H s r x) (FLOW : r.in_flow ≡ true) (Q : is_candidate_kind r.kind ≡ true) (ST : is_flow_start r.kind ≡ false) (ALONE : groups_in s ≡ []) (kept : Bool) (KEPT : kept ≡ (r.allowed && is_live s.limit x.reach r.new))
    (t : yaml_token_t) (TOKEN : token_of t ≡ record { token_data = x.token_data; start_mark = r.new.start; end_mark = x.end_mark }) where
  abbrev h : Holds H (s.made + 1) s
  h = c.can.can.holds

  abbrev new : Held
  new = r.new

  abbrev ls : List ℕ
  ls = reverse s.layout.levels.items

  abbrev outer : List (Option Held)
  outer = s.slots.outer.items

  none : lowest outer ≡ None
  none = (usual.none H s h ALONE).0

  top : s.slots.top ≡ None
  top = (usual.none H s h ALONE).1

  early : s.layout.queue.early ≡ 0
  early = h.queue.early c.can.can.running

  not_last : is_stream_end r.kind ≡ false
  not_last = candidate_not_end r.kind Q

  canput : CanPut H s (groups_in s) (met_in s r) r.in_flow new x
  canput = can_put H s r x c

  -- what it leaves in the slot of its depth
  abbrev then_top : Option Held
  then_top = if kept then Some new else None

  top_is : then_top ≡ still_held s.limit x.reach (slot_after r.kind r.allowed new s.slots.top)
  top_is = rw KEPT (elim (cases_Bool r.allowed) [
    | inl a ↦ elim (cases_Bool (is_live s.limit x.reach new)) [ inl l ↦ rw (a, Q, l) refl | inr l ↦ rw (a, Q, l) refl ]
    | inr a ↦ rw (a, Q, top) refl
  ])

  -- its group, before what comes after it
  abbrev group : group_t
  group = record { ends = 0; opens = NONE; key = false; token = t }

  -- it is laid, with these candidates
  laid_as : (S : slots_t) (a : Bool) → S.outer.items ≡ outer → S.top ≡ then_top → S.not_simple_keys ≡ s.slots.not_simple_keys → vec_len S.outer ≡ vec_len s.slots.outer → S.awaited ≡ held_step then_top
      → ((n : ℕ) → r.in_flow ≡ nat_lt 0 n → a ≡ allows r.kind n true x.passed_break) → IsLaidAs H s r.kind (put_in s S a s.layout x.reach) (group ∷ [])
  laid_as S a OUTER TOP EMPTY DEPTH AWAITED ALLOWS = put_advances H s (groups_in s) (met_in s r) r.in_flow new x canput S a s.layout (group ∷ []) record {
    left = s.layout.levels.items;
    left_is = rw FLOW (sym (flow_keeps r.kind new.start ls));
    early = λ z. early;
    early_mark = λ z. absurd (let e = early in omega arith);
    completed = None;
    completed_is = rw (candidate_not_value r.kind Q) refl;
    none = true;
    none_is = refl;
    group = group;
    ends_are = rw (early, FLOW, flow_closes_none r.kind new.start ls) refl;
    token = TOKEN;
    key = refl;
    opens = rw (FLOW, flow_opens_none None r.kind new.start.column ls) refl;
    levels = rw (FLOW, flow_opened None r.kind new.start ls) refl;
    groups = rw ALONE refl;
    long = rw ALONE refl;
    done = refl;
    outer = OUTER ∙ (rw (ST, candidate_not_flow_end r.kind Q, none_given_up s.limit x.reach outer none) refl);
    top = TOP ∙ (rw (ST, candidate_not_flow_end r.kind Q) top_is);
    empty = EMPTY ∙ h.keys.empty ∙ ap Rattle.yaml_scan.specs.inside.Slots.empty_slots (sym OUTER);
    awaited = AWAITED ∙ (rw (OUTER, TOP, lowest-next outer then_top none) refl);
    allows = ALLOWS;
  }

  -- alone, if it is no key
  pub alone_laid : kept ≡ false → (a : Bool) → ((d : ℕ) → true ≡ nat_lt 0 d → a ≡ allows r.kind d true x.passed_break) → IsLaidAlone H s (put_in s s.slots a s.layout x.reach) r.kind false (group_with 0 NONE false t)
  alone_laid NOT a ALLOWS = record {
    laid = subst (λ (ys : List group_t). IsLaidAs H s r.kind (put_in s s.slots a s.layout x.reach) (ys ++ group ∷ [])) (sym ALONE) (laid_as s.slots a refl (rw (NOT, top) refl) refl refl (rw NOT (usual.none_waits H s h ALONE)) (λ n e. ALLOWS n (sym FLOW ∙ e)));
    far = c.far;
    few = c.can.can.few_steps;
    room = c.can.room.groups;
    words = words_there H s r x c _ (ap (λ (z : _). z.token_data) TOKEN);
    says = says_there H s r x c _ (ap (λ (z : _). z.token_data) TOKEN);
    keyless = refl;
    last = λ _. not_last;
    awaited = λ _. usual.none_waits H s h ALONE;
    alone = λ _. ALONE;
  }

  -- with what comes right after it
  abbrev between : Scanner
  between = between_of s r x then_top (held_step then_top) s.layout

  first : IsLaidAs H s r.kind between (group ∷ [])
  first = laid_as between.slots between.allowed refl refl refl refl refl
      (λ n e. rw (candidate_invites_none r.kind Q ST, candidate_not_key r.kind Q, candidate_not_value r.kind Q, and_not (nat_eq n 0)) refl)

  module _ (k : Kind) (y : yaml_lexeme_t) (D : (p : ℕ) → IsMarkOf s.text.chars x.reach p → IsDecider s.text.chars r.in_flow p k y) (FAR : y.reach.index < s.near) (colon : Bool) (COLON : colon ≡ is_value k) (KEY : colon ≡ true → kept ≡ true)
      (z : yaml_token_t) (SAYS : token_of z ≡ record { token_data = y.token_data; start_mark = x.reach; end_mark = y.end_mark }) where
    abbrev gap_end : yaml_mark_t
    gap_end = x.reach

    decides_it : decides r.in_flow k ≡ true
    decides_it = let i = read_place H s r x c Q in (D i.0 i.1).decides

    abbrev completed : Option Held
    completed = completed_held k s.limit gap_end then_top

    completed_so : completed ≡ (if colon then Some new else None)
    completed_so = elim (cases_Bool colon) [
      | inl v ↦ (let l = and_parts r.allowed (is_live s.limit x.reach new) (sym KEPT ∙ KEY v) in rw (sym COLON, v, KEY v, l.1) refl)
      | inr v ↦ rw (sym COLON, v) refl
    ]

    completes : is_some completed ≡ not (not colon)
    completes = rw completed_so (elim (cases_Bool colon) [ inl q ↦ rw q refl | inr q ↦ rw q refl ])

    at_head : colon ≡ true → new.step - 1 - s.layout.queue.done ≡ 0
    at_head v = let e = c.can.is_new.step in let n = h.number in let q = h.queue.count in let a = ap (λ (ys : List group_t). length ys) ALONE in omega arith

    deep : 0 < length outer
    deep = (let o = s.slots.outer.ok.0 in let b = Rattle.std.proofs.Common.ltb-true _ _ (sym (sym FLOW ∙ c.can.is_new.flow)) in omega arith)

    nested : (lowest (nested_outer k outer None) ≡ None) × (nested_top k outer None ≡ None)
    nested = nested_none k outer (decider_no_start r.in_flow k decides_it) none

    module _ (S : slots_t) (OUTER : S.outer.items ≡ nested_outer k outer None) (TOP : S.top ≡ nested_top k outer None) (EMPTY : S.not_simple_keys ≡ vec_len S.outer) (AWAITED : S.awaited ≡ 0)
        (a : Bool) (ALLOWED : (n : ℕ) → true ≡ nat_lt 0 n → a ≡ allows k n (not colon) false) (ROOM : 1 < deque_capacity s.layout.queue.groups) where
      abbrev after : Scanner
      after = put_in (counted between) S a s.layout y.reach

      abbrev keyed_group : group_t
      keyed_group = record { ends = 0; opens = NONE; key = colon; token = t }

      abbrev last : group_t
      last = record { ends = 0; opens = NONE; key = false; token = z }

      groups_then : keyed_group ∷ (last ∷ []) ≡ completed_in r.in_flow completed ls s.layout.queue.done (group ∷ []) ++ last ∷ []
      groups_then = rw completed_so (elim (cases_Bool colon) [
        | inl q ↦ rw (q, FLOW, at_head q) refl
        | inr q ↦ rw q refl
      ])

      second : IsPut (counted between) (group ∷ []) (met_after r x k) r.in_flow (new_after s r k x.reach s.layout) y S a s.layout (keyed_group ∷ (last ∷ []))
      second = record {
        left = s.layout.levels.items;
        left_is = rw FLOW (sym (flow_keeps k gap_end ls));
        early = λ e. early;
        early_mark = λ e. absurd (let f = early in omega arith);
        completed = completed;
        completed_is = refl;
        none = not colon;
        none_is = completes;
        group = last;
        ends_are = rw (early, FLOW, flow_closes_none k gap_end ls) refl;
        token = SAYS;
        key = refl;
        opens = rw FLOW (sym (flow_opens_none completed k gap_end.column ls));
        levels = rw FLOW (sym (flow_opened completed k gap_end ls));
        groups = groups_then;
        long = refl;
        done = refl;
        outer = OUTER ∙ (rw (decider_not_candidate r.in_flow k decides_it, none_given_up s.limit y.reach outer none) refl);
        top = TOP ∙ (rw (decider_not_candidate r.in_flow k decides_it, none_given_up s.limit y.reach outer none) refl);
        empty = (let e = all_empty (nested_outer k outer None) nested.0 in let f = ap (λ (hs : List (Option Held)). length hs) OUTER in let g = EMPTY in rw OUTER (omega arith));
        awaited = AWAITED ∙ (rw (OUTER, TOP, nested.1, lowest-next (nested_outer k outer None) None nested.0) refl);
        allows = λ n e. ALLOWED n (sym FLOW ∙ e) ∙ allows_same r.in_flow k n (not colon) y.passed_break decides_it;
      }

      twice : LaysTwo false H s (put_in s S a s.layout y.reach) (keyed_group ∷ (last ∷ []))
      twice = lays_two H s r x c k y then_top (held_step then_top) s.layout (group ∷ []) first not_last D (not colon) completes (rw FLOW refl) (none_outside s.limit gap_end outer then_top none deep) (none_outside s.limit y.reach outer None none deep)
          false (λ e. absurd (false≢true e)) S a s.layout (keyed_group ∷ (last ∷ [])) second FAR (keyed_group ∷ (last ∷ [])) refl _ refl

      pub both_laid : IsLaidBoth H s (put_in s S a s.layout y.reach) true false (group_with 0 NONE colon t) z
      both_laid = record {
        laid = subst (λ (ys : List group_t). LaysTwo false H s (put_in s S a s.layout y.reach) (ys ++ keyed_group ∷ (last ∷ []))) (sym ALONE) twice;
        few = c.can.can.few_steps;
        room = (let e = ap (λ (ys : List group_t). length ys) ALONE in let o = ROOM in omega arith);
        words = words_there H s r x c _ (ap (λ (w : _). w.token_data) TOKEN);
        decider_words = decider_words H s r x c Q k y D _ (ap (λ (w : _). w.token_data) SAYS);
        no_end = candidate_says H s r x c Q k y D _ (ap (λ (w : _). w.token_data) TOKEN);
        decider_no_end = decider_says H s r x c Q k y D _ (ap (λ (w : _). w.token_data) SAYS);
        straight = λ _. refl;
        awaited = λ _. AWAITED;
        early = early;
        alone = λ _. ALONE;
      }
