-- A candidate and what decides it are laid together as they are laid one after the other.
use Rattle.std.proofs.Common.{◌≡◌, ℕ, zero, suc, ◌+◌, ◌-◌, ◌≤◌, not, ◌&&◌, Bool, true, false, List, [], ◌∷◌, ◌++◌, reverse, filter, map, length, Option, Some, None, refl, ap, sym, ◌∙◌, arith, inl, inr, vec_len}
use Rattle.std.specs.Prelude.{if◌then◌else◌, nat_eq, nat_lt}
use Rattle.std.specs.Option.{is_some}
use Rattle.std.specs.Vec.{vec_capacity}
use Rattle.std.specs.declared.alloc.Global.{Global}
use Rattle.std.specs.declared.vec.Vec.{Vec}
use Rattle.std.proofs.lemmas.Bool.{cases_Bool, and_parts, eqb-true}
use Rattle.std.proofs.lemmas.List.{length-reverse}
use Rattle.yaml_text.specs.declared.types.yaml_mark_t.{yaml_mark_t}
use Rattle.yaml_text.specs.declared.token.yaml_token_t.{yaml_token_t}
use Rattle.yaml_text.specs.Token.{token_of}
use Rattle.yaml_lexeme.specs.Decider.{decides}
use Rattle.yaml_lexeme.specs.Lexeme.{Lexeme as yaml_lexeme_t}
use Rattle.yaml_scan.specs.declared.groups.block_t.TheVariants.{MAPPING, NONE}
use Rattle.yaml_scan.specs.declared.groups.group_t.{group_t}
use Rattle.yaml_scan.specs.declared.slots.slots_t.{slots_t}
use Rattle.yaml_scan.specs.declared.layout.layout_t.{layout_t}
use Rattle.yaml_scan.specs.declared.met.met_t.{met_t}
use Rattle.yaml_scan.specs.inside.Scanner.{Scanner}
use Rattle.yaml_scan.specs.Allowed.{allows}
use Rattle.yaml_scan.specs.Kind.{Kind, is_stream_end, is_value}
use Rattle.yaml_scan.specs.Laid.{Laid}
use Rattle.yaml_scan.specs.Levels.{laid, stays}
use Rattle.yaml_scan.specs.Falling.{IsFalling}
use Rattle.yaml_scan.specs.Settled.{before}
use Rattle.yaml_scan.specs.Step.{problem_of}
use Rattle.yaml_scan.specs.inside.Opened.{is_new, opened}
use Rattle.yaml_scan.specs.Groups.Token.{BlockEnd}
use Rattle.yaml_scan.specs.inside.Handed.{IsLaidAs}
use Rattle.yaml_scan.specs.inside.Queue.{closing, completed_in, ends_at, opened_by}
use Rattle.yaml_scan.specs.inside.Scanning.{CanLayAll, CanPut, Holds, IsDecided, IsUndecided, LaysTwo, counted, groups_in, met_in}
use Rattle.yaml_scan.specs.inside.Slots.{Held, completed_held, is_live, lost_held, lowest, nested_outer, nested_top, root_of}
use Rattle.yaml_scan.specs.inside.StepFaults.{IsRefused}
use Rattle.yaml_scan.proofs.History.KindTests.{candidate_invites_none, candidate_not_end, candidate_not_flow_end, candidate_not_key, candidate_not_value, candidate_opens_nothing}
use Rattle.yaml_scan.proofs.History.KindTests.{decider_is_value, decider_no_start, decider_not_candidate, decider_not_closer, decider_not_entry, decider_not_key}
use Rattle.yaml_scan.proofs.RunningQueue.EmptySlots.{lowest-next}
use Rattle.yaml_scan.proofs.RunningQueue.NoCandidates.{all_empty, nested_none, none_given_up, none_held, none_lost}
use Rattle.yaml_scan.proofs.RunningStep.LevelStack.{all_kept, closing_on, filter_falls, none_closed}
use Rattle.yaml_scan.proofs.RunningStep.StepLaid.{levels_fall, put_in}
use Rattle.yaml_scan.proofs.RunningStep.StepPut.{IsPut, put_advances}
use Rattle.yaml_scan.proofs.RunningStep.TwoLaid.{allows_same, and_not, between_of, lays_two, met_after, new_after, reach_later, read_place, unsettled}
use Rattle.yaml_scan.proofs.RunningStep.StepTests.{can_put}

pub live_kept : (limit : ℕ) (m : yaml_mark_t) (h : Held) → is_live limit m h ≡ true → lost_held limit m (Some h) ≡ None
live_kept limit m h e = rw (e, and_not h.required) refl

-- LEVELS
-- what was kept is not closed
closing_kept : (f : Bool) (k : Kind) (m : yaml_mark_t) (cs : List ℕ) → closing f k m (filter (stays f k m) cs) ≡ None
closing_kept f k m [] = refl
closing_kept f k m (c ∷ cs) = elim (cases_Bool (stays f k m c)) [
  | inl q ↦ rw (q, q) refl
  | inr q ↦ rw q (closing_kept f k m cs)
]

filter_shorter : (t : ℕ → Bool) (cs : List ℕ) → length (filter t cs) ≤ length cs
filter_shorter t [] = omega arith
filter_shorter t (c ∷ cs) = let l = filter_shorter t cs in elim (cases_Bool (t c)) [ inl q ↦ rw q (omega arith) | inr q ↦ rw q (omega arith) ]

no_ends : (n : ℕ) (m : yaml_mark_t) → ends_at n m ≡ [] → n ≡ 0
no_ends zero m e = refl
no_ends (suc n) m e = absurd (cc)

-- a stack of levels with other elements, for which it has room
abbrev levels_of : (v : Vec ℕ Global) (cs : List ℕ) → length cs ≤ vec_capacity v → Vec ℕ Global
levels_of v cs l = record { ptr = v.ptr; len = length cs; cap = v.cap; alloc = v.alloc; items = cs; ok = (refl, l); small = v.small }

within_room : (v : Vec ℕ Global) → length v.items ≤ vec_capacity v
within_room v = let a = v.ok.0 in let b = v.ok.1 in omega arith

-- it is accepted after a candidate, whether a key is allowed or not, and clears none that is required
accepted : (in_flow : Bool) (k : Kind) (a : Bool) (g : yaml_mark_t) → decides in_flow k ≡ true → IsRefused (if not in_flow && not a then problem_of k (not (is_value k)) else None) g None
accepted true k a g e = refl
accepted false k true g e = refl
accepted false k false g e = rw (decider_is_value k e, decider_not_entry false k e, decider_not_key false k e) refl

-- A CANDIDATE, AND WHAT DECIDES IT
module _ (H : List Laid) (s : Scanner) (r : met_t) (x : yaml_lexeme_t) (c : CanLayAll H s r x) (sparing : Bool) (k : Kind) (y : yaml_lexeme_t) (d : IsDecided s sparing r x.reach k y) where
  abbrev h : Holds H (s.made + 1) s
  h = c.can.can.holds

  abbrev u : IsUndecided s sparing r x.reach
  u = d.undecided

  abbrev new : Held
  new = r.new

  abbrev ls : List ℕ
  ls = reverse s.layout.levels.items

  abbrev outer : List (Option Held)
  outer = s.slots.outer.items

  none : lowest outer ≡ None
  none = none_held H (s.made + 1) s h u.alone

  pub falls : IsFalling ls
  falls = levels_fall H (s.made + 1) s h c.can.can.running (met_in s r) c.can.met r.in_flow c.can.is_new.flow new.start c.can.is_new.start

  pub not_last : is_stream_end r.kind ≡ false
  not_last = candidate_not_end r.kind u.candidate

  canput : CanPut H s (groups_in s) (met_in s r) r.in_flow new x
  canput = can_put H s r x c

  -- the levels that the candidate keeps, and its group
  module _ (lv : List ℕ) (KEPT : reverse lv ≡ filter (stays r.in_flow r.kind new.start) ls) (n : ℕ) (ENDS : ends_at n new.start ≡ map (λ z. BlockEnd new.start) (filter (λ z. not (stays r.in_flow r.kind new.start z)) ls))
      (token : yaml_token_t) (TOKEN : token_of token ≡ record { token_data = x.token_data; start_mark = new.start; end_mark = x.end_mark }) where
    abbrev ks : List ℕ
    ks = reverse lv

    pub short : length lv ≤ vec_capacity s.layout.levels
    short =
        let a = length-reverse lv in
        let b = ap (λ (cs : List ℕ). length cs) KEPT in
        let d = filter_shorter (stays r.in_flow r.kind new.start) ls in
        let e = length-reverse s.layout.levels.items in
        let f = within_room s.layout.levels in omega arith

    kept_falls : IsFalling ks
    kept_falls = rw KEPT (filter_falls (stays r.in_flow r.kind new.start) ls falls)

    -- its group, before it is decided
    abbrev group : group_t
    group = record { ends = n; opens = NONE; key = false; token = token }

    abbrev layout : layout_t
    layout = record { levels = levels_of s.layout.levels lv short; queue = s.layout.queue }

    abbrev pub between : Scanner
    between = between_of s r x (Some new) new.step layout

    early : s.layout.queue.early ≡ 0
    early = h.queue.early c.can.can.running

    first : IsLaidAs H s r.kind between (group ∷ [])
    first = put_advances H s (groups_in s) (met_in s r) r.in_flow new x canput between.slots between.allowed layout (group ∷ []) record {
      left = lv;
      left_is = KEPT;
      early = λ z. early;
      early_mark = λ z. absurd (let e = early in omega arith);
      completed = None;
      completed_is = rw (candidate_not_value r.kind u.candidate) refl;
      none = true;
      none_is = refl;
      group = group;
      ends_are = rw (early, not_last) ENDS;
      token = TOKEN;
      key = refl;
      opens = rw (candidate_opens_nothing r.kind true u.candidate, and_not (is_new r.in_flow new.start.column ks)) refl;
      levels = rw (candidate_opens_nothing r.kind true u.candidate, and_not (is_new r.in_flow new.start.column ks)) refl;
      groups = rw u.alone refl;
      long = rw u.alone refl;
      done = refl;
      outer = rw (u.stays, candidate_not_flow_end r.kind u.candidate, none_given_up s.limit x.reach outer none) refl;
      top = rw (u.stays, candidate_not_flow_end r.kind u.candidate, u.candidate, u.allowed, u.live) refl;
      empty = h.keys.empty;
      awaited = rw (lowest-next outer (Some new) none) refl;
      allows = λ n e. rw (candidate_invites_none r.kind u.candidate u.stays, candidate_not_key r.kind u.candidate, candidate_not_value r.kind u.candidate, and_not (nat_eq n 0)) refl;
    }

    -- what is laid then
    abbrev H1 : List Laid
    H1 = laid s.limit H first.advances.lexeme ∷ H

    step_is : new.step ≡ s.layout.queue.done + 1
    step_is = let a = c.can.is_new.step in let n = h.number in let z = h.queue.count in let e = ap (λ (ys : List group_t). length ys) u.alone in omega arith

    none_ended : sparing ≡ true → n ≡ 0
    none_ended q = no_ends n new.start (ENDS ∙ (rw (none_closed r.in_flow r.kind new.start ls falls (u.none_closed q)) refl))

    then_needed : sparing ≡ true → length (before s.limit H1) ≤ s.taken
    then_needed q = let e = none_ended q in unsettled H1 (s.made + 1 + 1) between (group ∷ []) first.advances.holds (omega arith) step_is (rw (early, e) refl)

    -- what decides it
    decides_it : decides r.in_flow k ≡ true
    decides_it = let i = read_place H s r x c u.candidate in (d.decider i.0 i.1).decides

    abbrev gap_end : yaml_mark_t
    gap_end = x.reach

    not_lost : lost_held s.limit gap_end (root_of outer (Some new)) ≡ None
    not_lost = none_lost s.limit gap_end outer (Some new) none (live_kept s.limit gap_end new u.live)

    abbrev completed : Option Held
    completed = completed_held k s.limit gap_end (Some new)

    completes : is_some completed ≡ not (not (is_value k))
    completes = elim (cases_Bool (is_value k)) [ inl v ↦ rw (v, u.live) refl | inr v ↦ rw v refl ]

    then_kept : closing r.in_flow k gap_end ks ≡ None
    then_kept =
        let l = and_parts _ _ u.live in
        let e : gap_end.line ≡ new.start.line = eqb-true _ _ l.0 in
        let w : closing r.in_flow r.kind new.start ks ≡ None = rw KEPT (closing_kept r.in_flow r.kind new.start ls) in
        closing_on r.in_flow r.kind k new.start gap_end ks w ((reach_later H s r x c u.candidate).column (sym e)) (decider_not_closer r.in_flow k decides_it)

    at_head : new.step - 1 - s.layout.queue.done ≡ 0
    at_head = let e = step_is in omega arith

    module _ (key : Bool) (KEY : key ≡ is_value k) (V : Vec ℕ Global) (LEVELS : reverse V.items ≡ (if key && is_new r.in_flow new.start.column ks then new.start.column ∷ [] else []) ++ ks)
        (value : yaml_token_t) (SAYS : token_of value ≡ record { token_data = y.token_data; start_mark = gap_end; end_mark = y.end_mark })
        (S : slots_t) (OUTER : S.outer.items ≡ nested_outer k outer None) (TOP : S.top ≡ nested_top k outer None) (EMPTY : S.not_simple_keys ≡ vec_len S.outer) (AWAITED : S.awaited ≡ 0)
        (a : Bool) (ALLOWED : (n : ℕ) → r.in_flow ≡ nat_lt 0 n → a ≡ allows k n (not key) false) where
      abbrev pub after : Scanner
      after = put_in (counted between) S a (record { levels = V; queue = s.layout.queue }) y.reach

      -- its group, once it is decided
      abbrev pub keyed_group : group_t
      keyed_group = record { ends = n; opens = if key && is_new r.in_flow new.start.column ks then MAPPING else NONE; key = key; token = token }

      abbrev pub last : group_t
      last = record { ends = 0; opens = NONE; key = false; token = value }

      levels_then : reverse V.items ≡ opened r.in_flow completed k gap_end ks
      levels_then = LEVELS ∙ (rw KEY (elim (cases_Bool (is_value k)) [
        | inl v ↦ rw (v, u.live) refl
        | inr v ↦ rw (v, decider_not_entry r.in_flow k decides_it, decider_not_key r.in_flow k decides_it, v, and_not (is_new r.in_flow gap_end.column ks)) refl
      ]))

      opens_then : NONE ≡ opened_by r.in_flow completed k gap_end.column ks
      opens_then = elim (cases_Bool (is_value k)) [
        | inl v ↦ rw (v, u.live) refl
        | inr v ↦ rw (v, decider_not_entry r.in_flow k decides_it, decider_not_key r.in_flow k decides_it, v, and_not (is_new r.in_flow gap_end.column ks)) refl
      ]

      groups_then : keyed_group ∷ (last ∷ []) ≡ completed_in r.in_flow completed ks s.layout.queue.done (group ∷ []) ++ last ∷ []
      groups_then = rw KEY (elim (cases_Bool (is_value k)) [
        | inl v ↦ rw (v, u.live, at_head) refl
        | inr v ↦ rw v refl
      ])

      nested : (lowest (nested_outer k outer None) ≡ None) × (nested_top k outer None ≡ None)
      nested = nested_none k outer (decider_no_start r.in_flow k decides_it) none

      second : IsPut (counted between) (group ∷ []) (met_after r x k) r.in_flow (new_after s r k x.reach layout) y S a after.layout (keyed_group ∷ (last ∷ []))
      second = record {
        left = lv;
        left_is = sym (all_kept r.in_flow k gap_end ks kept_falls then_kept);
        early = λ z. early;
        early_mark = λ z. absurd (let e = early in omega arith);
        completed = completed;
        completed_is = refl;
        none = not (is_value k);
        none_is = completes;
        group = last;
        ends_are = rw (early, none_closed r.in_flow k gap_end ks kept_falls then_kept) refl;
        token = SAYS;
        key = refl;
        opens = opens_then;
        levels = levels_then;
        groups = groups_then;
        long = refl;
        done = refl;
        outer = OUTER ∙ (rw (decider_not_candidate r.in_flow k decides_it, none_given_up s.limit y.reach outer none) refl);
        top = TOP ∙ (rw (decider_not_candidate r.in_flow k decides_it, none_given_up s.limit y.reach outer none) refl);
        empty = (let e = all_empty (nested_outer k outer None) nested.0 in let f = ap (λ (hs : List (Option Held)). length hs) OUTER in let g = EMPTY in rw OUTER (omega arith));
        awaited = AWAITED ∙ (rw (OUTER, TOP, nested.1, lowest-next (nested_outer k outer None) None nested.0) refl);
        allows = λ n e. ALLOWED n e ∙ (rw KEY (allows_same r.in_flow k n (not (is_value k)) y.passed_break decides_it));
      }

      pub twice : (zs : List group_t) → zs ≡ keyed_group ∷ (last ∷ []) → (t : Scanner) → counted t ≡ after → LaysTwo sparing H s t zs
      twice zs Z t T = lays_two H s r x c k y (Some new) new.step layout (group ∷ []) first not_last d.decider (not (is_value k)) completes (accepted r.in_flow k (met_after r x k).allowed gap_end decides_it) not_lost (none_lost s.limit y.reach outer None none refl)
          sparing then_needed S a after.layout (keyed_group ∷ (last ∷ [])) second d.far zs Z t T
