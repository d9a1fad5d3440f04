-- A lexeme that has to wait and what comes right after it are laid together as they are laid one after the other.
use Rattle.std.proofs.Common.{◌≡◌, ℕ, zero, suc, ◌+◌, ◌-◌, ◌≤◌, ◌<◌, not, ◌&&◌, Bool, true, false, List, [], ◌∷◌, ◌++◌, reverse, filter, map, take, length, length-append, append_assoc, Option, Some, None, refl, ap, sym, ◌∙◌, subst, arith, inl, inr, eq-eqb, le-leb, leb-true, eqb-true}
use Rattle.std.specs.Prelude.{if◌then◌else◌, nat_eq, nat_lt, slice_get}
use Rattle.std.specs.Option.{is_some}
use Rattle.std.proofs.lemmas.Bool.{cases_Bool, and_parts, and_from}
use Rattle.yaml_text.specs.declared.types.yaml_mark_t.{yaml_mark_t}
use Rattle.yaml_text.specs.declared.token.yaml_token_t.{yaml_token_t}
use Rattle.yaml_text.specs.Token.{token_of}
use Rattle.yaml_lexeme.specs.Lexeme.{Lexeme as yaml_lexeme_t}
use Rattle.yaml_lexeme.specs.Counted.{IsMarkOf}
use Rattle.yaml_lexeme.specs.Decider.{decides, one_on}
use Rattle.yaml_scan.specs.declared.groups.block_t.TheVariants.{NONE}
use Rattle.yaml_scan.specs.declared.groups.group_t.{group_t}
use Rattle.yaml_scan.specs.declared.slots.slots_t.{slots_t}
use Rattle.yaml_scan.specs.declared.met.met_t.{met_t}
use Rattle.yaml_scan.specs.inside.Scanner.{Scanner}
use Rattle.yaml_scan.specs.Allowed.{allows}
use Rattle.yaml_scan.specs.Kind.{Kind, is_candidate_kind, is_flow_end, is_flow_start, is_stream_end, is_value}
use Rattle.yaml_scan.specs.Laid.{Laid}
use Rattle.yaml_scan.specs.Levels.{laid, stays}
use Rattle.yaml_scan.specs.Settled.{before}
use Rattle.yaml_scan.specs.inside.Handed.{IsLaidAs}
use Rattle.yaml_scan.specs.inside.Opened.{opened}
use Rattle.yaml_scan.specs.inside.Queue.{begins_with_end, completed_in, keyed, keyed_at, opened_by, pending}
use Rattle.yaml_scan.specs.inside.Scanning.{CanLayAll, CanPut, Holds, IsFollowed, IsFollower, IsWaiting, LaysTwo, Waits, counted, groups_in, met_in}
use Rattle.yaml_scan.specs.inside.Slots.{AreEmptyBelow, AreNested, Held, completed_held, empty_slots, is_live, lost_held, lowest, nested_outer, nested_top, or_top, root_of, slot_after, held_step, still_held}
use Rattle.yaml_scan.specs.inside.TextReads.{IsDecider}
use Rattle.yaml_scan.proofs.History.KindTests.{candidate_invites_none, candidate_not_end, candidate_not_flow_end, candidate_not_key, candidate_not_value}
use Rattle.yaml_scan.proofs.History.KindTests.{decider_no_start, decider_not_candidate}
use Rattle.yaml_scan.proofs.RunningQueue.EmptySlots.{below_empty, lowest-first, lowest_some, swept_front}
use Rattle.yaml_scan.proofs.RunningQueue.SlotOrder.{outer_nested}
use Rattle.yaml_scan.proofs.RunningStep.TwoLaid.{allows_same, and_not, between_of, lays_two, met_after, new_after, read_place, unsettled}
use Rattle.yaml_scan.proofs.RunningStep.StepLaid.{put_in}
use Rattle.yaml_scan.proofs.RunningStep.StepPut.{IsPut, put_advances}
use Rattle.yaml_scan.proofs.RunningStep.StepTests.{can_put}

-- THE NEXT TOKEN
-- a group that is a token alone, after others, changes nothing of what is next
ends_after : (early_mark : yaml_mark_t) (ys : List group_t) (token : yaml_token_t) → begins_with_end (pending 0 early_mark ys) ≡ false → begins_with_end (pending 0 early_mark (ys ++ record { ends = 0; opens = NONE; key = false; token = token } ∷ [])) ≡ false
ends_after early_mark [] token e = refl
ends_after early_mark (y ∷ []) token e = e
ends_after early_mark (y ∷ (z ∷ ys)) token e = e

-- LEVELS IN FLOW
pub flow_keeps : (k : Kind) (m : yaml_mark_t) (cs : List ℕ) → filter (stays true k m) cs ≡ cs
flow_keeps k m [] = refl
flow_keeps k m (c ∷ cs) = ap (λ (ds : List ℕ). c ∷ ds) (flow_keeps k m cs)

pub flow_closes_none : (k : Kind) (m : yaml_mark_t) (cs : List ℕ) → filter (λ c. not (stays true k m c)) cs ≡ []
flow_closes_none k m [] = refl
flow_closes_none k m (c ∷ cs) = flow_closes_none k m cs

pub flow_opened : (o : Option Held) (k : Kind) (m : yaml_mark_t) (cs : List ℕ) → opened true o k m cs ≡ cs
flow_opened None k m cs = refl
flow_opened (Some h) k m cs = refl

pub flow_opens_none : (o : Option Held) (k : Kind) (n : ℕ) (cs : List ℕ) → opened_by true o k n cs ≡ NONE
flow_opens_none None k n cs = refl
flow_opens_none (Some h) k n cs = refl

-- SLOTS
-- the candidate of depth 0 is not lost, if all outer ones are live
root_kept : (limit : ℕ) (m : yaml_mark_t) (hs : List (Option Held)) (top : Option Held) (n : ℕ) (h : Held) → slice_get hs n ≡ Some (Some h) → map (still_held limit m) hs ≡ hs → lost_held limit m (root_of hs top) ≡ None
root_kept limit m [] top n h e f = cc
root_kept limit m (None ∷ hs) top n h e f = refl
root_kept limit m (Some g ∷ hs) top n h e f = elim (cases_Bool (is_live limit m g)) [
  | inl t ↦ rw (t, and_not g.required) refl
  | inr t ↦ (let w : None ∷ map (still_held limit m) hs ≡ Some g ∷ hs = rw t at f in cc)
]

within : (hs : List (Option Held)) (k : ℕ) (o : Option Held) → slice_get hs k ≡ Some o → k < length hs
within [] k o e = cc
within (x ∷ hs) zero o e = omega arith
within (x ∷ hs) (suc k) o e = let r = within hs k o e in omega arith

rejoined : (hs : List (Option Held)) → 0 < length hs → take (length hs - 1) hs ++ or_top None (slice_get hs (length hs - 1)) ∷ [] ≡ hs
rejoined [] l = absurd (omega arith)
rejoined (x ∷ []) l = refl
rejoined (x ∷ (z ∷ hs)) l =
    let e : length (x ∷ (z ∷ hs)) - 1 ≡ suc (length (z ∷ hs) - 1) = omega arith in
    rw e (ap (λ (ys : List (Option Held)). x ∷ ys) (rejoined (z ∷ hs) (omega arith)))

empties_taken : (hs : List (Option Held)) (n : ℕ) → empty_slots hs ≤ n → empty_slots (take n hs) ≡ empty_slots hs
empties_taken [] zero l = refl
empties_taken [] (suc n) l = refl
empties_taken (None ∷ hs) zero l = absurd (omega arith)
empties_taken (None ∷ hs) (suc n) l = ap suc (empties_taken hs n (omega arith))
empties_taken (Some h ∷ hs) zero l = refl
empties_taken (Some h ∷ hs) (suc n) l = refl

-- what comes right after it changes nothing of the lowest candidate
module _ (k : Kind) (s : is_flow_start k ≡ false) (hs : List (Option Held)) (h : Held) (e : slice_get hs (empty_slots hs) ≡ Some (Some h)) where
  low : (o : Option Held) → lowest (hs ++ o ∷ []) ≡ Some h
  low o = lowest-first hs (o ∷ []) h (lowest_some hs (Some h) e)

  nested_empties : empty_slots (nested_outer k hs None) ≡ empty_slots hs
  nested_empties = elim (cases_Bool (is_flow_end k)) [
    | inl q ↦ rw (s, q) (empties_taken hs (length hs - 1) (let w = within hs (empty_slots hs) (Some h) e in omega arith))
    | inr q ↦ rw (s, q) refl
  ]

  nested_lowest : lowest (nested_outer k hs None ++ nested_top k hs None ∷ []) ≡ Some h
  nested_lowest = elim (cases_Bool (is_flow_end k)) [
    | inl q ↦ rw (s, q) (ap lowest (rejoined hs (let w = within hs (empty_slots hs) (Some h) e in omega arith)) ∙ lowest_some hs (Some h) e)
    | inr q ↦ rw (s, q) (low None)
  ]

-- THE QUEUE
keyed_last : (n : ℕ) (b : Bool) (ys : List group_t) (y : group_t) → n ≡ length ys → keyed_at n b (ys ++ y ∷ []) ≡ ys ++ keyed b y ∷ []
keyed_last zero b [] y e = refl
keyed_last (suc n) b [] y e = absurd (omega arith)
keyed_last zero b (z ∷ ys) y e = absurd (omega arith)
keyed_last (suc n) b (z ∷ ys) y e = ap (λ (l : List group_t). z ∷ l) (keyed_last n b ys y (omega arith))

-- a candidate that is live after one character was so before it
live_before : (limit : ℕ) (m : yaml_mark_t) (h : Held) → is_live limit (one_on m) h ≡ true → is_live limit m h ≡ true
live_before limit m h e =
    let p = and_parts _ _ e in
    let n : m.index + 1 ≤ h.start.index + limit = leb-true _ _ p.1 in
    let s : m.line ≡ h.start.line = eqb-true _ _ p.0 in
    let u : m.index ≤ h.start.index + limit = omega arith in
    and_from _ _ (eq-eqb _ _ s) (le-leb _ _ u)

-- WHAT COMES RIGHT AFTER A LEXEME
pub follower : (s : Scanner) (sparing : Bool) (r : met_t) (at : yaml_mark_t) (w : Bool) (k : Kind) (x : yaml_lexeme_t) → IsFollowed s sparing r at w → ((p : ℕ) → IsMarkOf s.text.chars at p → IsDecider s.text.chars r.in_flow p k x) → x.reach ≡ one_on at → x.reach.index < s.near
    → (w ≡ true → (h : Held) × ((slice_get s.slots.outer.items s.slots.not_simple_keys ≡ Some (Some h)) × (is_live s.limit x.reach h ≡ true))) → IsFollower s sparing r at w k x
follower s sparing r at true k x f d m l o = record { waits = f; reach = m; outer = o refl; decider = d; far = l }
follower s sparing r at false k x f d m l o = record { undecided = f; decider = d; far = l }

-- the lexeme is a candidate
pub followed_kind : (s : Scanner) (sparing : Bool) (r : met_t) (at : yaml_mark_t) (w : Bool) → IsFollowed s sparing r at w → is_candidate_kind r.kind ≡ true
followed_kind s sparing r at true f = f.candidate
followed_kind s sparing r at false f = f.candidate

-- what comes right after a lexeme enters no depth
pub follower_no_start : (H : List Laid) (s : Scanner) (r : met_t) (x : yaml_lexeme_t) → CanLayAll H s r x → (sparing w : Bool) (k : Kind) (y : yaml_lexeme_t) → IsFollower s sparing r x.reach w k y → is_flow_start k ≡ false
follower_no_start H s r x c sparing true k y f =
    let i = read_place H s r x c f.waits.candidate in
    decider_no_start r.in_flow k (f.decider i.0 i.1).decides
follower_no_start H s r x c sparing false k y f =
    let i = read_place H s r x c f.undecided.candidate in
    decider_no_start r.in_flow k (f.decider i.0 i.1).decides

-- BOTH
module _ (H : List Laid) (s : Scanner) (r : met_t) (x : yaml_lexeme_t) (c : CanLayAll H s r x) (k : Kind) (y : yaml_lexeme_t) (d : IsWaiting s r x.reach k y) where
  abbrev h : Holds H (s.made + 1) s
  h = c.can.can.holds

  abbrev u : Waits s r x.reach
  u = d.waits

  abbrev new : Held
  new = r.new

  abbrev ls : List ℕ
  ls = reverse s.layout.levels.items

  abbrev outer : List (Option Held)
  outer = s.slots.outer.items

  abbrev ys : List group_t
  ys = groups_in s

  first_held : slice_get outer (empty_slots outer) ≡ Some (Some d.outer.0)
  first_held = subst (λ (n : ℕ). slice_get outer n ≡ Some (Some d.outer.0)) h.keys.empty d.outer.1.0

  all_live : (m : yaml_mark_t) (g : Held) → slice_get outer s.slots.not_simple_keys ≡ Some (Some g) → is_live s.limit m g ≡ true → map (still_held s.limit m) outer ≡ outer
  all_live m g e t =
      let nested : AreNested outer = subst AreNested (sym h.keys.outer) (outer_nested s.limit H h.is_history) in
      let below : AreEmptyBelow s.slots.not_simple_keys outer = subst (λ (n : ℕ). AreEmptyBelow n outer) (sym h.keys.empty) (below_empty outer) in
      swept_front s.limit m outer outer s.slots.not_simple_keys g nested (λ i f q. q) below e t

  live_then : map (still_held s.limit x.reach) outer ≡ outer
  live_then = all_live x.reach d.outer.0 d.outer.1.0 (live_before s.limit x.reach d.outer.0 (subst (λ (m : yaml_mark_t). is_live s.limit m d.outer.0 ≡ true) d.reach d.outer.1.1))

  live_after : map (still_held s.limit y.reach) outer ≡ outer
  live_after = all_live y.reach d.outer.0 d.outer.1.0 d.outer.1.1

  canput : CanPut H s (groups_in s) (met_in s r) r.in_flow new x
  canput = can_put H s r x c

  not_last : is_stream_end r.kind ≡ false
  not_last = candidate_not_end r.kind u.candidate

  early : s.layout.queue.early ≡ 0
  early = h.queue.early c.can.can.running

  -- the slot of its depth
  abbrev then_top : Option Held
  then_top = if r.allowed then Some new else None

  top_is : then_top ≡ still_held s.limit x.reach (slot_after r.kind r.allowed new s.slots.top)
  top_is = elim (cases_Bool r.allowed) [
    | inl a ↦ rw (a, u.candidate, u.key a) refl
    | inr a ↦ rw (a, u.candidate, u.none a) refl
  ]

  module _ (token : yaml_token_t) (TOKEN : token_of token ≡ record { token_data = x.token_data; start_mark = new.start; end_mark = x.end_mark }) where
    -- its group, before what comes after it
    abbrev group : group_t
    group = record { ends = 0; opens = NONE; key = false; token = token }

    abbrev between : Scanner
    between = between_of s r x then_top s.slots.awaited s.layout

    first : IsLaidAs H s r.kind between (ys ++ group ∷ [])
    first = put_advances H s ys (met_in s r) r.in_flow new x canput between.slots between.allowed s.layout (ys ++ group ∷ []) record {
      left = s.layout.levels.items;
      left_is = rw u.flow (sym (flow_keeps r.kind new.start ls));
      early = λ z. early;
      early_mark = λ z. absurd (let e = early in omega arith);
      completed = None;
      completed_is = rw (candidate_not_value r.kind u.candidate) refl;
      none = true;
      none_is = refl;
      group = group;
      ends_are = rw (early, u.flow, flow_closes_none r.kind new.start ls) refl;
      token = TOKEN;
      key = refl;
      opens = rw (u.flow, flow_opens_none None r.kind new.start.column ls) refl;
      levels = rw (u.flow, flow_opened None r.kind new.start ls) refl;
      groups = refl;
      long = length-append ys (group ∷ []);
      done = refl;
      outer = rw (u.stays, candidate_not_flow_end r.kind u.candidate, live_then) refl;
      top = rw (u.stays, candidate_not_flow_end r.kind u.candidate) top_is;
      empty = h.keys.empty;
      awaited = h.keys.awaited ∙ ap held_step (low r.kind u.stays outer d.outer.0 first_held s.slots.top ∙ sym (low r.kind u.stays outer d.outer.0 first_held then_top));
      allows = λ n e. rw (candidate_invites_none r.kind u.candidate u.stays, candidate_not_key r.kind u.candidate, candidate_not_value r.kind u.candidate, and_not (nat_eq n 0)) refl;
    }

    -- what is laid then
    abbrev H1 : List Laid
    H1 = laid s.limit H first.advances.lexeme ∷ H

    then_needed : length (before s.limit H1) ≤ s.taken
    then_needed = unsettled H1 (s.made + 1 + 1) between (ys ++ group ∷ []) first.advances.holds (let l = length-append ys (group ∷ []) in omega arith) u.awaited
        (rw early (ends_after s.layout.queue.early_mark ys token (rw early at u.ends)))

    -- what comes right after it
    abbrev gap_end : yaml_mark_t
    gap_end = x.reach

    decides_it : decides r.in_flow k ≡ true
    decides_it = let i = read_place H s r x c u.candidate in (d.decider i.0 i.1).decides

    not_lost : lost_held s.limit gap_end (root_of outer then_top) ≡ None
    not_lost = root_kept s.limit gap_end outer then_top s.slots.not_simple_keys d.outer.0 d.outer.1.0 live_then

    -- the lexeme is a key if a key is allowed and a `:` comes after it
    abbrev key : Bool
    key = r.allowed && is_value k

    abbrev completed : Option Held
    completed = completed_held k s.limit gap_end then_top

    completed_so : completed ≡ (if key then Some new else None)
    completed_so = elim (cases_Bool r.allowed) [
      | inl a ↦ elim (cases_Bool (is_value k)) [ inl v ↦ rw (a, v, u.key a) refl | inr v ↦ rw (a, v) refl ]
      | inr a ↦ elim (cases_Bool (is_value k)) [ inl v ↦ rw (a, v) refl | inr v ↦ rw (a, v) refl ]
    ]

    completes : is_some completed ≡ not (not key)
    completes = rw completed_so (elim (cases_Bool key) [ inl q ↦ rw q refl | inr q ↦ rw q refl ])

    at_last : new.step - 1 - s.layout.queue.done ≡ length ys
    at_last = let e = c.can.is_new.step in let n = h.number in let z = h.queue.count in omega arith

    module _ (value : yaml_token_t) (SAYS : token_of value ≡ record { token_data = y.token_data; start_mark = gap_end; end_mark = y.end_mark })
        (S : slots_t) (OUTER : S.outer.items ≡ nested_outer k outer None) (TOP : S.top ≡ nested_top k outer None) (EMPTY : S.not_simple_keys ≡ s.slots.not_simple_keys) (AWAITED : S.awaited ≡ s.slots.awaited)
        (a : Bool) (ALLOWED : (n : ℕ) → r.in_flow ≡ nat_lt 0 n → a ≡ allows k n (not key) false) where
      abbrev pub after : Scanner
      after = put_in (counted between) S a s.layout y.reach

      -- its group, once that is known
      abbrev pub keyed_group : group_t
      keyed_group = record { ends = 0; opens = NONE; key = key; token = token }

      abbrev pub last : group_t
      last = record { ends = 0; opens = NONE; key = false; token = value }

      groups_then : ys ++ keyed_group ∷ (last ∷ []) ≡ completed_in r.in_flow completed ls s.layout.queue.done (ys ++ group ∷ []) ++ last ∷ []
      groups_then = rw completed_so (elim (cases_Bool key) [
        | inl q ↦ rw (q, u.flow, keyed_last (new.step - 1 - s.layout.queue.done) false ys group at_last) (sym (append_assoc ys (keyed false group ∷ []) (last ∷ [])))
        | inr q ↦ rw q (sym (append_assoc ys (group ∷ []) (last ∷ [])))
      ])

      second : IsPut (counted between) (ys ++ group ∷ []) (met_after r x k) r.in_flow (new_after s r k x.reach s.layout) y S a s.layout (ys ++ keyed_group ∷ (last ∷ []))
      second = record {
        left = s.layout.levels.items;
        left_is = rw u.flow (sym (flow_keeps k gap_end ls));
        early = λ z. early;
        early_mark = λ z. absurd (let e = early in omega arith);
        completed = completed;
        completed_is = refl;
        none = not key;
        none_is = completes;
        group = last;
        ends_are = rw (early, u.flow, flow_closes_none k gap_end ls) refl;
        token = SAYS;
        key = refl;
        opens = rw u.flow (sym (flow_opens_none completed k gap_end.column ls));
        levels = rw u.flow (sym (flow_opened completed k gap_end ls));
        groups = groups_then;
        long = (let l = length-append ys (keyed_group ∷ (last ∷ [])) in let m = length-append ys (group ∷ []) in omega arith);
        done = refl;
        outer = OUTER ∙ (rw (decider_not_candidate r.in_flow k decides_it, live_after) refl);
        top = TOP ∙ (rw (decider_not_candidate r.in_flow k decides_it, live_after) refl);
        empty = EMPTY ∙ h.keys.empty ∙ sym (ap empty_slots OUTER ∙ nested_empties k (decider_no_start r.in_flow k decides_it) outer d.outer.0 first_held);
        awaited = AWAITED ∙ h.keys.awaited ∙ ap held_step (low k (decider_no_start r.in_flow k decides_it) outer d.outer.0 first_held s.slots.top)
            ∙ (rw (OUTER, TOP) (sym (ap held_step (nested_lowest k (decider_no_start r.in_flow k decides_it) outer d.outer.0 first_held))));
        allows = λ n e. ALLOWED n e ∙ allows_same r.in_flow k n (not key) y.passed_break decides_it;
      }

      pub twice : (zs : List group_t) → zs ≡ ys ++ keyed_group ∷ (last ∷ []) → (t : Scanner) → counted t ≡ after → LaysTwo true H s t zs
      twice zs Z t T = lays_two H s r x c k y then_top s.slots.awaited s.layout (ys ++ group ∷ []) first not_last d.decider (not key) completes (rw u.flow refl) not_lost (root_kept s.limit y.reach outer None s.slots.not_simple_keys d.outer.0 d.outer.1.0 live_after)
          true (λ z. then_needed) S a s.layout (ys ++ keyed_group ∷ (last ∷ [])) second d.far zs Z t T
