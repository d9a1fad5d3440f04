-- A lexeme and what comes right after it are laid together, if the second one can be laid after the first.
use Rattle.std.proofs.Common.{◌≡◌, ℕ, ◌+◌, ◌≤◌, ◌<◌, not, ◌&&◌, ◌||◌, Bool, true, false, List, ◌∷◌, reverse, filter, length, Option, Some, None, refl, ap, sym, ◌∙◌, subst, arith, eqb, vec_len, eq-eqb, ne_eqb, ltb-false}
use Rattle.std.specs.Prelude.{if◌then◌else◌, nat_lt}
use Rattle.std.specs.Option.{is_some}
use Rattle.std.proofs.lemmas.List.{reverse-reverse}
use Rattle.yaml_text.specs.declared.types.yaml_mark_t.{yaml_mark_t}
use Rattle.yaml_lexeme.specs.Decider.{decides}
use Rattle.yaml_lexeme.specs.Lexeme.{Lexeme as yaml_lexeme_t}
use Rattle.yaml_lexeme.specs.Counted.{IsMarkOf}
use Rattle.yaml_scan.specs.Course.{ended}
use Rattle.yaml_scan.specs.declared.groups.group_t.{group_t}
use Rattle.yaml_scan.specs.declared.slots.slots_t.{slots_t}
use Rattle.yaml_scan.specs.declared.layout.layout_t.{layout_t}
use Rattle.yaml_scan.specs.declared.met.met_t.{met_t}
use Rattle.yaml_scan.specs.inside.Scanner.{Scanner}
use Rattle.yaml_scan.specs.Allowed.{allowed_after, allows}
use Rattle.yaml_scan.specs.Depth.{depth}
use Rattle.yaml_scan.specs.Kind.{Kind, is_candidate_kind, is_plain, is_stream_end}
use Rattle.yaml_scan.specs.Laid.{Laid}
use Rattle.yaml_scan.specs.Levels.{greatest_level, laid, stays}
use Rattle.yaml_scan.specs.Order.{IsNotBefore}
use Rattle.yaml_scan.specs.Settled.{before}
use Rattle.yaml_scan.specs.SourceOf.{source_of}
use Rattle.yaml_scan.specs.Step.{gap_end_of, place_after, problem_of, replaces}
use Rattle.yaml_scan.specs.inside.Handed.{IsLaidAs}
use Rattle.yaml_scan.specs.inside.Queue.{begins_with_end, pending}
use Rattle.yaml_scan.specs.inside.Scanning.{AdvancesTwice, CanLayAll, CanPut, CanRead, HoldsWith, IsMet, LaysTwo, Met, Needs, counted, met_in}
use Rattle.yaml_scan.specs.inside.Slots.{Held, completed_held, held, is_level, lost_held, root_of}
use Rattle.yaml_scan.specs.inside.StepFaults.{IsRefused}
use Rattle.yaml_scan.specs.inside.TextReads.{IsDecider, IsRead}
use Rattle.yaml_scan.proofs.History.HistoryOrder.{to_reach}
use Rattle.yaml_scan.proofs.History.KindTests.{candidate_not_end}
use Rattle.yaml_scan.proofs.History.KindTests.{decider_is_value, decider_not_candidate, decider_not_end, decider_not_plain}
use Rattle.yaml_scan.proofs.RunningQueue.HeadIsNext.{head_tested}
use Rattle.yaml_scan.proofs.RunningStep.StepLaid.{history, place_then, put_in}
use Rattle.yaml_scan.proofs.RunningStep.HeldBeside.{counted_holds}
use Rattle.yaml_scan.proofs.RunningStep.StepPut.{IsPut, put_advances}
use Rattle.yaml_scan.proofs.RunningStep.TestsBefore.{allowed_is, flow_is, gap_end_mark, kind_is, root_held, row_met}

pub and_not : (b : Bool) → (b && false) ≡ false
and_not true = refl
and_not false = refl

-- it needs more steps while the head of the queue is that of the lowest candidate
module _ (H : List Laid) (n : ℕ) (s : Scanner) (zs : List group_t) (h : HoldsWith H n s zs) (SOME : 0 < length zs) (AWAITED : s.slots.awaited ≡ s.layout.queue.done + 1) (ENDS : begins_with_end (pending s.layout.queue.early s.layout.queue.early_mark zs) ≡ false) where
  pub unsettled : length (before s.limit H) ≤ s.taken
  unsettled =
      let q = s.layout.queue in
      let some : false ≡ eqb (length zs) 0 = sym (ne_eqb _ _ (λ e. absurd (omega arith))) in
      let test = head_tested H n s zs h false some in
      let here : not (eqb s.slots.awaited (q.done + 1) && not (begins_with_end (pending q.early q.early_mark zs))) ≡ false = rw (ENDS, eq-eqb _ _ AWAITED) refl in
      ltb-false _ _ (sym test ∙ here)

-- WHAT DECIDES
pub clears_none : (in_flow : Bool) (k : Kind) (a : Bool) → decides in_flow k ≡ true → (replaces k a && not in_flow) ≡ false
clears_none true k a e = and_not (replaces k a)
clears_none false k a e = rw (decider_is_value k e) refl

pub allows_same : (f : Bool) (k : Kind) (n : ℕ) (none b : Bool) → decides f k ≡ true → allows k n none false ≡ allows k n none b
allows_same f k n none b e = rw (decider_not_plain f k e) refl

-- where what may be a key ends
pub read_ends : (H : List Laid) (s : Scanner) (r : met_t) (x : yaml_lexeme_t) → CanRead H s r → is_candidate_kind r.kind ≡ true → IsRead s.text.chars r.kind r.context.depth r.context.level (gap_end_of (source_of s.text.chars) H) x → (p : ℕ) × IsMarkOf s.text.chars x.reach p
unfolding laid
read_ends H s r x c q read =
    let left : List ℕ = filter (stays r.in_flow r.kind r.new.start) (reverse s.layout.levels.items) in (
      _,
      place_then H (s.made + 1) s c.can.holds c.can.running (met_in s r) c.met r.in_flow c.is_new.flow r.new.start c.is_new.start (reverse left) (reverse-reverse left) r.context.level (c.is_new.is_greatest ∙ ap greatest_level (sym (reverse-reverse left))) r.context.depth c.depth x read
          (candidate_not_end r.kind q),
    )

-- a lexeme that was met and read
module _ (H : List Laid) (s : Scanner) (r : met_t) (x : yaml_lexeme_t) (c : CanLayAll H s r x) (q : is_candidate_kind r.kind ≡ true) where
  abbrev cs : List ℕ
  cs = reverse s.layout.levels.items

  abbrev left : List ℕ
  left = filter (stays r.in_flow r.kind r.new.start) cs

  level_is : r.context.level ≡ greatest_level (reverse (reverse left))
  level_is = c.can.is_new.is_greatest ∙ ap greatest_level (sym (reverse-reverse left))

  read : IsRead s.text.chars r.kind r.context.depth r.context.level (gap_end_of (source_of s.text.chars) H) x
  read = c.read (gap_end_of (source_of s.text.chars) H) c.can.met.gap_end

  -- where it ends
  pub read_place : (p : ℕ) × IsMarkOf s.text.chars x.reach p
  read_place = read_ends H s r x c.can q read

  pub reach_later : IsNotBefore r.new.start x.reach
  unfolding laid
  reach_later =
      let f = history H (s.made + 1) s c.can.can.holds c.can.can.running (met_in s r) c.can.met r.in_flow c.can.is_new.flow r.new.start c.can.is_new.start (reverse left) (reverse-reverse left) r.context.level level_is r.context.depth c.can.depth x read in
      to_reach f.1

-- ONE AFTER THE OTHER
-- the scanner after the lexeme x of the step r, with the candidate of its depth and the step that is awaited
abbrev pub between_of : Scanner → met_t → yaml_lexeme_t → Option Held → ℕ → layout_t → Scanner
between_of s r x top awaited L = put_in s (record { outer = s.slots.outer; not_simple_keys = s.slots.not_simple_keys; top = top; awaited = awaited }) (is_plain r.kind && x.passed_break) L x.reach

-- the lexeme of kind k right after it
abbrev pub met_after : met_t → yaml_lexeme_t → Kind → Met
met_after r x k = record { kind = k; gap_end = x.reach; allowed = (is_plain r.kind && x.passed_break) || (not r.in_flow && nat_lt x.reach.line x.reach.line) }

-- the greatest level that it keeps
abbrev pub level_after : met_t → Kind → yaml_mark_t → layout_t → Option ℕ
level_after r k gap_end L = greatest_level (filter (stays r.in_flow k gap_end) (reverse L.levels.items))

-- what is left of it
abbrev pub new_after : Scanner → met_t → Kind → yaml_mark_t → layout_t → Held
new_after s r k gap_end L = record { step = s.made + 1 + 1; start = gap_end; required = is_level r.in_flow (level_after r k gap_end L) gap_end.column }

module _ (H : List Laid) (s : Scanner) (r : met_t) (x : yaml_lexeme_t) (c : CanLayAll H s r x) (k : Kind) (y : yaml_lexeme_t) (top : Option Held) (awaited : ℕ) (L : layout_t) (zs : List group_t)
    (first : IsLaidAs H s r.kind (between_of s r x top awaited L) zs) (LAST : is_stream_end r.kind ≡ false) (D : (p : ℕ) → IsMarkOf s.text.chars x.reach p → IsDecider s.text.chars r.in_flow p k y)
    (none : Bool) (C : is_some (completed_held k s.limit x.reach top) ≡ not none) (OK : IsRefused (if not r.in_flow && not (met_after r x k).allowed then problem_of k none else None) x.reach None)
    (NOW : lost_held s.limit x.reach (root_of s.slots.outer.items top) ≡ None) (LATER : lost_held s.limit y.reach (root_of s.slots.outer.items None) ≡ None) where
  abbrev between : Scanner
  between = counted (between_of s r x top awaited L)

  abbrev H1 : List Laid
  H1 = laid s.limit H first.advances.lexeme ∷ H

  then_running : ended H1 ≡ false
  unfolding laid
  then_running = rw first.kind LAST

  then_holds : HoldsWith H1 (s.made + 1 + 1) between zs
  then_holds = counted_holds H1 (s.made + 1 + 1) (between_of s r x top awaited L) zs first.advances.holds

  abbrev gap_end : yaml_mark_t
  gap_end = x.reach

  abbrev met : Met
  met = met_after r x k

  at_gap_end : IsMarkOf s.text.chars gap_end (place_after H1)
  at_gap_end = then_holds.place then_running

  decider : IsDecider s.text.chars r.in_flow (place_after H1) k y
  decider = D (place_after H1) at_gap_end

  then_gap_end : IsMarkOf s.text.chars gap_end (gap_end_of (source_of s.text.chars) H1)
  then_gap_end = gap_end_mark H1 (s.made + 1 + 1) between then_holds then_running r.in_flow c.can.is_new.flow gap_end (rw (decider.gap between.allowed) at_gap_end)

  gap_end_is : gap_end_of (source_of s.text.chars) H1 ≡ place_after H1
  gap_end_is =
      let flow : r.in_flow ≡ nat_lt 0 (depth H1) = flow_is H1 (s.made + 1 + 1) between then_holds then_running r.in_flow c.can.is_new.flow in
      subst (λ (f : Bool). (source_of s.text.chars).gap f (allowed_after H1) (place_after H1) ≡ place_after H1) flow (decider.gap (allowed_after H1))

  kind_then : Some k ≡ (source_of s.text.chars).kind r.in_flow (gap_end_of (source_of s.text.chars) H1)
  kind_then = rw gap_end_is (sym decider.kind)

  abbrev root : Option Held
  root = root_of s.slots.outer.items top

  root_then : root ≡ held s.limit H1 0
  root_then = root_held H1 (s.made + 1 + 1) between then_holds then_running r.in_flow c.can.is_new.flow root s.slots.outer.items refl refl

  start_then : gap_end ≡ Rattle.yaml_scan.specs.Step.start_at k gap_end
  start_then = rw (decider_not_end r.in_flow k decider.decides) refl

  then_met : IsMet H1 between met
  then_met = record {
    gap_end = then_gap_end;
    allowed = allowed_is H1 (s.made + 1 + 1) between then_holds then_running r.in_flow c.can.is_new.flow gap_end then_gap_end root (lost_held s.limit gap_end root) root_then refl NOW (Some k) kind_then k refl met.allowed refl;
    kind = sym (kind_is H1 (s.made + 1 + 1) between then_holds then_running r.in_flow c.can.is_new.flow gap_end then_gap_end root (lost_held s.limit gap_end root) root_then refl NOW (Some k) kind_then);
    step = row_met H1 (s.made + 1 + 1) between then_holds then_running r.in_flow c.can.is_new.flow gap_end then_gap_end root (lost_held s.limit gap_end root) root_then refl NOW (Some k) kind_then k refl met.allowed refl
        (completed_held k s.limit gap_end top) refl none C OK gap_end start_then None (rw (clears_none r.in_flow k met.allowed decider.decides) refl) refl;
  }

  then_can : CanPut H1 between zs met r.in_flow (new_after s r k gap_end L) y
  then_can = record {
    can = record { holds = then_holds; running = then_running; small = c.can.can.small; few_steps = (let f = c.can.can.few_steps in omega arith); met = then_met };
    level = level_after r k gap_end L;
    is_new = record { flow = c.can.is_new.flow; is_greatest = refl; step = refl; start = start_then; required = refl };
    read = rw gap_end_is (decider.read (vec_len s.slots.outer) (level_after r k gap_end L));
    none_lost = rw (decider_not_candidate r.in_flow k decider.decides) LATER;
  }

  -- with what changes of levels, queue and slots for the second one
  pub lays_two : (sparing : Bool) → (sparing ≡ true → length (before s.limit H1) ≤ s.taken) → (S : slots_t) (a : Bool) (M : layout_t) (ys : List group_t) → IsPut between zs met r.in_flow (new_after s r k gap_end L) y S a M ys → y.reach.index < s.near
      → (vs : List group_t) → vs ≡ ys → (t : Scanner) → counted t ≡ put_in between S a M y.reach → LaysTwo sparing H s t vs
  lays_two sparing needed S a M ys q far vs V t T =
      let after : Scanner = put_in between S a M y.reach in
      let second = put_advances H1 between zs met r.in_flow (new_after s r k gap_end L) y then_can S a M ys q in
      let b : AdvancesTwice H s after ys = record { between = between_of s r x top awaited L; then_queued = zs; first = first.advances; running = then_running; far = c.far; second = second.advances } in
      let w : (b : AdvancesTwice H s after ys) × Needs sparing H s after ys b = (b, needed) in (
        subst (λ (z : List group_t). (b : AdvancesTwice H s (counted t) z) × Needs sparing H s (counted t) z b) (sym V)
            (subst (λ (u : Scanner). (b : AdvancesTwice H s u ys) × Needs sparing H s u ys b) (sym T) w),
        subst (λ (m : yaml_mark_t). m.index < s.near) (sym (ap (λ (u : Scanner). u.reach) T)) far,
      )
