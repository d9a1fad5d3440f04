-- The tests of a step after its lexeme, and that the lexeme is laid as the definition says.
use Rattle.std.proofs.Common.{◌≡◌, ℕ, ◌+◌, ◌≤◌, ◌<◌, not, ◌&&◌, Bool, true, false, List, [], ◌∷◌, ◌++◌, reverse, map, filter, drop, length, Option, Some, None, refl, ap, sym, ◌∙◌, subst, arith, inl, inr, eqb, vec_len, eqb-true, eq-eqb, ne_eqb}
use Rattle.std.specs.Option.{is_some, IfSome}
use Rattle.std.specs.Prelude.{if◌then◌else◌, option_map, nat_eq, nat_lt, Result, Ok, Err}
use Rattle.std.proofs.lemmas.Bool.{cases_Bool, cases_eq, and_parts}
use Rattle.yaml_text.specs.declared.types.yaml_mark_t.{yaml_mark_t}
use Rattle.yaml_text.specs.Fault.{Fault}
use Rattle.yaml_lexeme.specs.Lexeme.{Lexeme as yaml_lexeme_t}
use Rattle.yaml_lexeme.specs.Place.{place_at}
use Rattle.yaml_lexeme.specs.Counted.{IsMarkOf}
use Rattle.yaml_scan.specs.inside.StepParts.{read_step, after_read}
use Rattle.yaml_scan.specs.Course.{ended}
use Rattle.yaml_scan.specs.inside.Scanner.{Scanner}
use Rattle.yaml_scan.specs.inside.Holding.{HoldsKeys, HoldsLevels, HoldsQueue}
use Rattle.yaml_scan.specs.inside.Scanning.{Met}
use Rattle.yaml_scan.specs.declared.groups.group_t.{group_t}
use Rattle.yaml_scan.specs.declared.queue.queue_t.{queue_t}
use Rattle.yaml_scan.specs.declared.slots.slots_t.{slots_t}
use Rattle.yaml_scan.specs.declared.layout.layout_t.{layout_t}
use Rattle.yaml_text.specs.Token.{token_of}
use Rattle.yaml_scan.specs.Kind.{Kind, is_candidate_kind, is_stream_end}
use Rattle.yaml_scan.specs.Source.{Source, Reading, Offence}
use Rattle.yaml_scan.specs.SourceOf.{source_of, reading}
use Rattle.yaml_scan.specs.inside.TextReads.{IsRead, IsOffence}
use Rattle.yaml_scan.specs.Laid.{Laid, reach, is_none, Lexeme}
use Rattle.yaml_scan.specs.Keys.{candidate, live, completed_by}
use Rattle.yaml_scan.specs.Depth.{depth}
use Rattle.yaml_scan.specs.Allowed.{allowed, allowed_after, allows}
use Rattle.yaml_scan.specs.Levels.{laid, is_required, stays, open_columns, staying_columns, level}
use Rattle.yaml_scan.specs.Falling.{AllLess, IsFalling}
use Rattle.yaml_scan.specs.Levels.{greatest_level, greater_of}
use Rattle.yaml_scan.specs.Order.{IsHistory, IsNotBefore, Follows}
use Rattle.yaml_scan.specs.Groups.{end_at, offline}
use Rattle.yaml_scan.specs.Groups.Token.{BlockEnd}
use Rattle.yaml_scan.specs.inside.Opened.{opened, is_new}
use Rattle.yaml_scan.specs.inside.Slots.{Held, held, held_of, still_held, lost_held, outer_to, root_of, slot_after}
use Rattle.yaml_scan.specs.inside.Slots.{completed_held, nested_outer, nested_top, is_level, empty_slots, lowest, held_step}
use Rattle.yaml_scan.specs.Step.{Outcome, step, unless, stale, required, lost, start_at}
use Rattle.yaml_scan.specs.Step.{lexeme_of, gap_end_of, place_after}
use Rattle.yaml_scan.specs.Step.Outcome.{Reads}
use Rattle.yaml_scan.specs.Cut.{IsReadInOrder}
use Rattle.yaml_scan.specs.inside.StepFaults.{IsLost}
use Rattle.yaml_scan.specs.inside.Queue.{IsQueue, Fitting, ends_at, completed_in, opened_by}
use Rattle.yaml_scan.specs.inside.Scanning.{HoldsWith, IsMet, Offends}
use Rattle.yaml_scan.proofs.History.HistoryOrder.{IsNotBefore-trans, to_start, to_reach, completion_is}
use Rattle.yaml_scan.proofs.TokenList.NeverRevised.{start_in}
use Rattle.yaml_scan.proofs.History.KeyCandidates.{candidate-other, candidate-saved, candidate-kept, candidate-cleared, candidate_split}
use Rattle.yaml_scan.proofs.History.LevelsFall.{open_columns-falls, falling_filter}
use Rattle.yaml_scan.proofs.RunningQueue.QueueGroups.{mark_free}
use Rattle.yaml_scan.proofs.RunningStep.SlotTests.{completed_later, lost_later, root_is, outer_length}
use Rattle.yaml_scan.proofs.RunningStep.TestsBefore.{flow_is, mark_is, later, Loses, is_none_some, is_none_map}
use Rattle.yaml_scan.proofs.RunningStep.ScannerOneOn.{ends_are, levels_more, queue_more, fits, new_is, taken_more, allowed_more, outer_swept, top_swept, nested_outer_is, nested_top_is, candidate_is, allowed_of, at_depth, enters_below, reach_is}
use Rattle.yaml_scan.proofs.Texts.TextOrder.{text_order, text_problem, text_sums, text_reach}

held_eq : (h : Held) (n : ℕ) (st : yaml_mark_t) (q : Bool) → h.step ≡ n → h.start ≡ st → h.required ≡ q → h ≡ record { step = n; start = st; required = q }
held_eq h n st q e f g = rw (← e, ← f, ← g) refl

-- the stale test after one lexeme more
module _ (limit : ℕ) (H : List Laid) (x : Lexeme) (h : IsHistory limit (laid limit H x ∷ H)) (fresh : stale limit H (reach H) ≡ None) where
  -- what is found lost is what the step tests for
  pub record Agrees (p : Option Held) (o : Option Laid) : Type 0 where
    pub lost : (m : yaml_mark_t) (n : ℕ) (f : Fault) (r : Outcome) → IsLost p m f → Loses m n (unless o m n r) f
    pub none : p ≡ None → o ≡ None

  agrees_map : (f : Laid → Held) → ((c : Laid) → (f c).start ≡ c.lexeme.start) → (p : Option Held) (o : Option Laid) → p ≡ option_map f o → Agrees p o
  agrees_map f s p None e = record { lost = λ m n g r l. absurd (rw e at l); none = λ n. refl }
  agrees_map f s p (Some c) e = record {
    lost = λ m n g r l. let q : IsLost (Some (f c)) m g = rw e at l in record { start = c.lexeme.start; is = refl; fault = ap (λ (z : yaml_mark_t). (lost z m n).fault) (sym (s c)) ∙ sym q };
    none = λ n. let q : Some (f c) ≡ None = sym e ∙ n in absurd (cc);
  }

  -- where the candidate of depth 0 is as before
  same_root : candidate (laid limit H x ∷ H) 0 ≡ candidate H 0 → lost_held limit x.reach (held limit H 0) ≡ option_map held_of (stale limit (laid limit H x ∷ H) x.reach)
  unfolding stale required laid
  same_root e = lost_later limit H h.2 x.reach onward fresh ∙ (rw e refl)
    where
      onward : IsNotBefore (reach H) x.reach
      onward = IsNotBefore-trans _ _ _ (to_start h.1) (to_reach h.1)

  saved_root : (i : Laid) → candidate (laid limit H x ∷ H) 0 ≡ Some i → lost_held limit x.reach (Some (held_of i)) ≡ option_map held_of (stale limit (laid limit H x ∷ H) x.reach)
  unfolding stale required
  saved_root i e = elim (cases_Bool (is_required i)) [
    | inl r ↦ elim (cases_Bool (live limit i x.reach)) [
      | inl t ↦ rw (r, t) (rw (e) (rw r (rw t refl)))
      | inr t ↦ rw (r, t) (rw (e) (rw r (rw t (ap (λ (q : Bool). new_with q) (sym r)))))
    ]
    | inr r ↦ rw r (rw e (rw r refl))
  ]
    where
      new_with : Bool → Option Held
      new_with q = Some record { step = i.number + 2; start = i.lexeme.start; required = q }

  none_root : candidate (laid limit H x ∷ H) 0 ≡ None → stale limit (laid limit H x ∷ H) x.reach ≡ None
  unfolding stale required
  none_root e = rw e refl

  module _ (a : Bool) (A : a ≡ allowed H x.gap_end) where
    abbrev settled_root : Option Held
    settled_root = root_of (outer_to limit H (depth H)) (slot_after x.kind a (held_of (laid limit H x)) (held limit H (depth H)))

    pub root_agrees : Agrees (lost_held limit x.reach settled_root) (stale limit (laid limit H x ∷ H) x.reach)
    root_agrees = elim (cases_eq (depth H) 0) [
      | inr z ↦ (let d : eqb (laid limit H x).depth 0 ≡ false = ne_eqb _ _ (λ q. z (sym (eqb-true _ _ (at_depth limit H x h)) ∙ q)) in
          let e : candidate (laid limit H x ∷ H) 0 ≡ candidate H 0 = candidate-other (laid limit H x) H 0 (enters_below limit H x h 0 (omega arith)) d in
          let w : settled_root ≡ held limit H 0 = root_is limit H (depth H) _ (λ q. absurd (z q)) in
          agrees_map held_of (λ c. refl) _ _ (rw w (same_root e)))
      | inl z ↦ (let d : eqb (laid limit H x).depth 0 ≡ true = eq-eqb _ _ (eqb-true _ _ (at_depth limit H x h) ∙ z) in
          let o : outer_to limit H (depth H) ≡ [] = rw z refl in
          let u : settled_root ≡ slot_after x.kind a (held_of (laid limit H x)) (held limit H 0) = rw (o, z) refl in
          elim (cases_Bool (is_candidate_kind x.kind)) [
            | inl c ↦ elim (cases_Bool a) [
              | inl b ↦ (let e : candidate (laid limit H x ∷ H) 0 ≡ Some (laid limit H x) = candidate-saved (laid limit H x) H 0 (enters_below limit H x h 0 (omega arith)) d (candidate_is limit H x h ∙ c) (allowed_of limit H x h ∙ sym A ∙ b) in
                  let w : settled_root ≡ Some (held_of (laid limit H x)) = u ∙ (rw (c, b) refl) in
                  agrees_map held_of (λ c. refl) _ _ (rw w (saved_root (laid limit H x) e)))
              | inr b ↦ (let e : candidate (laid limit H x ∷ H) 0 ≡ candidate H 0 = candidate-kept (laid limit H x) H 0 (enters_below limit H x h 0 (omega arith)) d (candidate_is limit H x h ∙ c) (allowed_of limit H x h ∙ sym A ∙ b) in
                  let w : settled_root ≡ held limit H 0 = u ∙ (rw (c, b) refl) in
                  agrees_map held_of (λ c. refl) _ _ (rw w (same_root e)))
            ]
            | inr c ↦ (let e : candidate (laid limit H x ∷ H) 0 ≡ None = candidate-cleared (laid limit H x) H 0 (enters_below limit H x h 0 (omega arith)) d (candidate_is limit H x h ∙ c) in
                let w : settled_root ≡ None = u ∙ (rw c refl) in
                agrees_map held_of (λ c. refl) _ _ (rw (w, none_root e) refl))
          ])
    ]

-- THE COLUMNS
less_filter : (n : ℕ) (t : ℕ → Bool) (cs : List ℕ) → AllLess n cs → AllLess n (filter t cs)
less_filter n t [] a = tt
less_filter n t (c ∷ cs) a = elim (cases_Bool (t c)) [ inl q ↦ rw q (a.0, less_filter n t cs a.1) | inr q ↦ rw q (less_filter n t cs a.1) ]

greatest_less : (n : ℕ) (cs : List ℕ) → AllLess n cs → IfSome (greatest_level cs) (λ l. l < n)
greatest_less n [] a = tt
greatest_less n (c ∷ cs) a = go (greatest_level cs) (greatest_less n cs a.1)
  where
    go : (o : Option ℕ) → IfSome o (λ l. l < n) → IfSome (greater_of c o) (λ l. l < n)
    go None b = a.0
    go (Some l) b = let d = a.0 in omega arith

some_less : (n : ℕ) (o : Option ℕ) → IfSome o (λ l. l < n + 1) → IfSome o (λ l. l ≤ n)
some_less n None a = tt
some_less n (Some l) a = omega arith

start_less : (k : Kind) (g : yaml_mark_t) (n : ℕ) → g.column ≤ n → (start_at k g).column < n + 1
start_less k g n l = go (is_stream_end k) (nat_eq g.column 0)
  where
    go : (a b : Bool) → (if a then (if b then g else record { index = g.index; line = g.line + 1; column = 0 }) else g).column < n + 1
    go true true = omega arith
    go true false = omega arith
    go false b = omega arith

-- a completed candidate starts before the lexeme, on its line
completed_column : (limit : ℕ) (H : List Laid) (x : Lexeme) (c : Laid) → IsHistory limit (laid limit H x ∷ H) → Follows (reach H) x → completed_by limit H x.kind x.start ≡ Some c → c.lexeme.start.column ≤ x.start.column
completed_column limit H x c h f e =
    let s = completion_is limit H x c e in
    let a = candidate_split H (depth H) c s.candidate in
    let o = IsNotBefore-trans _ _ _ (start_in limit H a.newer c a.older a.is h.2) (to_start f) in
    let p = and_parts _ _ s.live in
    let q : x.start.line ≡ c.lexeme.start.line = eqb-true _ _ p.0 in
    o.column (sym q)

opened_less : (limit : ℕ) (H : List Laid) (x : Lexeme) (n : ℕ) (in_flow : Bool) (cs : List ℕ) (o : Option Laid) → completed_by limit H x.kind x.start ≡ o → IsHistory limit (laid limit H x ∷ H) → Follows (reach H) x → x.start.column < n → AllLess n cs
    → AllLess n (opened in_flow (option_map held_of o) x.kind x.start cs)
opened_less limit H x n in_flow cs None e h f l a = go (is_new in_flow x.start.column cs && Rattle.yaml_scan.specs.Levels.opens_level x.kind true)
  where
    go : (b : Bool) → AllLess n ((if b then x.start.column ∷ [] else []) ++ cs)
    go true = (l, a)
    go false = a
opened_less limit H x n in_flow cs (Some c) e h f l a = go (is_new in_flow c.lexeme.start.column cs)
  where
    go : (b : Bool) → AllLess n ((if b then c.lexeme.start.column ∷ [] else []) ++ cs)
    go true = (let d = completed_column limit H x c h f e in omega arith, a)
    go false = a

-- THE STEP
-- the scanner with other slots and another layout, after what was read to a mark
abbrev pub put_in : Scanner → slots_t → Bool → layout_t → yaml_mark_t → Scanner
put_in s S a L reach = record {
  alloc = s.alloc;
  text = s.text;
  refusal = s.refusal;
  near = s.near;
  limit = s.limit;
  slots = S;
  allowed = a;
  layout = L;
  reach = reach;
  gap_end = s.gap_end;
  there = s.there;
  taken = s.taken;
  made = s.made;
}

module _ (H : List Laid) (N : ℕ) (s : Scanner) {ys : List group_t} (r : HoldsWith H N s ys) (running : ended H ≡ false) (m : Met) (w : IsMet H s m) (in_flow : Bool) (FLOW : in_flow ≡ nat_lt 0 (vec_len s.slots.outer))
    (start : yaml_mark_t) (START : start ≡ start_at m.kind m.gap_end) where
  abbrev S : Source
  S = source_of s.text.chars

  abbrev P : ℕ
  P = gap_end_of S H

  gap_end_is : m.gap_end ≡ S.mark P
  gap_end_is = mark_is H N s r running in_flow FLOW m.gap_end w.gap_end

  pub levels_fall : IsFalling (reverse s.layout.levels.items)
  levels_fall = rw r.levels.are_open (open_columns-falls s.limit H r.is_history)

  open_is : filter (stays in_flow m.kind start) (reverse s.layout.levels.items) ≡ staying_columns H m.kind start
  unfolding staying_columns
  open_is = rw (flow_is H N s r running in_flow FLOW, r.levels.are_open) refl

  kept_less : (k : Kind) (g : yaml_mark_t) → AllLess (length s.text.chars + 1) (staying_columns H k g)
  unfolding staying_columns
  kept_less k g = less_filter (length s.text.chars + 1) _ (open_columns H) r.levels.columns

  gap_end_within : P ≤ length s.text.chars
  gap_end_within = w.gap_end.within

  gap_end_column : m.gap_end.column ≤ length s.text.chars
  gap_end_column = let t = text_sums s.text.chars P gap_end_within in let q = ap (λ (z : yaml_mark_t). z.column) gap_end_is in let v = gap_end_within in omega arith

  module _ (l : List ℕ) (L : reverse l ≡ filter (stays in_flow m.kind start) (reverse s.layout.levels.items)) where
    l_is : reverse l ≡ staying_columns H m.kind start
    l_is = L ∙ open_is

    pub l_falls : IsFalling (reverse l)
    l_falls = rw L (falling_filter (stays in_flow m.kind start) (reverse s.layout.levels.items) levels_fall)

    module _ (level' : Option ℕ) (LV : level' ≡ greatest_level (reverse l)) (n : ℕ) (D : n ≡ vec_len s.slots.outer) where
      pub level_within : IfSome level' (λ z. z ≤ length s.text.chars)
      level_within = rw (LV, l_is) (some_less (length s.text.chars) (greatest_level (staying_columns H m.kind start)) (greatest_less (length s.text.chars + 1) (staying_columns H m.kind start) (kept_less m.kind start)))

      level_is : level' ≡ level H m.kind (start_at m.kind (S.mark P))
      unfolding level
      level_is = LV ∙ ap greatest_level l_is ∙ ap (λ (z : yaml_mark_t). greatest_level (staying_columns H m.kind z)) (START ∙ ap (start_at m.kind) gap_end_is)

      depth_of : n ≡ depth H
      depth_of = let e = ap (λ (l : List (Option Held)). length l) r.keys.outer in let o = outer_length s.limit H (depth H) in omega arith

      pub kind_there : S.kind (nat_lt 0 n) P ≡ Some m.kind
      kind_there = rw depth_of w.kind

      read_is : S.read m.kind n level' P ≡ S.read m.kind (depth H) (level H m.kind (start_at m.kind (S.mark P))) P
      read_is = rw (depth_of, level_is) refl

      step_read : (b : Result Reading Offence) → S.read m.kind n level' P ≡ b → step S s.limit H ≡ after_read s.limit H m.kind (S.mark P) b
      unfolding read_step
      step_read b e = w.step ∙ ap (λ (z : Result Reading Offence). after_read s.limit H m.kind (S.mark P) z) (sym read_is ∙ e)

      -- row 5
      pub row_offence : (f : Fault) → IsOffence s.text.chars m.kind n level' P f → Offends H s f
      row_offence f o = record { offence = o.0; step = step_read (Err o.0) o.1; fault = o.2; problem = text_problem s.text.chars r.text m.kind n level' P o.0 gap_end_within kind_there o.1 }

      module _ (b : yaml_lexeme_t) (read : IsRead s.text.chars m.kind n level' P b) where
        abbrev X : Lexeme
        X = record { kind = m.kind; token_data = b.token_data; gap_end = m.gap_end; start = start; end = b.end_mark; reach = b.reach; place = read.0; passed_break = b.passed_break }

        abbrev R : Reading
        R = reading b read.0

        x_is : X ≡ lexeme_of m.kind (S.mark P) R
        x_is = rw (START, gap_end_is) refl

        size_is : S.size ≡ length s.text.chars
        unfolding source_of
        size_is = refl

        in_order : IsReadInOrder S m.kind P R
        in_order = (text_order s.text.chars r.text).reads m.kind n level' P R (let z = size_is in let v = gap_end_within in omega arith) kind_there read.1

        follows : Follows (reach H) X
        follows = let q : Follows (S.mark P) X = subst (λ (z : Lexeme). Follows (S.mark P) z) (sym x_is) in_order.follows in
            record { gap_end = later H N s r running in_flow FLOW m.gap_end w.gap_end; start = q.start; at_once = q.at_once; end = q.end; reach = q.reach; takes_a_byte = q.takes_a_byte; takes_a_column = q.takes_a_column; ends_at_column_0 = q.ends_at_column_0 }

        pub history : IsHistory s.limit (laid s.limit H X ∷ H)
        unfolding laid
        history = (refl, follows, r.is_history, running)

        pub place_within : read.0 ≤ length s.text.chars
        place_within = let z = size_is in let v = in_order.within in omega arith

        pub index_is : b.reach.index ≡ (S.mark read.0).index
        index_is = text_reach s.text.chars r.text m.kind n level' P R gap_end_within kind_there read.1

        laid_place : place_after (laid s.limit H X ∷ H) ≡ read.0
        unfolding laid
        laid_place = refl

        laid_ended : ended (laid s.limit H X ∷ H) ≡ is_stream_end m.kind
        unfolding laid
        laid_ended = refl

        reach_of : (q : ℕ) → b.reach ≡ S.mark q → b.reach ≡ (place_at s.text.chars q).mark
        unfolding source_of
        reach_of q e = e

        pub place_then : ended (laid s.limit H X ∷ H) ≡ false → IsMarkOf s.text.chars b.reach (place_after (laid s.limit H X ∷ H))
        place_then e = rw laid_place record { within = place_within; mark_is = reach_of read.0 (in_order.reach (sym laid_ended ∙ e)) }

        step_kept : step S s.limit H ≡ unless (stale s.limit (laid s.limit H X ∷ H) b.reach) b.reach read.0 (Reads X)
        step_kept = subst (λ (z : Lexeme). step S s.limit H ≡ unless (stale s.limit (laid s.limit H z ∷ H) b.reach) b.reach read.0 (Reads z)) (sym x_is) (step_read (Ok R) read.1)

        module _ (c : Option Held) (C : c ≡ completed_held m.kind s.limit start s.slots.top) where
          c_is : c ≡ option_map held_of (completed_by s.limit H X.kind X.start)
          c_is = C ∙ (rw r.keys.top (completed_later s.limit H r.is_history X.start (to_start follows) X.kind))

          none_early : IsQueue s.text.encoding 0 s.layout.queue.early_mark ys (drop s.taken (offline H))
          none_early = subst (λ (k : ℕ). IsQueue s.text.encoding k s.layout.queue.early_mark ys (drop s.taken (offline H))) (r.queue.early running) r.queue.tokens

          pub fitting : Fitting c s.layout.queue.done ys
          fitting = rw c_is (fits s.limit H X history s.taken r.taken s.text.encoding s.layout.queue.early_mark ys none_early s.layout.queue.done r.queue.count)

          -- the levels
          pub levels_then : (l2 : List ℕ) → reverse l2 ≡ opened in_flow c X.kind X.start (reverse l) → HoldsLevels (length s.text.chars) (laid s.limit H X ∷ H) l2
          levels_then l2 e = record {
            are_open = e ∙ (rw (flow_is H N s r running in_flow FLOW, c_is, l_is) (levels_more s.limit H X history));
            columns = subst (λ (z : List ℕ). AllLess (length s.text.chars + 1) z) (levels_more s.limit H X history)
                (opened_less s.limit H X (length s.text.chars + 1) (nat_lt 0 (depth H)) (staying_columns H X.kind X.start) (completed_by s.limit H X.kind X.start) refl history follows
                (rw START (start_less m.kind m.gap_end (length s.text.chars) gap_end_column)) (kept_less X.kind X.start));
          }

          -- the queue
          pub queue_then : (q : queue_t) (y : group_t) (f : yaml_mark_t) → (is_stream_end m.kind ≡ false → q.early ≡ 0) → (0 < q.early → q.early_mark ≡ f) → q.done ≡ s.layout.queue.done
              → ends_at q.early f ++ ends_at y.ends start ≡ map (λ z. BlockEnd (end_at m.kind m.gap_end start z)) (filter (λ z. not (stays in_flow m.kind start z)) (reverse s.layout.levels.items))
              → token_of y.token ≡ record { token_data = b.token_data; start_mark = start; end_mark = b.end_mark } → y.key ≡ false → y.opens ≡ opened_by in_flow c m.kind start.column (reverse l)
              → (zs : List group_t) → zs ≡ completed_in in_flow c (reverse l) s.layout.queue.done ys ++ y ∷ [] → length zs ≡ length ys + 1 → HoldsQueue s.text.encoding s.taken (laid s.limit H X ∷ H) q zs
          queue_then q y f Z F D E Y K O zs V G = record {
            tokens = mark_free s.text.encoding q.early f q.early_mark zs (drop s.taken (offline (laid s.limit H X ∷ H))) F (rw V (rw (flow_is H N s r running in_flow FLOW, c_is, l_is) (queue_more s.limit H X history s.taken r.taken s.text.encoding s.layout.queue.early_mark ys none_early s.layout.queue.done r.queue.count y q.early f
                (E ∙ ap (λ (f : Bool). map (λ z. BlockEnd (end_at m.kind m.gap_end start z)) (filter (λ z. not (stays f m.kind start z)) (reverse s.layout.levels.items))) (flow_is H N s r running in_flow FLOW)
                ∙ ap (λ (z : List ℕ). map (λ z. BlockEnd (end_at m.kind m.gap_end start z)) (filter (λ z. not (stays (nat_lt 0 (depth H)) m.kind start z)) z)) r.levels.are_open ∙ ends_are s.limit H X history)
                Y K (O ∙ (rw (flow_is H N s r running in_flow FLOW, c_is, l_is) refl)))));
            count = (let k = r.queue.count in omega arith);
            early = λ e. Z (sym laid_ended ∙ e);
          }

          allowed_then : (none : Bool) → is_some c ≡ not none → (a : Bool) → ((d : ℕ) → in_flow ≡ nat_lt 0 d → a ≡ allows X.kind d none X.passed_break) → a ≡ allowed_after (laid s.limit H X ∷ H)
          allowed_then none V a e = e (depth H) (flow_is H N s r running in_flow FLOW) ∙ allowed_more s.limit H X history none (is_none_some c none V ∙ ap (λ (z : Option Held). is_none z) c_is ∙ is_none_map (completed_by s.limit H X.kind X.start))

          -- the slots
          module _ (new : Held) (NA : new.step ≡ N) (NS : new.start ≡ start) (NR : new.required ≡ is_level in_flow level' start.column)
              (a : Bool) (A : a ≡ allowed H m.gap_end) (top' : Option Held) (T : top' ≡ slot_after m.kind a new s.slots.top) where
            required_then : new.required ≡ is_level (nat_lt 0 (depth H)) (greatest_level (staying_columns H m.kind start)) start.column
            required_then = NR ∙ (rw (flow_is H N s r running in_flow FLOW, LV, l_is) refl)

            new_laid : new ≡ held_of (laid s.limit H X)
            new_laid = new_is s.limit H X history new (held_eq new _ _ _ (NA ∙ r.number) NS required_then)

            root_then : (root : Option Held) (o : List (Option Held)) → o ≡ s.slots.outer.items → root ≡ root_of o top' → root ≡ settled_root s.limit H X history r.keys.fresh a A
            root_then root o O e = e ∙ ap (λ (z : List (Option Held)). root_of z top') (O ∙ r.keys.outer) ∙ ap (λ (z : Option Held). root_of (outer_to s.limit H (depth H)) z)
                (T ∙ ap (λ (z : Held). slot_after m.kind a z s.slots.top) new_laid ∙ ap (λ (z : Option Held). slot_after m.kind a (held_of (laid s.limit H X)) z) r.keys.top)

            module _ (root : Option Held) (o : List (Option Held)) (O : o ≡ s.slots.outer.items) (ROOT : root ≡ root_of o top') (lost' : Option Held) (LO : lost' ≡ lost_held s.limit b.reach root) where
              agree : Agrees s.limit H X history r.keys.fresh lost' (stale s.limit (laid s.limit H X ∷ H) b.reach)
              agree = rw (LO, root_then root o O ROOT) (root_agrees s.limit H X history r.keys.fresh a A)

              -- row 6
              pub row_stale : (f : Fault) → IsLost lost' b.reach f → Offends H s f
              row_stale f e = let v = agree.lost b.reach read.0 f (Reads X) e in record {
                offence = lost v.start b.reach read.0;
                step = step_kept ∙ v.is;
                fault = v.fault;
                problem = record { kind = refl; within = in_order.within; index = index_is };
              }

              pub step_reads : lost' ≡ None → step S s.limit H ≡ Reads X
              step_reads e = step_kept ∙ (rw (agree.none e) refl)

            swept : map (still_held s.limit b.reach) s.slots.outer.items ≡ outer_to s.limit (laid s.limit H X ∷ H) (depth H)
            swept = rw r.keys.outer (outer_swept s.limit H X history (depth H) (omega arith))

            swept_top : still_held s.limit b.reach top' ≡ held s.limit (laid s.limit H X ∷ H) (depth H)
            swept_top = ap (λ (z : Option Held). still_held s.limit b.reach z) (T ∙ ap (λ (z : Option Held). slot_after m.kind a new z) r.keys.top) ∙ top_swept s.limit H X history a A new new_laid

            pub keys_then : lost_held s.limit b.reach (root_of s.slots.outer.items top') ≡ None → (S : slots_t) → S.outer.items ≡ nested_outer m.kind (map (still_held s.limit b.reach) s.slots.outer.items) (still_held s.limit b.reach top')
                → S.top ≡ nested_top m.kind (map (still_held s.limit b.reach) s.slots.outer.items) (still_held s.limit b.reach top') → S.not_simple_keys ≡ empty_slots S.outer.items → S.awaited ≡ held_step (lowest (S.outer.items ++ S.top ∷ []))
                → (none : Bool) → is_some c ≡ not none → (may : Bool) → ((d : ℕ) → in_flow ≡ nat_lt 0 d → may ≡ allows X.kind d none X.passed_break) → HoldsKeys s.limit (laid s.limit H X ∷ H) S may
            keys_then lost S O T E W none V may e = record {
              fresh = ap (λ (z : yaml_mark_t). stale s.limit (laid s.limit H X ∷ H) z) (reach_is s.limit H X history) ∙ (let v = agree (root_of s.slots.outer.items top') s.slots.outer.items refl refl _ refl in v.none lost);
              outer = O ∙ (rw (swept, swept_top) (nested_outer_is s.limit H X history));
              empty = E;
              top = T ∙ (rw (swept, swept_top) (nested_top_is s.limit H X history));
              awaited = W;
              allowed = allowed_then none V may e;
            }

        -- all that the scanner holds
        pub holds_then : (S : slots_t) (may : Bool) (L : layout_t) (zs : List group_t) → HoldsKeys s.limit (laid s.limit H X ∷ H) S may → HoldsLevels (length s.text.chars) (laid s.limit H X ∷ H) L.levels.items
            → HoldsQueue s.text.encoding s.taken (laid s.limit H X ∷ H) L.queue zs → HoldsWith (laid s.limit H X ∷ H) (N + 1) (put_in s S may L b.reach) zs
        holds_then S may L zs keys levels queue = record {
          text = r.text;
          is_history = history;
          number = (let n = r.number in omega arith);
          keys = keys;
          levels = levels;
          queue = queue;
          reach = sym (reach_is s.limit H X history);
          taken = taken_more s.limit H X history s.taken r.taken;
          place = place_then;
        }
