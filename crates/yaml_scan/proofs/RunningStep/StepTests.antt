-- What a step has tested, and what it stops with.
use Rattle.std.proofs.Common.{◌≡◌, ℕ, ◌+◌, ◌≤◌, ◌<◌, ◌^◌, not, Bool, true, false, List, reverse, filter, length, Option, Some, None, refl, ap, sym, ◌∙◌, subst, arith, vec_len}
use Rattle.std.specs.Prelude.{nat_lt}
use Rattle.std.specs.Option.{is_some}
use Rattle.std.proofs.lemmas.List.{reverse-reverse}
use Rattle.yaml_text.specs.declared.types.yaml_mark_t.{yaml_mark_t}
use Rattle.yaml_text.specs.Fault.{Fault, scanner_fault}
use Rattle.yaml_text.specs.Decoding.{refusal_seen}
use Rattle.yaml_lexeme.specs.Lexeme.{Lexeme as yaml_lexeme_t}
use Rattle.yaml_lexeme.specs.Counted.{IsMarkOf}
use Rattle.yaml_scan.specs.Step.{no_colon, no_token, in_next_token, in_simple_key}
use Rattle.yaml_scan.specs.declared.met.met_t.{met_t}
use Rattle.yaml_scan.specs.inside.Scanner.{Scanner}
use Rattle.yaml_scan.specs.Kind.{Kind}
use Rattle.yaml_scan.specs.Laid.{Laid, Lexeme}
use Rattle.yaml_scan.specs.Levels.{greatest_level, stays}
use Rattle.yaml_scan.specs.Falling.{IsFalling}
use Rattle.yaml_scan.specs.SourceOf.{source_of}
use Rattle.yaml_scan.specs.Step.{step, gap_end_of, start_at, place_after}
use Rattle.yaml_scan.specs.Step.Outcome.{Reads}
use Rattle.yaml_scan.specs.inside.StepFaults.{IsLost, IsRefused}
use Rattle.yaml_scan.specs.inside.Slots.{Held, held, completed_held, lost_held, root_of, slot_after, is_level}
use Rattle.yaml_scan.specs.inside.TextReads.{IsRead, IsOffence}
use Rattle.yaml_scan.specs.inside.Scanning.{CanLayAll, CanPut, CanRead, CanStep, Ends, Holds, IsMet, IsNearOf, IsNewHeld, Offends, Passes, Stays}
use Rattle.yaml_scan.specs.inside.Scanning.{allowed_in, at_marks, groups_in, cleared_in, lost_after, met_in, refused_in}
use Rattle.yaml_scan.proofs.History.LevelsFall.{open_columns-falls}
use Rattle.yaml_scan.proofs.RunningCalls.NextOfInput.{ends_near, reads_near}
use Rattle.yaml_scan.proofs.RunningStep.HeldBeside.{holds_as, marks_stay}
use Rattle.yaml_scan.proofs.RunningStep.StepLaid.{index_is, place_within, row_offence, row_stale, step_reads}
use Rattle.yaml_scan.proofs.RunningStep.TestsBefore.{allowed_is, gap_end_mark, kind_is, root_held, row_clears, row_lost, row_met, row_no_kind, row_refused}
use Rattle.yaml_scan.proofs.Texts.TextPlaces.{index_within}
use Rattle.yaml_scan.proofs.Texts.TextOrder.{text_sums}

not_not : (b : Bool) → b ≡ not (not b)
not_not true = refl
not_not false = refl

some_of : {A : Type 0} (o : Option A) → is_some o ≡ true → (a : A) × (o ≡ Some a)
some_of None e = cc
some_of (Some a) e = (a, refl)

pub none_or : {A : Type 0} (o : Option A) → is_some o ≡ false → o ≡ None
none_or None e = refl
none_or (Some a) e = cc

-- the gap ends in the text
pub gap_end_line : (H : List Laid) (s : Scanner) → length s.text.chars < 2 ^ 63 → IsMarkOf s.text.chars s.gap_end (gap_end_of (source_of s.text.chars) H) → s.gap_end.line + 1 < 2 ^ 64
unfolding source_of
gap_end_line H s small i =
    let m = ap (λ (x : yaml_mark_t). x.line) i.mark_is in
    let t = text_sums s.text.chars (gap_end_of (source_of s.text.chars) H) i.within in let w = i.within in omega arith

pub falls_in : (H : List Laid) (n : ℕ) (s : Scanner) → Holds H n s → IsFalling (reverse s.layout.levels.items)
falls_in H n s r = rw r.levels.are_open (open_columns-falls s.limit H r.is_history)

-- the candidate that is lost at the end of the gap
pub lost_in_gap : (H : List Laid) (s : Scanner) → CanStep H s → IsMarkOf s.text.chars s.gap_end (gap_end_of (source_of s.text.chars) H) → (h : Held)
    → lost_held s.limit s.gap_end (root_of s.slots.outer.items s.slots.top) ≡ Some h → Offends H s (scanner_fault no_colon s.gap_end (Some in_simple_key) h.start)
lost_in_gap H s c i h e =
    let in_flow : Bool = nat_lt 0 (vec_len s.slots.outer) in
    let root : Option Held = root_of s.slots.outer.items s.slots.top in
    row_lost H (s.made + 1) s c.holds c.running in_flow refl s.gap_end i root (lost_held s.limit s.gap_end root) (scanner_fault no_colon s.gap_end (Some in_simple_key) h.start)
    (root_held H (s.made + 1) s c.holds c.running in_flow refl root s.slots.outer.items refl refl) refl (rw e refl)

module _ (H : List Laid) (s : Scanner) (in_flow : Bool) (w : Passes H s in_flow) where
  abbrev r : Holds H (s.made + 1) s
  r = w.can.holds

  abbrev root : Option Held
  root = root_of s.slots.outer.items s.slots.top

  root_is : root ≡ held s.limit H 0
  root_is = root_held H (s.made + 1) s r w.can.running in_flow w.flow root s.slots.outer.items refl refl

  -- no lexeme starts there
  pub no_kind_there : (source_of s.text.chars).kind in_flow (gap_end_of (source_of s.text.chars) H) ≡ None → Offends H s (scanner_fault no_token s.gap_end (Some in_next_token) s.gap_end)
  no_kind_there e = row_no_kind H (s.made + 1) s r w.can.running in_flow w.flow s.gap_end w.gap_end root (lost_held s.limit s.gap_end root) root_is refl w.none_lost None (sym e) (scanner_fault no_token s.gap_end (Some in_next_token) s.gap_end) refl refl

  module _ (k : Kind) (K : (source_of s.text.chars).kind in_flow (gap_end_of (source_of s.text.chars) H) ≡ Some k) where
    abbrev a : Bool
    a = allowed_in s in_flow

    abbrev c : Option Held
    c = completed_held k s.limit s.gap_end s.slots.top

    abbrev none : Bool
    none = not (is_some c)

    -- the kind is not allowed there
    pub refused_there : (p : List ℕ) → refused_in s in_flow k a ≡ Some p → Offends H s (scanner_fault p s.gap_end None s.gap_end)
    refused_there p e = row_refused H (s.made + 1) s r w.can.running in_flow w.flow s.gap_end w.gap_end root (lost_held s.limit s.gap_end root) root_is refl w.none_lost (Some k) (sym K) k refl a refl c refl none (not_not (is_some c))
        (scanner_fault p s.gap_end None s.gap_end) (subst (λ (o : Option (List ℕ)). IsRefused o s.gap_end (Some (scanner_fault p s.gap_end None s.gap_end))) (sym e) refl)

    accepted : refused_in s in_flow k a ≡ None → IsRefused (refused_in s in_flow k a) s.gap_end None
    accepted e = subst (λ (o : Option (List ℕ)). IsRefused o s.gap_end None) (sym e) refl

    -- a required candidate would be cleared or replaced
    pub cleared_there : refused_in s in_flow k a ≡ None → (h : Held) → cleared_in s in_flow k a ≡ Some h → Offends H s (scanner_fault no_colon (start_at k s.gap_end) (Some in_simple_key) h.start)
    cleared_there e h d = row_clears H (s.made + 1) s r w.can.running in_flow w.flow s.gap_end w.gap_end root (lost_held s.limit s.gap_end root) root_is refl w.none_lost (Some k) (sym K) k refl a refl c refl none (not_not (is_some c))
        (accepted e) (start_at k s.gap_end) refl (cleared_in s in_flow k a) refl (scanner_fault no_colon (start_at k s.gap_end) (Some in_simple_key) h.start) (subst (λ (o : Option Held). IsLost o (start_at k s.gap_end) (scanner_fault no_colon (start_at k s.gap_end) (Some in_simple_key) h.start)) (sym d) refl)

    -- neither
    pub met_there : refused_in s in_flow k a ≡ None → cleared_in s in_flow k a ≡ None → IsMet H s (record { kind = k; gap_end = s.gap_end; allowed = a })
    met_there e d = record {
      gap_end = w.gap_end;
      allowed = allowed_is H (s.made + 1) s r w.can.running in_flow w.flow s.gap_end w.gap_end root (lost_held s.limit s.gap_end root) root_is refl w.none_lost (Some k) (sym K) k refl a refl;
      kind = sym (kind_is H (s.made + 1) s r w.can.running in_flow w.flow s.gap_end w.gap_end root (lost_held s.limit s.gap_end root) root_is refl w.none_lost (Some k) (sym K));
      step = row_met H (s.made + 1) s r w.can.running in_flow w.flow s.gap_end w.gap_end root (lost_held s.limit s.gap_end root) root_is refl w.none_lost (Some k) (sym K) k refl a refl c refl none (not_not (is_some c))
          (accepted e) (start_at k s.gap_end) refl (cleared_in s in_flow k a) refl d;
    }

-- what is kept of a lexeme is the same whenever it is asked
new_same : (s : Scanner) (q r : met_t) → q.kind ≡ r.kind → IsNewHeld s (met_in s q) q.in_flow q.context.level q.new → IsNewHeld s (met_in s r) r.in_flow r.context.level r.new → q.new ≡ r.new
new_same s q r k a b =
    let f : q.in_flow ≡ r.in_flow = a.flow ∙ sym b.flow in
    let st : q.new.start ≡ r.new.start = a.start ∙ ap (λ (z : Kind). start_at z s.gap_end) k ∙ sym b.start in
    let lv : q.context.level ≡ r.context.level = a.is_greatest ∙ ap (λ (z : Bool). greatest_level (filter (stays z q.kind q.new.start) (reverse s.layout.levels.items))) f
    ∙ ap (λ (z : Kind). greatest_level (filter (stays r.in_flow z q.new.start) (reverse s.layout.levels.items))) k
    ∙ ap (λ (z : yaml_mark_t). greatest_level (filter (stays r.in_flow r.kind z) (reverse s.layout.levels.items))) st ∙ sym b.is_greatest in
    let rq : q.new.required ≡ r.new.required = a.required ∙ ap (λ (z : Bool). is_level z q.context.level q.new.start.column) f
    ∙ ap (λ (z : Option ℕ). is_level r.in_flow z q.new.start.column) lv ∙ ap (λ (z : yaml_mark_t). is_level r.in_flow r.context.level z.column) st ∙ sym b.required in
    held_same q.new r.new (a.step ∙ sym b.step) st rq
  where
    held_same : (h k : Held) → h.step ≡ k.step → h.start ≡ k.start → h.required ≡ k.required → h ≡ k
    held_same h k e f g = λ j. record { step = e j; start = f j; required = g j }

pub root_same : (s : Scanner) (q r : met_t) → q.kind ≡ r.kind → q.allowed ≡ r.allowed → IsNewHeld s (met_in s q) q.in_flow q.context.level q.new → IsNewHeld s (met_in s r) r.in_flow r.context.level r.new
    → root_of s.slots.outer.items (slot_after q.kind q.allowed q.new s.slots.top) ≡ root_of s.slots.outer.items (slot_after r.kind r.allowed r.new s.slots.top)
root_same s q r k a b c = let n = new_same s q r k b c in rw (k, a, n) refl

-- the candidate that is lost is found again
pub lost_again : (s : Scanner) (q r : met_t) → q.kind ≡ r.kind → q.allowed ≡ r.allowed → IsNewHeld s (met_in s q) q.in_flow q.context.level q.new → IsNewHeld s (met_in s r) r.in_flow r.context.level r.new
    → (there m : yaml_mark_t) → there ≡ m → (root : Option Held) → root ≡ root_of s.slots.outer.items (slot_after r.kind r.allowed r.new s.slots.top) → (l : Option Held) → l ≡ lost_held s.limit there root
    → lost_after s.limit s.slots (met_in s q) q.new m ≡ l
lost_again s q r k a b c there m t root R l L =
    ap (λ (z : yaml_mark_t). lost_after s.limit s.slots (met_in s q) q.new z) (sym t)
    ∙ ap (λ (o : Option Held). lost_held s.limit there o) (root_same s q r k a b c ∙ sym R)
    ∙ sym L

-- THE GAP
abbrev pub at_gap_end : Scanner → yaml_mark_t → Scanner
at_gap_end s m = at_marks s m s.there

pub gap_end_can : (H : List Laid) (s : Scanner) (m : yaml_mark_t) → CanStep H s → CanStep H (at_gap_end s m)
gap_end_can H s m c = let h = c.holds in record { holds = holds_as H (s.made + 1) s (at_gap_end s m) h refl refl refl refl refl refl h.queue h.taken; running = c.running; small = c.small; few_steps = c.few_steps; near = c.near }

pub gap_end_stays : (s : Scanner) (m : yaml_mark_t) → Stays s (at_gap_end s m)
gap_end_stays s m = marks_stay s m s.there

module _ (H : List Laid) (s : Scanner) (c : CanStep H s) (in_flow : Bool) (FLOW : in_flow ≡ nat_lt 0 (vec_len s.slots.outer)) (m : yaml_mark_t)
    (G : (p : ℕ) → IsMarkOf s.text.chars s.reach p → IsMarkOf s.text.chars m ((source_of s.text.chars).gap in_flow s.allowed p)) where
  pub gap_end_here : IsMarkOf s.text.chars m (gap_end_of (source_of s.text.chars) H)
  gap_end_here = gap_end_mark H (s.made + 1) s c.holds c.running in_flow FLOW m (G (place_after H) (c.holds.place c.running))

  module _ (outer : List (Option Held)) (O : outer ≡ s.slots.outer.items) (root : Option Held) (R : root ≡ root_of outer s.slots.top) (lost : Bool) (L : lost ≡ is_some (lost_held s.limit m root)) where
    lost_is : lost ≡ is_some (lost_held s.limit m (root_of s.slots.outer.items s.slots.top))
    lost_is = L ∙ ap (λ (o : Option Held). is_some (lost_held s.limit m o)) (R ∙ ap (λ (l : List (Option Held)). root_of l s.slots.top) O)

    pub gap_lost : lost ≡ true → is_some (lost_held s.limit m (root_of s.slots.outer.items s.slots.top)) ≡ true
    gap_lost e = sym lost_is ∙ e

    pub gap_passed : lost ≡ false → Passes H (at_gap_end s m) in_flow
    gap_passed e = record { can = gap_end_can H s m c; flow = FLOW; gap_end = gap_end_here; none_lost = none_or (lost_held s.limit m (root_of s.slots.outer.items s.slots.top)) (sym lost_is ∙ e) }

-- AFTER THE LEXEME
module _ (H : List Laid) (s : Scanner) (q : met_t) (c : CanRead H s q) where
  abbrev cs : List ℕ
  cs = filter (stays q.in_flow q.kind q.new.start) (reverse s.layout.levels.items)

  abbrev n : ℕ
  n = s.made + 1

  level_of : q.context.level ≡ greatest_level (reverse (reverse cs))
  level_of = c.is_new.is_greatest ∙ ap greatest_level (sym (reverse-reverse cs))

  -- its offence
  pub offence_there : (f : Fault) → IsOffence s.text.chars q.kind q.context.depth q.context.level (gap_end_of (source_of s.text.chars) H) f → Offends H s f
  offence_there f o = row_offence H n s c.can.holds c.can.running (met_in s q) c.met q.in_flow c.is_new.flow q.new.start c.is_new.start (reverse cs) (reverse-reverse cs) q.context.level level_of q.context.depth c.depth f o

  module _ (x : yaml_lexeme_t) (read : IsRead s.text.chars q.kind (vec_len s.slots.outer) q.context.level (gap_end_of (source_of s.text.chars) H) x) where
    abbrev lost : Option Held
    lost = lost_after s.limit s.slots (met_in s q) q.new x.reach

    abbrev X : Lexeme
    X = record { kind = q.kind; token_data = x.token_data; gap_end = s.gap_end; start = q.new.start; end = x.end_mark; reach = x.reach; place = read.0; passed_break = x.passed_break }

    -- a candidate is lost after it
    pub stale_there : (h : Held) → lost ≡ Some h → Offends H s (scanner_fault no_colon x.reach (Some in_simple_key) h.start)
    stale_there h e = row_stale H n s c.can.holds c.can.running (met_in s q) c.met q.in_flow c.is_new.flow q.new.start c.is_new.start (reverse cs) (reverse-reverse cs) q.context.level level_of (vec_len s.slots.outer) refl x read
        (completed_held q.kind s.limit q.new.start s.slots.top) refl q.new c.is_new.step refl c.is_new.required q.allowed c.met.allowed _ refl _ s.slots.outer.items refl refl lost refl
        (scanner_fault no_colon x.reach (Some in_simple_key) h.start) (subst (λ (o : Option Held). IsLost o x.reach (scanner_fault no_colon x.reach (Some in_simple_key) h.start)) (sym e) refl)

    -- none is
    pub reads_there : lost ≡ None → step (source_of s.text.chars) s.limit H ≡ Reads X
    reads_there e = step_reads H n s c.can.holds c.can.running (met_in s q) c.met q.in_flow c.is_new.flow q.new.start c.is_new.start (reverse cs) (reverse-reverse cs) q.context.level level_of (vec_len s.slots.outer) refl x read
        (completed_held q.kind s.limit q.new.start s.slots.top) refl q.new c.is_new.step refl c.is_new.required q.allowed c.met.allowed _ refl _ s.slots.outer.items refl refl lost refl e

    pub reach_index : x.reach.index ≡ ((source_of s.text.chars).mark read.0).index
    reach_index = index_is H n s c.can.holds c.can.running (met_in s q) c.met q.in_flow c.is_new.flow q.new.start c.is_new.start (reverse cs) (reverse-reverse cs) q.context.level level_of (vec_len s.slots.outer) refl x read

    reach_within : read.0 ≤ length s.text.chars
    reach_within = place_within H n s c.can.holds c.can.running (met_in s q) c.met q.in_flow c.is_new.flow q.new.start c.is_new.start (reverse cs) (reverse-reverse cs) q.context.level level_of (vec_len s.slots.outer) refl x read

    -- it is near the reader's fault
    pub near_there : s.near ≤ x.reach.index → (f : Fault) × (refusal_seen s.refusal ≡ Some f) × Ends H s f
    near_there l = go (refusal_seen s.refusal) refl
      where
        go : (o : Option Fault) → refusal_seen s.refusal ≡ o → (f : Fault) × (refusal_seen s.refusal ≡ Some f) × Ends H s f
        go None e =
            let far : length (Rattle.yaml_text.specs.Chars.utf8 s.text.chars) < s.near = subst (λ (z : Option Fault). IsNearOf z s.text.chars s.near) e c.can.near in
            let w = index_within s.text.chars read.0 in let i = reach_index in absurd (omega arith)
        go (Some f) e = (f, e, ends lost refl)
          where
            ends : (z : Option Held) → lost ≡ z → Ends H s f
            ends None v = reads_near H s X (reads_there v) reach_within x.reach.index reach_index f e c.can.near l
            ends (Some h) v = ends_near H s (scanner_fault no_colon x.reach (Some in_simple_key) h.start) (stale_there h v) c.can.near f e l

-- a lexeme that was read can be laid
pub can_put : (H : List Laid) (s : Scanner) (q : met_t) (x : yaml_lexeme_t) → CanLayAll H s q x → CanPut H s (groups_in s) (met_in s q) q.in_flow q.new x
can_put H s q x w = let c = w.can in record {
  can = record { holds = c.can.holds; running = c.can.running; small = c.can.small; few_steps = (let f = c.can.few_steps in omega arith); met = c.met };
  level = q.context.level;
  is_new = c.is_new;
  read = subst (λ (d : ℕ). IsRead s.text.chars q.kind d q.context.level (gap_end_of (source_of s.text.chars) H) x) c.depth (w.read (gap_end_of (source_of s.text.chars) H) c.met.gap_end);
  none_lost = w.none_lost;
}
