-- What a running scanner holds after the lexemes H.
use Rattle.std.specs.Prelude.{◌≡◌, ℕ, ◌+◌, ◌-◌, ◌≤◌, ◌<◌, ◌^◌, true, false, List, [], ◌∷◌, reverse, length}
use Rattle.std.specs.Prelude.{◌⊎◌, ◌&&◌, ◌||◌, Bool, Option, None, Some, nat_lt, not, filter, vec_len, MatchResult}
use Rattle.std.specs.Prelude.{Result, Ok, Err, if◌then◌else◌, slice_get}
use Rattle.std.specs.Option.{IfSome, is_some}
use Rattle.std.specs.Vec.{vec_capacity}
use Rattle.std.specs.VecDeque.{deque_capacity}
use Rattle.yaml_text.specs.declared.types.yaml_mark_t.{yaml_mark_t}
use Rattle.yaml_lexeme.specs.Lexeme.{Lexeme as yaml_lexeme_t}
use Rattle.yaml_text.specs.Fault.{Fault, memory_fault}
use Rattle.yaml_text.specs.Chars.{utf8}
use Rattle.yaml_text.specs.TextBytes.{AreChars}
use Rattle.yaml_text.specs.Decoding.{refusal_seen}
use Rattle.yaml_lexeme.specs.Counted.{IsMarkOf}
use Rattle.yaml_lexeme.specs.Decider.{one_on}
use Rattle.yaml_lexeme.specs.Answers.{refused_at}
use Rattle.yaml_lexeme.specs.LexemeOf.{lexeme_of}
use Rattle.yaml_lexeme.specs.declared.lex.yaml_context_t.{yaml_context_t}
use Rattle.yaml_lexeme.specs.declared.lexeme.yaml_lexeme_t.{yaml_lexeme_t as code_lexeme_t}
use Rattle.yaml_lexeme.specs.declared.problem.yaml_refusal_t.{yaml_refusal_t}
use Rattle.yaml_lexeme.specs.declared.problem.yaml_refusal_t.TheVariants.{MEMORY}
use Rattle.yaml_scan.specs.inside.Holding.{HoldsKeys, HoldsLevels, HoldsQueue}
use Rattle.yaml_scan.specs.inside.StepParts.{read_step}
use Rattle.yaml_scan.specs.Course.{ended, oldest, Input, Course, course, next}
use Rattle.yaml_scan.specs.declared.stop.stop_t.{stop_t}
use Rattle.yaml_scan.specs.declared.groups.group_t.{group_t}
use Rattle.yaml_scan.specs.declared.met.met_t.{met_t}
use Rattle.yaml_scan.specs.inside.Scanner.{Scanner}
use Rattle.yaml_scan.specs.declared.slots.slots_t.{slots_t}
use Rattle.yaml_scan.specs.Kind.{Kind, is_candidate_kind, is_flow_start}
use Rattle.yaml_scan.specs.Source.{Source, Offence}
use Rattle.yaml_scan.specs.SourceOf.{source_of}
use Rattle.yaml_scan.specs.inside.Stop.{fault_at}
use Rattle.yaml_scan.specs.inside.TextReads.{IsDecider, IsOffence, IsProblem, IsRead}
use Rattle.yaml_scan.specs.Laid.{Laid, reach, Lexeme}
use Rattle.yaml_scan.specs.Depth.{depth}
use Rattle.yaml_scan.specs.Allowed.{allowed}
use Rattle.yaml_scan.specs.Levels.{laid, greatest_level, stays}
use Rattle.yaml_scan.specs.Order.{IsHistory}
use Rattle.yaml_scan.specs.Groups.{offline}
use Rattle.yaml_scan.specs.Settled.{before, first_steps, pace}
use Rattle.yaml_scan.specs.inside.Slots.{Held}
use Rattle.yaml_scan.specs.inside.Slots.{completed_held, is_live, is_level, lost_held, needed}
use Rattle.yaml_scan.specs.inside.Slots.{root_of, slot_after}
use Rattle.yaml_scan.specs.inside.Queue.{begins_with_end, closing, pending}
use Rattle.yaml_scan.specs.Step.{step, place_after, gap_end_of, start_at, problem_of, replaces}
use Rattle.yaml_scan.specs.Step.Outcome.{Reads, Faults}
use Rattle.yaml_scan.specs.Near.{is_near}

-- what it scans
abbrev pub text_of : Scanner → Source
text_of s = source_of s.text.chars

abbrev pub input_of : Scanner → Input
input_of s = record { encoding = s.text.encoding; source = source_of s.text.chars; refusal = refusal_seen s.refusal }

-- from which index on steps are near
abbrev pub IsNearFrom : List ℕ → ℕ → Type 0
IsNearFrom cs near = (p : ℕ) → p ≤ length cs
    → (near ≤ ((source_of cs).mark p).index → is_near (length cs) p ≡ true)
    × (((source_of cs).mark p).index < near → is_near (length cs) p ≡ false)

-- the same of an input: no index is as great, if it was not refused
abbrev pub IsNearOf : Option Fault → List ℕ → ℕ → Type 0
IsNearOf None cs near = length (utf8 cs) < near
IsNearOf (Some f) cs near = IsNearFrom cs near

-- What a scanner holds if it has these groups in its queue. n is the number of the next step.
pub record HoldsWith (H : List Laid) (n : ℕ) (s : Scanner) (ys : List group_t) : Type 0 where
  pub text : AreChars s.text.chars
  pub is_history : IsHistory s.limit H
  pub number : n ≡ length H + 2
  pub keys : HoldsKeys s.limit H s.slots s.allowed
  pub levels : HoldsLevels (length s.text.chars) H s.layout.levels.items
  pub queue : HoldsQueue s.text.encoding s.taken H s.layout.queue ys
  pub reach : s.reach ≡ reach H
  pub taken : s.taken ≤ length (before s.limit H)
  pub place : ended H ≡ false → IsMarkOf s.text.chars s.reach (place_after H)

abbrev pub groups_in : Scanner → List group_t
groups_in s = s.layout.queue.groups.items

-- n is the number of the next step
abbrev pub Holds : List Laid → ℕ → Scanner → Type 0
Holds H n s = HoldsWith H n s (groups_in s)

-- a kind of lexeme after the gap, where the gap ends, and whether a key is allowed there
pub record Met : Type 0 where
  pub kind : Kind
  pub gap_end : yaml_mark_t
  pub allowed : Bool

-- what a step has met
abbrev pub met_in : Scanner → met_t → Met
met_in s r = record { kind = r.kind; gap_end = s.gap_end; allowed = r.allowed }

-- the kind of lexeme that was found after the gap
pub record IsMet (H : List Laid) (s : Scanner) (m : Met) : Type 0 where
  pub gap_end : IsMarkOf s.text.chars m.gap_end (gap_end_of (text_of s) H)
  pub allowed : m.allowed ≡ allowed H m.gap_end
  pub kind : (text_of s).kind (nat_lt 0 (depth H)) (gap_end_of (text_of s) H) ≡ Some m.kind
  pub step : step (text_of s) s.limit H ≡ read_step (text_of s) s.limit H m.kind (gap_end_of (text_of s) H)

-- a lexeme that was met can be read and laid, after the groups ys
pub record CanLay (H : List Laid) (s : Scanner) (ys : List group_t) (m : Met) : Type 0 where
  pub holds : HoldsWith H (s.made + 1) s ys
  pub running : ended H ≡ false
  pub small : length s.text.chars < 2 ^ 63
  pub few_steps : s.made + 1 < 2 ^ 64
  pub met : IsMet H s m

-- there is room for what the step of a lexeme of kind k may keep, in flow or not: for one more group, for one more
-- depth if it enters one, and for one more level outside flow
pub record HasRoom (s : Scanner) (in_flow : Bool) (k : Kind) : Type 0 where
  pub depths : is_flow_start k ≡ true → vec_len s.slots.outer < vec_capacity s.slots.outer
  pub levels : in_flow ≡ false → vec_len s.layout.levels < vec_capacity s.layout.levels
  pub groups : length s.layout.queue.groups.items < deque_capacity s.layout.queue.groups

-- a step can be made, or two
pub record CanStep (H : List Laid) (s : Scanner) : Type 0 where
  pub holds : Holds H (s.made + 1) s
  pub running : ended H ≡ false
  pub small : length s.text.chars < 2 ^ 63
  pub few_steps : s.made + 2 < 2 ^ 64
  pub near : IsNearOf (refusal_seen s.refusal) s.text.chars s.near

-- the gap was passed, in flow or not, and no candidate is lost there
pub record Passes (H : List Laid) (s : Scanner) (in_flow : Bool) : Type 0 where
  pub can : CanStep H s
  pub flow : in_flow ≡ nat_lt 0 (vec_len s.slots.outer)
  pub gap_end : IsMarkOf s.text.chars s.gap_end (gap_end_of (text_of s) H)
  pub none_lost : lost_held s.limit s.gap_end (root_of s.slots.outer.items s.slots.top) ≡ None

-- a lexeme of kind k comes after the gap
pub record Comes (H : List Laid) (s : Scanner) (in_flow : Bool) (k : Kind) : Type 0 where
  pub passes : Passes H s in_flow
  pub is_kind : (text_of s).kind in_flow (gap_end_of (text_of s) H) ≡ Some k

-- whether a key is allowed there
abbrev pub allowed_in : Scanner → Bool → Bool
allowed_in s in_flow = s.allowed || (not in_flow && nat_lt s.reach.line s.gap_end.line)

-- what is wrong with a kind after the gap, if it needs an allowed key and none is allowed
abbrev pub refused_in : Scanner → Bool → Kind → Bool → Option (List ℕ)
refused_in s in_flow k allowed = if not in_flow && not allowed
    then problem_of k (not (is_some (completed_held k s.limit s.gap_end s.slots.top))) else None

-- the required candidate that a lexeme of a kind after the gap would clear or replace
abbrev pub cleared_in : Scanner → Bool → Kind → Bool → Option Held
cleared_in s in_flow k allowed = if replaces k allowed && not in_flow then needed s.limit s.gap_end s.slots.top
    else None

-- `new` is what is kept of the lexeme that was met, in flow or not, with the greatest level that it keeps
pub record IsNewHeld (s : Scanner) (m : Met) (in_flow : Bool) (l : Option ℕ) (new : Held) : Type 0 where
  pub flow : in_flow ≡ nat_lt 0 (vec_len s.slots.outer)
  pub is_greatest : l ≡ greatest_level (filter (stays in_flow m.kind new.start) (reverse s.layout.levels.items))
  pub step : new.step ≡ s.made + 1
  pub start : new.start ≡ start_at m.kind m.gap_end
  pub required : new.required ≡ is_level in_flow l new.start.column

-- the required candidate that is stale at a mark after the lexeme that was met
abbrev pub lost_after : ℕ → slots_t → Met → Held → yaml_mark_t → Option Held
lost_after limit slots m new mark =
    lost_held limit mark (root_of slots.outer.items (slot_after m.kind m.allowed new slots.top))

-- a lexeme that was read can be laid, after the groups ys
pub record CanPut
    (H : List Laid) (s : Scanner) (ys : List group_t) (m : Met) (in_flow : Bool) (new : Held) (x : yaml_lexeme_t)
    : Type 0 where
  pub can : CanLay H s ys m
  pub level : Option ℕ
  pub is_new : IsNewHeld s m in_flow level new
  pub read : IsRead s.text.chars m.kind (vec_len s.slots.outer) level (gap_end_of (text_of s) H) x
  pub none_lost : lost_after s.limit s.slots m new x.reach ≡ None

-- a lexeme that was met can be read, and there is room for it
pub record CanRead (H : List Laid) (s : Scanner) (r : met_t) : Type 0 where
  pub can : CanStep H s
  pub met : IsMet H s (met_in s r)
  pub is_new : IsNewHeld s (met_in s r) r.in_flow r.context.level r.new
  pub depth : r.context.depth ≡ vec_len s.slots.outer
  pub within : IfSome r.context.level (λ l. l ≤ length s.text.chars)
  pub there : (text_of s).kind (nat_lt 0 r.context.depth) (gap_end_of (text_of s) H) ≡ Some r.kind
  pub room : HasRoom s r.in_flow r.kind

-- the same but for how much room there is
pub record Beside (s t : Scanner) : Type 0 where
  pub text : t.text ≡ s.text
  pub refusal : t.refusal ≡ s.refusal
  pub near : t.near ≡ s.near
  pub limit : t.limit ≡ s.limit
  pub outer : t.slots.outer.items ≡ s.slots.outer.items
  pub depth : vec_len t.slots.outer ≡ vec_len s.slots.outer
  pub empty : t.slots.not_simple_keys ≡ s.slots.not_simple_keys
  pub top : t.slots.top ≡ s.slots.top
  pub awaited : t.slots.awaited ≡ s.slots.awaited
  pub allowed : t.allowed ≡ s.allowed
  pub levels : t.layout.levels.items ≡ s.layout.levels.items
  pub groups : t.layout.queue.groups.items ≡ s.layout.queue.groups.items
  pub done : t.layout.queue.done ≡ s.layout.queue.done
  pub early : t.layout.queue.early ≡ s.layout.queue.early
  pub early_mark : t.layout.queue.early_mark ≡ s.layout.queue.early_mark
  pub reach : t.reach ≡ s.reach
  pub gap_end : t.gap_end ≡ s.gap_end
  pub taken : t.taken ≡ s.taken
  pub made : t.made ≡ s.made

-- A lexeme of kind k was read after the gap, or why it was refused, for an offence at `there`.
abbrev pub IsReadIn : Scanner → Kind → yaml_context_t → yaml_mark_t → Result code_lexeme_t yaml_refusal_t → Type 0
IsReadIn s k x there (Ok l) = (p : ℕ) → IsMarkOf s.text.chars s.gap_end p
    → IsRead s.text.chars k x.depth x.level p (lexeme_of l)
IsReadIn s k x there (Err r) = (p : ℕ) → IsMarkOf s.text.chars s.gap_end p
    → (r ≡ MEMORY) ⊎ IsOffence s.text.chars k x.depth x.level p (refused_at k s.gap_end there r)

-- A step has to stop after the lexeme x, which was read to `there`.
pub record StopsAfter (H : List Laid) (s : Scanner) (r : met_t) (x : yaml_lexeme_t) : Type 0 where
  pub can : CanRead H s r
  pub read : IsRead s.text.chars r.kind (vec_len s.slots.outer) r.context.level (gap_end_of (text_of s) H) x
  pub there : s.there ≡ x.reach
  pub stops : (s.near ≤ x.reach.index) ⊎ (is_some (lost_after s.limit s.slots (met_in s r) r.new x.reach) ≡ true)

-- the same scanner, with other marks: where the gap ends, and the place of an offence
abbrev pub at_marks : Scanner → yaml_mark_t → yaml_mark_t → Scanner
at_marks s gap_end there = record {
  alloc = s.alloc;
  text = s.text;
  refusal = s.refusal;
  near = s.near;
  limit = s.limit;
  slots = s.slots;
  allowed = s.allowed;
  layout = s.layout;
  reach = s.reach;
  gap_end = gap_end;
  there = there;
  taken = s.taken;
  made = s.made;
}

-- the same scanner, with the place of an offence of another
abbrev pub at_there : Scanner → Scanner → Scanner
at_there s t = at_marks s s.gap_end t.there

-- what a reader does: it reads, and changes only the place of an offence
pub record HasRead (s t : Scanner) (k : Kind) (x : yaml_context_t) (o : Result code_lexeme_t yaml_refusal_t)
    : Type 0 where
  pub read : IsReadIn s k x t.there o
  pub same : t ≡ at_there s t

-- what a step does not change
pub record Same (s t : Scanner) : Type 0 where
  pub text : t.text ≡ s.text
  pub refusal : t.refusal ≡ s.refusal
  pub near : t.near ≡ s.near
  pub limit : t.limit ≡ s.limit
  pub taken : t.taken ≡ s.taken
  pub done : t.layout.queue.done ≡ s.layout.queue.done

-- the next lexeme was laid, if the groups zs are queued then
pub record AdvancesWith (H : List Laid) (s t : Scanner) (zs : List group_t) : Type 0 where
  pub lexeme : Lexeme
  pub step : step (text_of s) s.limit H ≡ Reads lexeme
  pub holds : HoldsWith (laid s.limit H lexeme ∷ H) (s.made + 1 + 1) t zs
  pub index : t.reach.index ≡ ((text_of s).mark lexeme.place).index
  pub within : lexeme.place ≤ length s.text.chars
  pub same : Same s t
  pub made : t.made ≡ s.made

-- The token of a lexeme that was met needs what comes after it, if it is read to `at`: it is a candidate, and no other
-- token is queued. If sparing, it closes no level, so its token is the next one. There is room for two groups.
pub record IsUndecided (s : Scanner) (sparing : Bool) (r : met_t) (at : yaml_mark_t) : Type 0 where
  pub candidate : is_candidate_kind r.kind ≡ true
  pub stays : is_flow_start r.kind ≡ false
  pub allowed : r.allowed ≡ true
  pub alone : s.layout.queue.groups.items ≡ []
  pub room : 1 < deque_capacity s.layout.queue.groups
  pub none_closed : sparing ≡ true → closing r.in_flow r.kind r.new.start (reverse s.layout.levels.items) ≡ None
  pub live : is_live s.limit at r.new ≡ true

-- the lexeme x, of kind k, which comes right there, decides whether it is a key
pub record IsDecided
    (s : Scanner) (sparing : Bool) (r : met_t) (at : yaml_mark_t) (k : Kind) (x : yaml_lexeme_t)
    : Type 0 where
  pub undecided : IsUndecided s sparing r at
  pub decider : (p : ℕ) → IsMarkOf s.text.chars at p → IsDecider s.text.chars r.in_flow p k x
  pub far : x.reach.index < s.near

-- a lexeme in flow that was met and read to `at` has to wait until an earlier candidate is decided, and one more may
pub record Waits (s : Scanner) (r : met_t) (at : yaml_mark_t) : Type 0 where
  pub flow : r.in_flow ≡ true
  pub candidate : is_candidate_kind r.kind ≡ true
  pub stays : is_flow_start r.kind ≡ false
  pub awaited : s.slots.awaited ≡ s.layout.queue.done + 1
  pub ends : begins_with_end (pending s.layout.queue.early s.layout.queue.early_mark s.layout.queue.groups.items)
      ≡ false
  pub room : length s.layout.queue.groups.items + 1 < deque_capacity s.layout.queue.groups
  pub key : r.allowed ≡ true → is_live s.limit at r.new ≡ true
  pub none : r.allowed ≡ false → s.slots.top ≡ None

-- a lexeme read to `at` and x, of kind k, right after it wait until an outer candidate, live after x, is decided
pub record IsWaiting (s : Scanner) (r : met_t) (at : yaml_mark_t) (k : Kind) (x : yaml_lexeme_t) : Type 0 where
  pub waits : Waits s r at
  pub reach : x.reach ≡ one_on at
  pub outer : (h : Held) × ((slice_get s.slots.outer.items s.slots.not_simple_keys ≡ Some (Some h))
      × (is_live s.limit x.reach h ≡ true))
  pub decider : (p : ℕ) → IsMarkOf s.text.chars at p → IsDecider s.text.chars r.in_flow p k x
  pub far : x.reach.index < s.near

-- the next token needs what comes right after the lexeme of a step, since that has to wait, or since it is a candidate
abbrev pub IsFollowed : Scanner → Bool → met_t → yaml_mark_t → Bool → Type 0
IsFollowed s sparing r at true = Waits s r at
IsFollowed s sparing r at false = IsUndecided s sparing r at

-- the lexeme x, of kind k, comes right after that of a step, which was read to `at`, and both can be laid together
abbrev pub IsFollower : Scanner → Bool → met_t → yaml_mark_t → Bool → Kind → yaml_lexeme_t → Type 0
IsFollower s sparing r at true k x = IsWaiting s r at k x
IsFollower s sparing r at false k x = IsDecided s sparing r at k x

-- a lexeme that was read can be laid, alone or with what comes right after it
pub record CanLayAll (H : List Laid) (s : Scanner) (r : met_t) (x : yaml_lexeme_t) : Type 0 where
  pub can : CanRead H s r
  pub read : (p : ℕ) → IsMarkOf s.text.chars s.gap_end p
      → IsRead s.text.chars r.kind r.context.depth r.context.level p x
  pub none_lost : lost_after s.limit s.slots (met_in s r) r.new x.reach ≡ None
  pub far : x.reach.index < s.near

-- the same scanner after n steps
abbrev pub made_to : Scanner → ℕ → Scanner
made_to s n = record {
  alloc = s.alloc;
  text = s.text;
  refusal = s.refusal;
  near = s.near;
  limit = s.limit;
  slots = s.slots;
  allowed = s.allowed;
  layout = s.layout;
  reach = s.reach;
  gap_end = s.gap_end;
  there = s.there;
  taken = s.taken;
  made = n;
}

-- a scanner that has made a step more
abbrev pub counted : Scanner → Scanner
counted s = made_to s (s.made + 1)

-- the next two lexemes were laid, if the groups zs are queued then
pub record AdvancesTwice (H : List Laid) (s t : Scanner) (zs : List group_t) : Type 0 where
  pub between : Scanner
  pub then_queued : List group_t
  pub first : AdvancesWith H s between then_queued
  pub running : ended (laid s.limit H first.lexeme ∷ H) ≡ false
  pub far : between.reach.index < s.near
  pub second : AdvancesWith (laid s.limit H first.lexeme ∷ H) (counted between) t zs

-- the next token needs both of the next two lexemes, if sparing
abbrev pub Needs : Bool → (H : List Laid) → (s t : Scanner) → (zs : List group_t) → AdvancesTwice H s t zs → Type 0
Needs sparing H s t zs a = sparing ≡ true → length (before s.limit (laid s.limit H a.first.lexeme ∷ H)) ≤ s.taken

-- two steps were laid, neither of which is near the reader's fault
abbrev pub LaysTwo : Bool → List Laid → Scanner → Scanner → List group_t → Type 0
LaysTwo sparing H s t zs = ((a : AdvancesTwice H s (counted t) zs) × Needs sparing H s (counted t) zs a)
    × (t.reach.index < s.near)

-- a step was laid, or two, which are not counted yet: how many is told
abbrev pub IsLaidBy : Bool → List Laid → Scanner → Scanner → List group_t → ℕ → Type 0
IsLaidBy sparing H s t zs n = ((n ≡ 1) × AdvancesWith H s t zs × (t.reach.index < s.near))
    ⊎ ((n ≡ 2) × LaysTwo sparing H s t zs)

-- The next lexeme was laid, not near the reader's fault, or the next two, if the groups zs are queued then. If sparing,
-- the next token needs both.
abbrev pub Makes : Bool → List Laid → Scanner → Scanner → List group_t → Type 0
Makes sparing H s u zs = ((t : Scanner) × AdvancesWith H s t zs × (t.reach.index < s.near) × (u ≡ counted t))
    ⊎ ((t : Scanner) × LaysTwo sparing H s t zs × (u ≡ counted (counted t)))

-- the offence of a step
pub record Offends (H : List Laid) (s : Scanner) (f : Fault) : Type 0 where
  pub offence : Offence
  pub step : step (text_of s) s.limit H ≡ Faults offence
  pub fault : offence.fault ≡ f
  pub problem : IsProblem (text_of s) offence

-- f is the fault of the step: that of the scanner, or the reader's that is near it
abbrev pub Ends : List Laid → Scanner → Fault → Type 0
Ends H s f = (o : Offence) × (next (input_of s) s.limit H ≡ Faults o) × (o.fault ≡ f)

-- a scanner that has stopped: only its fault, the marks of the gap and of an offence, and how much room there is may
-- be others
pub record Halts (s t : Scanner) : Type 0 where
  pub text : t.text ≡ s.text
  pub near : t.near ≡ s.near
  pub limit : t.limit ≡ s.limit
  pub outer : t.slots.outer.items ≡ s.slots.outer.items
  pub empty : t.slots.not_simple_keys ≡ s.slots.not_simple_keys
  pub top : t.slots.top ≡ s.slots.top
  pub awaited : t.slots.awaited ≡ s.slots.awaited
  pub allowed : t.allowed ≡ s.allowed
  pub levels : t.layout.levels.items ≡ s.layout.levels.items
  pub groups : t.layout.queue.groups.items ≡ s.layout.queue.groups.items
  pub done : t.layout.queue.done ≡ s.layout.queue.done
  pub early : t.layout.queue.early ≡ s.layout.queue.early
  pub early_mark : t.layout.queue.early_mark ≡ s.layout.queue.early_mark
  pub reach : t.reach ≡ s.reach
  pub taken : t.taken ≡ s.taken
  pub made : t.made ≡ s.made

-- a scanner that has made no step and has no other fault
pub record Stays (s t : Scanner) : Type 0 where
  pub same : Same s t
  pub halts : Halts s t

-- what is left of a step that stopped, since memory was refused or there is a fault
abbrev pub Refuses : List Laid → Scanner → Scanner → stop_t → Type 0
Refuses H s t stop = ((fault_at stop t.refusal ≡ memory_fault) ⊎ Ends H s (fault_at stop t.refusal)) × Halts s t

-- a step was made, or two, or it stopped
abbrev pub IsStep : List Laid → Scanner → Scanner → Result (Unit {0}) stop_t → Type 0
IsStep H s t o = MatchResult o (λ _. Makes true H s t (groups_in t)) (λ stop. Refuses H s t stop)

-- the course of an input
unfoldable pub course_of : Scanner → Course
course_of s = course s.limit (input_of s)

-- the lexemes that a scanner has read
unfoldable pub history : Scanner → List Laid
history s = oldest (s.made - 1) (course_of s).read

-- STREAM-START was made, and the session is not over, if these groups are queued
pub record RunsWith (s : Scanner) (ys : List group_t) : Type 0 where
  pub small : length s.text.chars < 2 ^ 63
  pub near : IsNearOf (refusal_seen s.refusal) s.text.chars s.near
  pub holds : HoldsWith (history s) (s.made + 1) s ys
  pub begun : 0 < s.made
  pub start : (course_of s).begun ≡ true
  pub within : s.made ≤ length (course_of s).read + 1

-- STREAM-START was made, and the session is not over
abbrev pub IsRunning : Scanner → Type 0
IsRunning s = RunsWith s (groups_in s)

-- one step more, if these groups are queued then
pub record StepsWith (s t : Scanner) (zs : List group_t) : Type 0 where
  pub runs : RunsWith t zs
  pub made : t.made ≡ s.made + 1
  pub same : Same s t

-- one step more
abbrev pub Steps : Scanner → Scanner → Type 0
Steps s t = StepsWith s t (groups_in t)

-- two steps more, and the next token needs both
pub record StepsTwice (s t : Scanner) : Type 0 where
  pub runs : IsRunning t
  pub made : t.made ≡ s.made + 1 + 1
  pub same : Same s t
  pub needed : length (before s.limit (oldest s.made (course_of s).read)) ≤ s.taken

-- one step more, or two if the next token needs both
abbrev pub StepsOn : Scanner → Scanner → Type 0
StepsOn s t = Steps s t ⊎ StepsTwice s t

-- the step after the last one is faulty
pub record IsLast (s : Scanner) (f : Fault) : Type 0 where
  pub made : s.made ≡ length (course_of s).read + 1
  pub fault : (course_of s).fault ≡ Some f

-- STREAM-END was not taken
abbrev pub IsOpen : Scanner → Type 0
IsOpen s = ended (course_of s).read ≡ true → s.taken < length (offline (course_of s).read)

-- the steps that a look at the next token makes
pub record Settles (s t : Scanner) : Type 0 where
  pub runs : IsRunning t
  pub settled : t.taken < length (before t.limit (history t))
  pub made : t.made ≡ pace s.limit (course_of s).read s.taken s.made
  pub same : Same s t

-- there is no next token, and f is why
pub record Fails (s t : Scanner) (f : Fault) : Type 0 where
  pub made : t.made ≡ length (course_of s).read + 1
  pub none : length (before s.limit (course_of s).read) ≤ s.taken
  pub fault : (course_of s).fault ≡ Some f

-- what is left of a scanner that has stopped: how far the last step was read can still be seen, and it can run on
pub record Stops (s t : Scanner) : Type 0 where
  pub limit : t.limit ≡ s.limit
  pub taken : t.taken ≡ s.taken
  pub done : t.layout.queue.done ≡ s.layout.queue.done
  pub least : s.made ≤ t.made
  pub most : t.made ≤ pace s.limit (course_of s).read s.taken s.made
  -- the head of the queue was not the next token, so a step was needed
  pub unsettled : length (before s.limit (first_steps t.made (course_of s).read)) ≤ s.taken
  pub reach : t.reach ≡ reach (first_steps t.made (course_of s).read)
  -- it is left as the last good step left it
  pub last : Scanner
  pub runs : IsRunning last
  pub same : Same s last
  pub halts : Halts last t
