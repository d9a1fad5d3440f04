-- The first step: what a new scanner holds.
use Rattle.std.proofs.Common.{◌≡◌, ℕ, ◌+◌, ◌-◌, ◌^◌, ◌≤◌, ◌<◌, Bool, true, false, List, [], ◌∷◌, length, reverse, Option, Some, None, refl, ap, sym, ◌∙◌, subst, arith, inl, inr}
use Rattle.std.proofs.lemmas.Bool.{cases_lt, lt-leb}
use Rattle.std.proofs.lemmas.List.{drop_all}
use Rattle.std.proofs.Common.{length-append}
use Rattle.yaml_text.specs.declared.types.yaml_encoding_t.{yaml_encoding_t}
use Rattle.yaml_text.specs.Fault.{Fault, zero_mark}
use Rattle.yaml_text.specs.Text.{Text}
use Rattle.yaml_text.specs.TextBytes.{AreChars}
use Rattle.yaml_text.specs.Decode.{front, refusal, encoding_of}
use Rattle.yaml_text.specs.Decoding.{refusal_seen}
use Rattle.yaml_lexeme.specs.Place.{skip}
use Rattle.yaml_lexeme.specs.Counted.{IsMarkOf}
use Rattle.yaml_scan.specs.Course.{oldest, course}
use Rattle.yaml_scan.specs.inside.Scanner.{Scanner}
use Rattle.yaml_scan.specs.SourceOf.{source_of}
use Rattle.yaml_scan.specs.Laid.{Laid, reach}
use Rattle.yaml_scan.specs.Keys.{candidate}
use Rattle.yaml_scan.specs.Depth.{depth}
use Rattle.yaml_scan.specs.Levels.{open_columns}
use Rattle.yaml_scan.specs.inside.Slots.{held, outer_to}
use Rattle.yaml_scan.specs.Step.{stale, required}
use Rattle.yaml_scan.specs.Groups.{offline, groups}
use Rattle.yaml_scan.specs.Groups.Token.{StreamStart}
use Rattle.yaml_scan.specs.Near.{starts_near}
use Rattle.yaml_scan.specs.inside.NearFault.{near_fault}
use Rattle.yaml_scan.specs.inside.Queue.{IsQueue}
use Rattle.yaml_scan.specs.Settled.{first_steps, pace}
use Rattle.yaml_scan.specs.Decoded.{decoded_input}
use Rattle.yaml_scan.specs.inside.Scanning.{Holds, IsRunning, IsNearOf, history, course_of, input_of}
use Rattle.yaml_scan.specs.inside.Ready.{IsNew, Begins, IsStopped, IsEnded, course_in}

oldest_none : (H : List Laid) → oldest 0 H ≡ []
oldest_none H = drop_all (length H - 0) H (omega arith)

first_none : (n : ℕ) (H : List Laid) → n ≤ 1 → first_steps n H ≡ []
first_none n H l = let e : n - 1 ≡ 0 = omega arith in ap (λ (k : ℕ). oldest k H) e ∙ oldest_none H

-- at the start of a text
start_mark : (cs : List ℕ) → IsMarkOf cs zero_mark 0
unfolding skip
start_mark cs = record { within = omega arith; mark_is = refl }

start_index : (cs : List ℕ) → ((source_of cs).mark 0).index ≡ 0
unfolding source_of skip
start_index cs = refl

size_is : (cs : List ℕ) → (source_of cs).size ≡ length cs
unfolding source_of
size_is cs = refl

not_near : (cs : List ℕ) (near : ℕ) (r : Option Fault) → IsNearOf r cs near → near_fault near 0 r ≡ None → starts_near (source_of cs).size r ≡ false
not_near cs near None N e = refl
not_near cs near (Some f) N e = elim (cases_lt 0 near) [
  | inl l ↦ (let i = start_index cs in rw (size_is cs) ((N 0 (omega arith)).1 (omega arith)))
  | inr l ↦ (let z : near ≡ 0 = omega arith in let g : Some f ≡ None = rw z at e in absurd (cc))
]

is_near_start : (cs : List ℕ) (near : ℕ) (r : Option Fault) → IsNearOf r cs near → (f : Fault) → near_fault near 0 r ≡ Some f → (starts_near (source_of cs).size r ≡ true) × (r ≡ Some f)
is_near_start cs near None N f e = absurd (cc)
is_near_start cs near (Some g) N f e = elim (cases_lt 0 near) [
  | inr l ↦ (let i = start_index cs in let z : near ≡ 0 = omega arith in let h : Some g ≡ Some f = rw z at e in (rw (size_is cs) ((N 0 (omega arith)).0 (omega arith)), h))
  | inl l ↦ (let h : None ≡ Some f = rw (lt-leb near 0 l) at e in absurd (cc))
]

-- THE COURSE OF THE INPUT
module _ (limit : ℕ) (setting : yaml_encoding_t) (input : List ℕ) (text : Text) (T : text ≡ front setting input) (r : Option Fault) (R : r ≡ refusal setting input) (near : ℕ) (N : IsNearOf r text.chars near) where
  starts_is : (b : Bool) → starts_near (source_of text.chars).size r ≡ b → starts_near (source_of (front setting input).chars).size (refusal setting input) ≡ b
  starts_is b e = rw (← T, ← R) e

  ended_course : (f : Fault) → near_fault near 0 r ≡ Some f → course_in limit setting input ≡ record { begun = false; read = []; fault = Some f }
  unfolding course decoded_input
  ended_course f e = let n = is_near_start text.chars near r N f e in rw (starts_is true n.0) (ap (λ (x : Option Fault). record { begun = false; read = []; fault = x }) (sym R ∙ n.1))

  begun_course : near_fault near 0 r ≡ None → (course_in limit setting input).begun ≡ true
  unfolding course decoded_input
  begun_course e = rw (starts_is false (not_near text.chars near r N e)) refl

pub encoding_in : (setting : yaml_encoding_t) (input : List ℕ) → (decoded_input setting input).encoding ≡ encoding_of setting input
unfolding decoded_input front
encoding_in setting input = refl

-- the first step is one, if no reader's fault has replaced it
pub begun_in : (limit : ℕ) (setting : yaml_encoding_t) (input : List ℕ) (text : Text) → text ≡ front setting input → (r : Option Fault) → r ≡ refusal setting input → (near : ℕ) → IsNearOf r text.chars near → near_fault near 0 r ≡ None → (course_in limit setting input).begun ≡ true
begun_in limit setting input text T r R near N e = begun_course limit setting input text T r R near N e

pub new_reach : (s : Scanner) → IsNew s → (H : List Laid) → s.reach ≡ reach (first_steps s.made H)
new_reach s n H = let m = n.made in n.reach ∙ ap reach (sym (first_none s.made H (omega arith)))

pub new_stopped : (setting : yaml_encoding_t) (input : List ℕ) (s : Scanner) → IsNew s → IsStopped setting input s s
unfolding pace
new_stopped setting input s n = record { limit = refl; taken = refl; done = refl; least = omega arith; most = omega arith; unsettled = (let m = n.made in rw m refl); reach = new_reach s n (course_in s.limit setting input).read; last = s; ready = inl n; halts = record { text = refl; near = refl; limit = refl; outer = refl; empty = refl; top = refl; awaited = refl; allowed = refl; levels = refl; groups = refl; done = refl; early = refl; early_mark = refl; reach = refl; taken = refl; made = refl } }

pub new_ended : (setting : yaml_encoding_t) (input : List ℕ) (s : Scanner) → IsNew s → (text : Text) → text ≡ front setting input → (r : Option Fault) → r ≡ refusal setting input → (near : ℕ) → IsNearOf r text.chars near → (f : Fault) → near_fault near 0 r ≡ Some f → IsEnded setting input s s f
new_ended setting input s n text T r R near N f e =
    let c = ended_course s.limit setting input text T r R near N f e in
    record { none = rw c (omega arith); fault = rw c refl; made = rw c n.made }

groups_some : (W B : List Laid) → 0 < length (groups W B)
unfolding groups
groups_some W [] = omega arith
groups_some W (i ∷ B) = let r = groups_some W B in let a = length-append (groups W B) (Rattle.yaml_scan.specs.Groups.group W i) in omega arith

pub offline_some : (H : List Laid) → 0 < length (offline H)
unfolding offline
offline_some H = groups_some H H

empty_offline : offline [] ≡ StreamStart ∷ []
unfolding offline groups
empty_offline = refl

empty_fresh : (limit : ℕ) → stale limit [] zero_mark ≡ None
unfolding stale required candidate
empty_fresh limit = refl

empty_columns : open_columns [] ≡ []
unfolding open_columns
empty_columns = refl

empty_depth : depth [] ≡ 0
unfolding depth
empty_depth = refl

empty_outer : (limit : ℕ) → outer_to limit [] (depth []) ≡ []
empty_outer limit = rw empty_depth refl

empty_top : (limit : ℕ) → held limit [] (depth []) ≡ None
unfolding candidate
empty_top limit = refl

module _ (setting : yaml_encoding_t) (input : List ℕ) (s t : Scanner) (n : IsNew s) (T : t.text ≡ front setting input) (C : AreChars t.text.chars) (small : length t.text.chars < 2 ^ 63) (R : refusal_seen t.refusal ≡ refusal setting input) (N : IsNearOf (refusal_seen t.refusal) t.text.chars t.near)
    (L : t.limit ≡ s.limit) (V : t.layout.levels.items ≡ s.layout.levels.items) (O : t.slots ≡ s.slots) (A : t.allowed ≡ s.allowed) (Q : IsQueue t.text.encoding t.layout.queue.early t.layout.queue.early_mark t.layout.queue.groups.items (StreamStart ∷ [])) (G : length t.layout.queue.groups.items ≡ 1) (E : t.layout.queue.early ≡ s.layout.queue.early) (D : t.layout.queue.done ≡ s.layout.queue.done) (J : t.reach ≡ s.reach) (K : t.taken ≡ s.taken) (M : t.made ≡ 1)
    (e : near_fault t.near 0 (refusal_seen t.refusal) ≡ None) where
  input_is : input_of t ≡ decoded_input setting input
  unfolding decoded_input
  input_is = rw (T, R) refl

  begun : (course_of t).begun ≡ true
  unfolding course_of
  begun = rw input_is (begun_course t.limit setting input t.text T (refusal_seen t.refusal) R t.near N e)

  history_none : history t ≡ []
  unfolding history
  history_none = let m : t.made - 1 ≡ 0 = omega (arith, M) in ap (λ (k : ℕ). oldest k (course_of t).read) m ∙ oldest_none (course_of t).read

  holds : Holds [] (t.made + 1) t
  holds = let k : t.taken ≡ 0 = K ∙ n.taken in record {
    text = C;
    is_history = tt;
    number = omega (arith, M);
    keys = record {
      fresh = empty_fresh t.limit;
      outer = rw O (n.outer ∙ sym (empty_outer t.limit));
      empty = rw (O, n.outer) n.empty;
      top = rw O (n.top ∙ sym (empty_top t.limit));
      awaited = rw (O, n.outer, n.top) n.awaited;
      allowed = A ∙ n.allowed;
    };
    levels = record { are_open = ap reverse V ∙ ap reverse n.levels ∙ sym empty_columns; columns = rw empty_columns tt };
    queue = record { tokens = rw (k, empty_offline) Q; count = (let d = n.done in omega (arith, G, D)); early = λ z. E ∙ n.early };
    reach = J ∙ n.reach;
    taken = omega (arith, k);
    place = λ z. rw (J, n.reach) (start_mark t.text.chars);
  }

  runs : IsRunning t
  runs = record { small = small; near = N; holds = subst (λ (Z : List Laid). Holds Z (t.made + 1) t) (sym history_none) holds; begun = omega (arith, M); start = begun; within = omega (arith, M) }

  pub begins : Begins setting input s t
  begins = record { stands = record { runs = runs; reads = input_is; text = T }; still_open = λ z. (let a = offline_some (course_of t).read in let k = n.taken in omega (arith, K)); made = M; limit = L; taken = K; done = D }
