-- What a running scanner has given to a sink that is asked whether it has room, as calls would have returned it.
use Rattle.std.specs.Prelude.{◌≡◌, ◌⊎◌, ℕ, ◌+◌, ◌-◌, ◌≤◌, ◌<◌, Bool, true, false, List, [], ◌++◌, map, take, length}
use Rattle.std.specs.Prelude.{◌≢◌, ◌∷◌, Option, Some, None, Result, Ok, Err}
use Rattle.std.specs.List.{list_any}
use Rattle.yaml_text.specs.Fault.{memory_fault}
use Rattle.yaml_text.specs.Token.{token_of}
use Rattle.yaml_text.specs.declared.token.yaml_token_t.{yaml_token_t as code_token_t}
use Rattle.yaml_text.specs.declared.types.yaml_encoding_t.{yaml_encoding_t}
use Rattle.yaml_scan.specs.declared.stop.stop_t.{stop_t}
use Rattle.yaml_scan.specs.declared.groups.group_t.{group_t}
use Rattle.yaml_scan.specs.inside.Scanner.{Scanner}
use Rattle.yaml_scan.specs.Groups.{handed_out}
use Rattle.yaml_scan.specs.Settled.{pace}
use Rattle.yaml_scan.specs.Token.{yaml_token_t}
use Rattle.yaml_scan.specs.inside.Given.{HasGiven, all_in, told_taken}
use Rattle.yaml_scan.specs.inside.Handed.{is_end}
use Rattle.yaml_scan.specs.inside.Ready.{IsEnded, IsIn, IsSettled, IsShort, IsStopped, course_in}
use Rattle.yaml_scan.specs.inside.Scanning.{Fails, IsOpen, IsRunning, Settles, Stops, course_of, groups_in}
use Rattle.yaml_scan.specs.inside.Stop.{fault_at}

-- These tokens, some, were given, the stream end not among them. As many steps were made as the last of them needs.
pub record Sends (s t : Scanner) (tokens : List yaml_token_t) : Type 0 where
  pub runs : IsRunning t
  pub still_open : IsOpen t
  pub text : t.text ≡ s.text
  pub refusal : t.refusal ≡ s.refusal
  pub limit : t.limit ≡ s.limit
  pub some : 0 < length tokens
  pub taken : t.taken ≡ s.taken + length tokens
  pub told : told_taken t ≡ told_taken s ++ tokens
  pub least : s.made ≤ t.made
  pub made : t.made ≡ pace s.limit (course_of s).read (t.taken - 1) s.made
  pub no_end : list_any is_end tokens ≡ false

-- The head of the queue is the next token, and a sink was given nothing; or it was given some tokens; or no more steps
-- are made, or it refused a token.
abbrev pub SendsOrSettles
    : Scanner → Scanner → (List yaml_token_t → Type 0) → Type 0 → Result Bool stop_t → Type 0
SendsOrSettles s t took refuses (Ok true) = Settles s t × took []
SendsOrSettles s t took refuses (Ok false) = (tokens : List yaml_token_t) × Sends s t tokens × took tokens
SendsOrSettles s t took refuses (Err stop) = (((fault_at stop t.refusal ≡ memory_fault)
    ⊎ Fails s t (fault_at stop t.refusal)) × Stops s t × took []) ⊎ refuses

-- The group y is at the head of the queue, and none of its tokens waits: no block ends come before it that are not its
-- own, it is not that of the candidate which is awaited, and its token is not the stream end.
pub record IsReadyGroup (s : Scanner) (y : group_t) : Type 0 where
  pub others : List group_t
  pub head : groups_in s ≡ y ∷ others
  pub early : s.layout.queue.early ≡ 0
  pub awaited : s.slots.awaited ≢ s.layout.queue.done + 1
  pub no_end : is_end (token_of y.token) ≡ false

-- These tokens of the queue were given without a step, the stream end not among them.
pub record Drains (s t : Scanner) (tokens : List yaml_token_t) : Type 0 where
  pub given : HasGiven s t tokens
  pub taken : t.taken ≡ s.taken + length tokens
  pub made : t.made ≡ s.made
  pub no_end : list_any is_end tokens ≡ false

-- a sink was given some tokens of the queue, or none, and then nothing changed
abbrev pub DrainsOrStays : Scanner → Scanner → (List yaml_token_t → Type 0) → Bool → Type 0
DrainsOrStays s t took true = (tokens : List yaml_token_t) × Drains s t tokens × (0 < length tokens) × took tokens
DrainsOrStays s t took false = (t ≡ s) × took []

-- The same in an input, before whose first step or after it s is.
pub record HasSent (setting : yaml_encoding_t) (input : List ℕ) (s t : Scanner) (tokens : List yaml_token_t) : Type 0
  where
    pub stands : IsIn setting input t
    pub still_open : IsOpen t
    pub limit : t.limit ≡ s.limit
    pub some : 0 < length tokens
    pub taken : t.taken ≡ s.taken + length tokens
    pub told : told_taken t ≡ map (handed_out t.text.encoding) (take s.taken (all_in t)) ++ tokens
    pub least : s.made ≤ t.made
    pub made : t.made ≡ pace s.limit (course_in s.limit setting input).read (t.taken - 1) s.made
    pub no_end : list_any is_end tokens ≡ false

abbrev pub HasSentOrSettled
    : yaml_encoding_t → List ℕ → Scanner → Scanner → (List yaml_token_t → Type 0) → Type 0 → Result Bool stop_t
    → Type 0
HasSentOrSettled setting input s t took refuses (Ok true) = IsSettled setting input s t × took []
HasSentOrSettled setting input s t took refuses (Ok false) = (tokens : List yaml_token_t)
    × HasSent setting input s t tokens × took tokens
HasSentOrSettled setting input s t took refuses (Err stop) = ((IsShort setting input s (fault_at stop t.refusal)
    ⊎ IsEnded setting input s t (fault_at stop t.refusal)) × IsStopped setting input s t × took []) ⊎ refuses

-- A token that is not the stream end was given to a sink, which took it; or the token is returned, and the sink took
-- none.
abbrev pub IsPutOrReturned : yaml_token_t → (List yaml_token_t → Type 0) → Option code_token_t → Type 0
IsPutOrReturned x took None = took (x ∷ []) × (is_end x ≡ false)
IsPutOrReturned x took (Some t) = took [] × (token_of t ≡ x)
