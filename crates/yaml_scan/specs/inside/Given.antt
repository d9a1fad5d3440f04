-- What a running scanner has given to a sink: the tokens of its input that were taken, and why it gives no more.
use Rattle.std.specs.Prelude.{◌≡◌, ◌⊎◌, ℕ, ◌≤◌, ◌<◌, List, [], ◌∷◌, ◌++◌, map, take, length, None, Some, Result}
use Rattle.std.specs.Prelude.{MatchResult, Option}
use Rattle.yaml_text.specs.Fault.{memory_fault}
use Rattle.yaml_text.specs.declared.fault.yaml_fault_t.{yaml_fault_t}
use Rattle.yaml_text.specs.declared.types.yaml_encoding_t.{yaml_encoding_t}
use Rattle.yaml_scan.specs.declared.stop.stop_t.{stop_t}
use Rattle.yaml_scan.specs.declared.stop.stop_t.TheVariants.{SINK}
use Rattle.yaml_scan.specs.inside.Scanner.{Scanner}
use Rattle.yaml_scan.specs.Begins.{Begins}
use Rattle.yaml_scan.specs.Groups.{Token, handed_out}
use Rattle.yaml_scan.specs.Settled.{before}
use Rattle.yaml_scan.specs.Sink.{IsGivenAll, IsGivenBeginning}
use Rattle.yaml_scan.specs.Token.{yaml_token_t}
use Rattle.yaml_scan.specs.inside.Scanning.{IsRunning, IsLast, IsOpen, course_of, history}
use Rattle.yaml_scan.specs.inside.Stop.{fault_at}

-- the tokens of its input, and as they are handed out
abbrev pub all_in : Scanner → List Token
all_in s = before s.limit (course_of s).read

abbrev pub told_all : Scanner → List yaml_token_t
told_all s = map (handed_out s.text.encoding) (all_in s)

-- those that were taken
abbrev pub told_taken : Scanner → List yaml_token_t
told_taken s = map (handed_out s.text.encoding) (take s.taken (all_in s))

-- the scanner t is s after it gave these tokens, and the stream end is not among those that were taken
pub record HasGiven (s t : Scanner) (tokens : List yaml_token_t) : Type 0 where
  pub runs : IsRunning t
  pub still_open : IsOpen t
  pub text : t.text ≡ s.text
  pub refusal : t.refusal ≡ s.refusal
  pub limit : t.limit ≡ s.limit
  pub grows : s.taken ≤ t.taken
  pub given : told_taken t ≡ told_taken s ++ tokens

-- a sink was given the next tokens of a scanner, in order, and refused the one after them
pub record IsCutOff (s : Scanner) (took : List yaml_token_t → Type 0) : Type 0 where
  pub handed : List yaml_token_t
  pub next : yaml_token_t
  pub begins : Begins (told_taken s ++ (handed ++ next ∷ [])) (told_all s)
  pub given : took handed

-- no step is made after s, though its next token needs one: memory was refused, or there is a fault
pub record IsStuck (s : Scanner) (stored : Option yaml_fault_t) (stop : stop_t) : Type 0 where
  pub unsettled : length (before s.limit (history s)) ≤ s.taken
  pub fault : (fault_at stop stored ≡ memory_fault) ⊎ IsLast s (fault_at stop stored)

-- A scanner that has stopped: all that its steps settle was given, or the sink refused a token.
abbrev pub StopsGiving : Scanner → Option yaml_fault_t → stop_t → (List yaml_token_t → Type 0) → Type 0 → Type 0
StopsGiving s stored stop took refuses =
    ((tokens : List yaml_token_t) × (m : Scanner) × HasGiven s m tokens × IsStuck m stored stop × took tokens)
    ⊎ ((stop ≡ SINK) × IsCutOff s took × refuses)

-- the head of the queue is the next token, after some were given
abbrev pub IsSettledTo : Scanner → Scanner → (List yaml_token_t → Type 0) → Type 0
IsSettledTo s t took = (tokens : List yaml_token_t) × HasGiven s t tokens
    × (t.taken < length (before t.limit (history t))) × took tokens

-- all tokens of an input were given, up to the stream end
abbrev pub GaveRest : Scanner → (List yaml_token_t → Type 0) → Type 0
GaveRest s took = (tokens : List yaml_token_t) × (told_all s ≡ told_taken s ++ tokens)
    × ((course_of s).fault ≡ None) × took tokens

-- What a sink was given of an input: all, or all that is settled, or, if it refused a token, those before that one.
abbrev pub GivesAll
    : (List yaml_token_t → Type 0) → Type 0 → ℕ → yaml_encoding_t → List ℕ → Option yaml_fault_t
    → Result (Unit {0}) stop_t → Type 0
GivesAll took refuses limit setting input stored o = MatchResult o (λ _. IsGivenAll took limit setting input None)
    (λ stop. IsGivenAll took limit setting input (Some (fault_at stop stored))
    ⊎ ((stop ≡ SINK) × IsGivenBeginning took limit setting input × refuses))
