-- What holds of answers and of sessions.
use Rattle.std.specs.Prelude.{◌≡◌, ℕ, ◌+◌, ◌≤◌, ◌<◌, Bool, true, false, ◌&&◌, List, [], ◌∷◌, ◌++◌, length, Option, Some}
use Rattle.std.specs.Prelude.{None, option_map, if◌then◌else◌}
use Rattle.std.specs.Option.{option_to_list}
use Rattle.yaml_text.specs.Fault.{Fault}
use Rattle.yaml_text.specs.declared.types.yaml_encoding_t.{yaml_encoding_t}
use Rattle.yaml_scan.specs.Course.{ended, Input, Course, next, course}
use Rattle.yaml_scan.specs.Token.{yaml_token_t}
use Rattle.yaml_scan.specs.Laid.{Laid}
use Rattle.yaml_scan.specs.Groups.{Token, offline}
use Rattle.yaml_scan.specs.Settled.{before, settled, pace, tokens_of}
use Rattle.yaml_scan.specs.Order.{IsHistory}
use Rattle.yaml_scan.specs.Begins.{Begins}
use Rattle.yaml_scan.specs.Source.{Offence}
use Rattle.yaml_scan.specs.Step.{step}
use Rattle.yaml_scan.specs.Step.Outcome.{Faults}
use Rattle.yaml_scan.specs.Cut.{cut, IsRun, KeepsOrder}
use Rattle.yaml_scan.specs.Near.{place_of}
use Rattle.yaml_scan.specs.Session.{Call, Session, next_token, after, answer}
use Rattle.yaml_scan.specs.Sessions.{new_session, after_all, session_queued}
use Rattle.yaml_scan.specs.Session.Call.{SCAN, PEEK, SKIP}
use Rattle.yaml_scan.specs.Session.Answer.{TOKEN, PEEKED}

-- THE COURSE OF AN INPUT
abbrev pub CourseIsHistory : Type 0
CourseIsHistory = (limit : ℕ) (input : Input) → KeepsOrder input.source → IsHistory limit (course limit input).read

-- it has a fault, or it ends with the stream end, and then all of the offline list is its tokens
abbrev pub EndsOrFaults : Type 0
EndsOrFaults = (limit : ℕ) (input : Input) → KeepsOrder input.source → (course limit input).fault ≡ None
    → ((course limit input).begun ≡ true) × (ended (course limit input).read ≡ true)
    × (tokens_of limit (course limit input) ≡ offline (course limit input).read)

-- NEAR STEPS
-- the step of a refused front that ends or faults fewer than eight characters before the front's end gives the
-- reader's fault, also if it has a fault of its own
abbrev pub NearStepIsRefused : Type 0
NearStepIsRefused = (limit : ℕ) (input : Input) (f : Fault) (H : List Laid)
    → input.refusal ≡ Some f → input.source.size < place_of (step input.source limit H) + 8
    → next input limit H ≡ Faults (record { fault = f; place = input.source.size })

-- every other one is what it is
abbrev pub FarStepIsItself : Type 0
FarStepIsItself = (limit : ℕ) (input : Input) (H : List Laid)
    → place_of (step input.source limit H) + 8 ≤ input.source.size → next input limit H ≡ step input.source limit H

-- each lexeme of a course is such a step after those before it
abbrev pub CourseIsRun : Type 0
CourseIsRun = (limit : ℕ) (input : Input)
    → KeepsOrder input.source → IsRun (next input limit) limit (course limit input).read

-- why an input ends with a fault that was refused for f
pub data FaultOfRefused (limit : ℕ) (input : Input) (f : Fault) (c : Course) : Type 0 where
  -- its front is so short that STREAM-START is near the end: the reader's fault comes at once
  at_once : c.begun ≡ false → input.source.size < 8 → c.fault ≡ Some f → FaultOfRefused limit input f c
  -- the step after the lexemes is near the end, with a fault or not: the reader's fault
  near : c.begun ≡ true → input.source.size < place_of (step input.source limit c.read) + 8 → c.fault ≡ Some f
      → FaultOfRefused limit input f c
  -- that step faults further from the end: its own fault
  far : (o : Offence) → c.begun ≡ true → step input.source limit c.read ≡ Faults o → o.place + 8 ≤ input.source.size
      → c.fault ≡ Some o.fault → FaultOfRefused limit input f c

-- the fault of a refused input is the reader's, or that of a step before what is near
abbrev pub RefusedHasFault : Type 0
RefusedHasFault = (limit : ℕ) (input : Input) (f : Fault)
    → KeepsOrder input.source → input.refusal ≡ Some f → FaultOfRefused limit input f (course limit input)

-- an accepted one has the course of its cut
abbrev pub AcceptedIsCut : Type 0
AcceptedIsCut = (limit : ℕ) (input : Input) → input.refusal ≡ None
    → (course limit input).read ≡ (cut input.source limit).read
    × (course limit input).fault ≡ option_map (λ o. o.fault) (cut input.source limit).fault

-- what is handed out of any input is handed out of its text, or of its front alone as a text
abbrev pub FrontIsCut : Type 0
FrontIsCut = (limit : ℕ) (input : Input) → KeepsOrder input.source
    → Begins (tokens_of limit (course limit input)) (before limit (cut input.source limit).read)

-- SESSIONS
-- the token that a call takes
abbrev pub token_taken : ℕ → Course → Call → Session → Option Token
token_taken limit c SCAN s = if s.over then None else next_token limit c s
token_taken limit c PEEK s = None
token_taken limit c SKIP s = if s.peeked then next_token limit c s else None

-- by each scan or skip
unfoldable pub taken_by : ℕ → Course → List Call → Session → List (Option Token)
taken_by limit c [] s = []
taken_by limit c (SCAN ∷ calls) s = token_taken limit c SCAN s ∷ taken_by limit c calls (after limit c SCAN s)
taken_by limit c (PEEK ∷ calls) s = taken_by limit c calls (after limit c PEEK s)
taken_by limit c (SKIP ∷ calls) s = token_taken limit c SKIP s ∷ taken_by limit c calls (after limit c SKIP s)

-- all that are taken
abbrev pub tokens_in : List (Option Token) → List Token
tokens_in [] = []
tokens_in (o ∷ os) = option_to_list o ++ tokens_in os

-- the tokens taken are in order a beginning of the list, and as many as the session counts
abbrev pub TakenAreBeginning : Type 0
TakenAreBeginning = (limit : ℕ) (c : Course) (calls : List Call)
    → Begins (tokens_in (taken_by limit c calls new_session)) (tokens_of limit c)
    × (length (tokens_in (taken_by limit c calls new_session)) ≡ (after_all limit c calls new_session).taken)

-- the same calls with no peeks, and a scan for each skip
abbrev pub without_peeks : List Call → List Call
without_peeks [] = []
without_peeks (SCAN ∷ calls) = SCAN ∷ without_peeks calls
without_peeks (PEEK ∷ calls) = without_peeks calls
without_peeks (SKIP ∷ calls) = SCAN ∷ without_peeks calls

-- skips are made only if a token was peeked
unfoldable pub skips_peeked : ℕ → Course → List Call → Session → Bool
skips_peeked limit c [] s = true
skips_peeked limit c (SCAN ∷ calls) s = skips_peeked limit c calls (after limit c SCAN s)
skips_peeked limit c (PEEK ∷ calls) s = skips_peeked limit c calls (after limit c PEEK s)
skips_peeked limit c (SKIP ∷ calls) s = s.peeked && skips_peeked limit c calls (after limit c SKIP s)

abbrev pub PeeksChangeNothing : Type 0
PeeksChangeNothing = (limit : ℕ) (c : Course) (calls : List Call) → skips_peeked limit c calls new_session ≡ true
    → taken_by limit c calls new_session ≡ taken_by limit c (without_peeks calls) new_session

-- the token that a peek shows is returned by the next scan
abbrev pub PeekShowsNext : Type 0
PeekShowsNext = (e : yaml_encoding_t) (limit : ℕ) (c : Course) (s : Session) (token : yaml_token_t)
    → answer e limit c PEEK s ≡ PEEKED token → answer e limit c SCAN (after limit c PEEK s) ≡ TOKEN token

-- if a session is not over, a skip after a peek leaves what a scan leaves
abbrev pub SkipTakesPeeked : Type 0
SkipTakesPeeked = (limit : ℕ) (c : Course) (s : Session) → s.over ≡ false
    → after limit c SKIP (after limit c PEEK s) ≡ after limit c SCAN s

-- if a session of an input is not over and has no next token, there is a fault to return
abbrev pub NoneIsStuck : Type 0
NoneIsStuck = (limit : ℕ) (input : Input) (calls : List Call) → KeepsOrder input.source
    → (after_all limit (course limit input) calls new_session).over ≡ false
    → next_token limit (course limit input) (after_all limit (course limit input) calls new_session) ≡ None
    → (f : Fault) × ((course limit input).fault ≡ Some f)

-- THE PACE
-- the pace is the least number of steps, not below those that were made, after which a token is settled
abbrev pub PaceSettles : Type 0
PaceSettles = (limit : ℕ) (H : List Laid) (t s : ℕ) → IsHistory limit H → t < length (before limit H)
    → settled limit H t (pace limit H t s) ≡ true

abbrev pub PaceIsLeast : Type 0
PaceIsLeast = (limit : ℕ) (H : List Laid) (t s r : ℕ) → IsHistory limit H → s ≤ r → settled limit H t r ≡ true
    → r ≤ length H + 1 → (s ≤ pace limit H t s) × (pace limit H t s ≤ r)

-- after any calls few steps have a token that was not taken
abbrev pub FewStepsQueued : Type 0
FewStepsQueued = (limit : ℕ) (c : Course) (calls : List Call) → IsHistory limit c.read
    → session_queued c (after_all limit c calls new_session) ≤ limit + 1
