-- Reading on: scan after scan, to the end of an input and past it.
use Rattle.std.specs.Prelude.{◌≡◌, ◌⊎◌, ℕ, ◌-◌, ◌≤◌, ◌<◌, Bool, true, false, Option, None, Some, Result, if◌then◌else◌}
use Rattle.std.specs.Prelude.{List, [], ◌∷◌, ◌++◌, map, filter, drop, replicate, length}
use Rattle.yaml_text.specs.Fault.{Fault}
use Rattle.yaml_text.specs.declared.types.yaml_encoding_t.{yaml_encoding_t}
use Rattle.yaml_text.specs.declared.fault.yaml_fault_t.{yaml_fault_t}
use Rattle.yaml_text.specs.declared.token.yaml_token_t.{yaml_token_t as code_token_t}
use Rattle.yaml_scan.specs.Course.{course}
use Rattle.yaml_scan.specs.declared.calls.yaml_answer_t.{yaml_answer_t}
use Rattle.yaml_scan.specs.Token.{empty}
use Rattle.yaml_scan.specs.Answers.{Answers}
use Rattle.yaml_scan.specs.Inputs.{answers_to}
use Rattle.yaml_scan.specs.Decoded.{decoded_input}
use Rattle.yaml_scan.specs.Session.{Session, Call, Answer}
use Rattle.yaml_scan.specs.Sessions.{new_session, session}
use Rattle.yaml_scan.specs.Session.Call.{SCAN}
use Rattle.yaml_scan.specs.Session.Answer.{TOKEN, FAULT}
use Rattle.yaml_scan.specs.Parser.{Parser}
use Rattle.yaml_scan.specs.ParserCalls.{scan_result}
use Rattle.yaml_scan.specs.Headline.{Runs}
use Rattle.yaml_scan.specs.Puts.{RunsOut}
use Rattle.yaml_scan.specs.Seen.{Seen, seen, seen_of, Seen as sight}

-- n scans
abbrev pub scans : ℕ → List Call
scans n = replicate n SCAN

-- the fault, if there is one
abbrev pub fault_told : Option Fault → List Answer
fault_told None = []
fault_told (Some f) = FAULT f ∷ []

-- the answers to n scans, if n is more than the tokens: all of these in order, then the fault once, if there is one,
-- and then empty tokens
abbrev pub all_told : Answers → ℕ → List Answer
all_told a n =
    map TOKEN a.tokens
    ++ (fault_told a.fault ++ replicate (n - (length a.tokens) - (length (fault_told a.fault))) (TOKEN empty))

-- what a session has left of the answers to its input: the tokens that were not taken, and the fault; nothing if it
-- is over
abbrev pub left_of : Answers → Session → Answers
left_of a s =
    if s.over then record { tokens = []; fault = None } else record { tokens = drop s.taken a.tokens; fault = a.fault }

-- the answers of a session of an input to calls
abbrev pub told_to : ℕ → yaml_encoding_t → List ℕ → List Call → Session → List Answer
told_to limit setting input calls s =
    session (decoded_input setting input).encoding limit (course limit (decoded_input setting input)) calls s

-- more scans than an input has tokens return all of these in order, its fault once, and then empty tokens
abbrev pub AllIsTold : Type 0
AllIsTold = (limit : ℕ) (setting : yaml_encoding_t) (input : List ℕ) (n : ℕ)
    → length (answers_to limit setting input).tokens < n
    → told_to limit setting input (scans n) new_session ≡ all_told (answers_to limit setting input) n

-- in every state of a session more scans than there are tokens left return all that is left
abbrev pub RestIsTold : Type 0
RestIsTold = (limit : ℕ) (setting : yaml_encoding_t) (input : List ℕ) (s : Session) (n : ℕ)
    → length (left_of (answers_to limit setting input) s).tokens < n
    → told_to limit setting input (scans n) s ≡ all_told (left_of (answers_to limit setting input) s) n

-- what is left for a parser to return
abbrev pub left_to : Parser → Answers
left_to p = left_of (answers_to p.limit p.setting p.input) p.session

-- what n scans append to other answers is all that is left, or a growth was refused in one of them
pub record PutsRest (p : Parser) (n : ℕ) (old new : List yaml_answer_t) (q : Parser) : Type 0 where
  pub more : List yaml_answer_t
  pub is : new ≡ old ++ more
  pub told : (map seen_of more ≡ map seen (all_told (left_to p) n)) ⊎ RunsOut p (scans n) (map seen_of more) q

-- if all calls are scans, and more than the tokens that are left
abbrev pub ReadsOn : Parser → List Call → List yaml_answer_t → List yaml_answer_t → Parser → Type 0
ReadsOn p calls old new q = (n : ℕ) → calls ≡ scans n → length (left_to p).tokens < n → PutsRest p n old new q

-- scans that are made one by one, more than there are tokens left, return all that is left, or a growth was refused in
-- one of them
abbrev pub ScansReadOn : Type 0
ScansReadOn = (p : Parser) (results : List (Result code_token_t yaml_fault_t)) (q : Parser)
    → Runs decoded_input p (scans (length results)) (map seen (map scan_result results)) q
    → length (left_to p).tokens < length results
    → (map scan_result results ≡ all_told (left_to p) (length results))
    ⊎ RunsOut p (scans (length results)) (map seen (map scan_result results)) q

-- FAULTS
abbrev pub is_fault : Seen → Bool
is_fault (sight.FAULT f) = true
is_fault _ = false

-- at most one of the answers is a fault
abbrev pub HaveOneFault : List Seen → Type 0
HaveOneFault answers = length (filter is_fault answers) ≤ 1

-- whatever the calls, and in every state of the session
abbrev pub FaultIsToldOnce : Type 0
FaultIsToldOnce = (limit : ℕ) (setting : yaml_encoding_t) (input : List ℕ) (calls : List Call) (s : Session)
    → HaveOneFault (map seen (told_to limit setting input calls s))

-- a fault is returned at most once, also if memory was refused
abbrev pub RunsFaultOnce : Type 0
RunsFaultOnce = (p : Parser) (calls : List Call) (answers : List Seen) (q : Parser)
    → Runs decoded_input p calls answers q → HaveOneFault answers
