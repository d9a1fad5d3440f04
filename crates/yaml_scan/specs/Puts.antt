-- What the answers that a list of calls appends say, and which of them other inputs get as well.
use Rattle.std.specs.Prelude.{◌≡◌, ◌≢◌, ◌⊎◌, ◌↔◌, ℕ, ◌+◌, ◌<◌, false, Option, None, Some, IfSome, List, []}
use Rattle.std.specs.Prelude.{◌∷◌, ◌++◌, map, take, drop, replicate, length, slice_get}
use Rattle.yaml_text.specs.Fault.{Fault, memory_fault}
use Rattle.yaml_text.specs.declared.types.yaml_encoding_t.{yaml_encoding_t}
use Rattle.yaml_scan.specs.Decoded.{decoded_input}
use Rattle.yaml_scan.specs.ParserCalls.{input_read, course_read, answered}
use Rattle.yaml_scan.specs.declared.calls.yaml_answer_t.{yaml_answer_t}
use Rattle.yaml_scan.specs.Token.{yaml_token_t, empty, type_of}
use Rattle.yaml_scan.specs.Groups.{Token}
use Rattle.yaml_scan.specs.Begins.{Begins}
use Rattle.yaml_scan.specs.Inputs.{answers_to, GoesOn}
use Rattle.yaml_scan.specs.Session.{Call, Answer, next_token}
use Rattle.yaml_scan.specs.Sessions.{session, after_all}
use Rattle.yaml_scan.specs.Session.Call.{SCAN, PEEK, SKIP}
use Rattle.yaml_scan.specs.Parser.{Parser}
use Rattle.yaml_scan.specs.Session.Answer.{FAULT}
use Rattle.yaml_scan.specs.Seen.{Seen, seen, seen_of, Seen as sight}
use Rattle.yaml_scan.specs.Headline.{WantsMemory, Runs}
use Rattle.yaml_scan.specs.Seen.Seen.{TOKEN, PEEKED, SKIPPED, NOTHING}

-- `Holds` is true of the answers that were appended to the old ones
pub record Puts (Holds : List Seen → Type 0) (old new : List yaml_answer_t) : Type 0 where
  pub more : List yaml_answer_t
  pub is : new ≡ old ++ more
  pub holds : Holds (map seen_of more)

-- THE SESSION'S ANSWERS
-- the session's answers to a list of calls
abbrev pub answered_all : Parser → List Call → List Answer
answered_all p calls = session (input_read p).encoding p.limit (course_read p) calls p.session

-- the parser after a list of calls in which no memory was refused
abbrev pub after_calls : Parser → List Call → Parser
after_calls p calls = record {
  input = p.input;
  setting = p.setting;
  limit = p.limit;
  session = after_all p.limit (course_read p) calls p.session;
}

-- the session's answers to a list of calls are appended to others
pub record PutsSession (p : Parser) (calls : List Call) (old new : List yaml_answer_t) (q : Parser) : Type 0 where
  pub more : List yaml_answer_t
  pub is : new ≡ old ++ more
  pub answers : map seen_of more ≡ map seen (answered_all p calls)
  pub left : q ≡ after_calls p calls

-- the answer to a call if the session is over
abbrev pub idle : Call → Seen
idle SCAN = TOKEN empty
idle PEEK = PEEKED (type_of empty.token_data) empty.start_mark empty.end_mark
idle SKIP = NOTHING

-- the answers to calls are a parser's, up to this fault, and after it as if the session is over
pub record StopsWith (fault : Fault) (p : Parser) (calls : List Call) (answers : List Seen) : Type 0 where
  pub n : ℕ
  pub within : n < length calls
  pub answers_are : answers
      ≡ map seen (answered_all p (take n calls)) ++ (sight.FAULT fault ∷ map idle (drop (n + 1) calls))

-- memory was refused in a call, other than a skip: the answers stop with the fault of kind memory
pub record RunsOut (p : Parser) (calls : List Call) (answers : List Seen) (q : Parser) : Type 0 where
  pub stops : StopsWith memory_fault p calls answers
  pub asks : slice_get calls stops.n ≢ Some SKIP
  pub wants : WantsMemory decoded_input (after_calls p (take stops.n calls)) q

-- THE TOKENS THAT WERE TAKEN
-- the tokens that answers say were taken, in order: a scan its token, a skip that there was one
abbrev pub taken_told : List Seen → List (Option yaml_token_t)
taken_told [] = []
taken_told (TOKEN t ∷ more) = Some t ∷ taken_told more
taken_told (PEEKED type start end ∷ more) = taken_told more
taken_told (SKIPPED ∷ more) = None ∷ taken_told more
taken_told (NOTHING ∷ more) = taken_told more
taken_told (sight.FAULT f ∷ more) = taken_told more

-- a list of what was taken has just these tokens, in order
abbrev pub AreTold : List (Option yaml_token_t) → List yaml_token_t → Type 0
AreTold [] [] = Unit {0}
AreTold [] (t ∷ ts) = ⊥
AreTold (o ∷ os) [] = ⊥
AreTold (o ∷ os) (t ∷ ts) = IfSome o (λ u. u ≡ t) × AreTold os ts

-- of tokens, of which n were taken, the next ones were taken in order, up to the m-th; what else was handed out, after
-- these, were empty tokens
pub record TakesOn (tokens : List yaml_token_t) (n : ℕ) (answers : List Seen) (m : ℕ) : Type 0 where
  pub took : List yaml_token_t
  pub are_next : Begins took (drop n tokens)
  pub count : m ≡ n + length took
  pub says : List (Option yaml_token_t)
  pub are_told : AreTold says took
  pub idle : ℕ
  pub answers_are : taken_told answers ≡ says ++ replicate idle (Some empty)

-- the answers say that the next tokens of the input's list were taken, as many as the count of the parser's session
-- grows by
abbrev pub TakesNext : Parser → List Seen → Parser → Type 0
TakesNext p answers q =
    TakesOn (answers_to p.limit p.setting p.input).tokens p.session.taken answers q.session.taken

-- the session is not over, and there is a next token
abbrev pub HasNext : Parser → Type 0
HasNext p = (p.session.over ≡ false)
    × ((token : Token) × (next_token p.limit (course_read p) p.session ≡ Some token))

-- OTHER INPUTS
-- a parser in the same session of another input
abbrev pub of_input : Parser → yaml_encoding_t → List ℕ → Parser
of_input p setting input =
    record { input = input; setting = setting; limit = p.limit; session = p.session }

-- a call's answer is as for each accepted input that agrees up to the refused character, except for the reader's fault
-- and a refused growth
abbrev pub IsAnsweredAlike : Parser → Call → Answer → Type 0
IsAnsweredAlike p call a = (t : yaml_encoding_t) (b : List ℕ) (fault : Fault)
    → GoesOn p.setting p.input t b fault
    → (a ≡ answered (of_input p t b) call) ⊎ ((a ≡ FAULT fault) ⊎ (a ≡ FAULT memory_fault))

-- the answers to calls are as for each accepted input that agrees up to the refused character: all of them, or those
-- before the reader's fault or before a refused growth
abbrev pub AreAnsweredAlike : Parser → List Call → List Seen → Type 0
AreAnsweredAlike p calls answers = (t : yaml_encoding_t) (b : List ℕ) (fault : Fault)
    → GoesOn p.setting p.input t b fault
    → (answers ≡ map seen (answered_all (of_input p t b) calls))
    ⊎ (StopsWith fault (of_input p t b) calls answers ⊎ StopsWith memory_fault (of_input p t b) calls answers)

-- these tokens and this fault are those of each accepted input that agrees up to the refused character, or a beginning
-- of its tokens and the reader's fault or a refused growth
abbrev pub AreReadAlike : ℕ → yaml_encoding_t → List ℕ → List yaml_token_t → Option Fault → Type 0
AreReadAlike limit s a tokens fault = (t : yaml_encoding_t) (b : List ℕ) (refused : Fault)
    → GoesOn s a t b refused
    → Begins tokens (answers_to limit t b).tokens
    × (((tokens ≡ (answers_to limit t b).tokens) × (fault ≡ (answers_to limit t b).fault))
    ⊎ ((fault ≡ Some refused) ⊎ (fault ≡ Some memory_fault)))

-- CALLS IN TURN
-- the answers to a list of calls are the session's, and the last call leaves what the session leaves; or memory was
-- refused in one of the calls
abbrev pub OfSession : Parser → List Call → List Seen → Parser → Type 0
OfSession p calls answers q =
    ((answers ≡ map seen (answered_all p calls)) × (q ≡ after_calls p calls)) ⊎ RunsOut p calls answers q

-- calls that are answered one after the other, each on the parser that the one before it left, are answered just so
abbrev pub CallsAreSession : Type 0
CallsAreSession = (p : Parser) (calls : List Call) (answers : List Seen) (q : Parser)
    → Runs decoded_input p calls answers q ↔ OfSession p calls answers q
