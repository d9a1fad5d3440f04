-- What the functions of a parser return, in the words of a session, and what a parser shows.
use Rattle.std.specs.Prelude.{◌≡◌, ◌⊎◌, true, Option, None, Some, Result, Ok, Err, if◌then◌else◌}
use denote.Ref.{Bor}
use Rattle.yaml_text.specs.declared.types.yaml_encoding_t.{yaml_encoding_t}
use Rattle.yaml_text.specs.declared.types.yaml_encoding_t.TheVariants.{YAML_UTF8_ENCODING}
use Rattle.yaml_text.specs.declared.fault.yaml_fault_t.{yaml_fault_t}
use Rattle.yaml_text.specs.declared.token.yaml_token_t.{yaml_token_t as code_token_t}
use Rattle.yaml_text.specs.Fault.{fault_of}
use Rattle.yaml_text.specs.Token.{token_of}
use Rattle.yaml_scan.specs.Course.{Input, Course}
use Rattle.yaml_scan.specs.declared.calls.yaml_call_t.{yaml_call_t}
use Rattle.yaml_scan.specs.declared.calls.yaml_call_t.TheVariants as code
use Rattle.yaml_scan.specs.Token.{yaml_token_t, empty}
use Rattle.yaml_scan.specs.Groups.{Token, handed_out}
use Rattle.yaml_scan.specs.Near.{starts_near}
use Rattle.yaml_scan.specs.Session.{Call, Answer, next_token}
use Rattle.yaml_scan.specs.Session.Call.{SCAN, PEEK, SKIP}
use Rattle.yaml_scan.specs.Session.Answer.{TOKEN, PEEKED, FAULT}
use Rattle.yaml_scan.specs.Parser.{Parser, course_by, answer_by, after_by}
use Rattle.yaml_scan.specs.Decoded.{decoded_input}

-- WHAT BYTES SPELL
-- the input of a parser
abbrev pub input_read : Parser → Input
input_read p = decoded_input p.setting p.input

-- its course
abbrev pub course_read : Parser → Course
course_read p = course_by decoded_input p

-- the answer to a call
abbrev pub answered : Parser → Call → Answer
answered p call = answer_by decoded_input p call

-- the parser after a call
abbrev pub after_call : Parser → Call → Parser
after_call p call = after_by decoded_input p call

-- CALLS AND WHAT THEY RETURN
-- the code's calls
abbrev pub call_of : yaml_call_t → Call
call_of code.SCAN = SCAN
call_of code.PEEK = PEEK
call_of code.SKIP = SKIP

-- a token or a fault that a scan returns, as an answer
abbrev pub scan_result : Result code_token_t yaml_fault_t → Answer
scan_result (Ok token) = TOKEN (token_of token)
scan_result (Err fault) = FAULT (fault_of fault)

-- the next token is there already: it was peeked, or the session is over and there is none
abbrev pub IsThere : Parser → Type 0
IsThere p = (p.session.peeked ≡ true) ⊎ (p.session.over ≡ true)

-- the input is in UTF-8 and refused so early that its reader's fault comes instead of the first step
abbrev pub IsRefusedAtStart : Input → Type 0
IsRefusedAtStart input = (input.encoding ≡ YAML_UTF8_ENCODING) × (starts_near input.source.size input.refusal ≡ true)

-- a token that a peek shows, or a fault, as an answer
abbrev pub peek_result : Result code_token_t yaml_fault_t → Answer
peek_result (Ok token) = PEEKED (token_of token)
peek_result (Err fault) = FAULT (fault_of fault)

-- the token after the reference, or the fault
abbrev pub copied : Result (Bor code_token_t) yaml_fault_t → Result code_token_t yaml_fault_t
copied (Ok token) = Ok token.now
copied (Err fault) = Err fault

-- WHAT A PARSER SHOWS
abbrev pub token_or_empty : yaml_encoding_t → Option Token → yaml_token_t
token_or_empty e None = empty
token_or_empty e (Some x) = handed_out e x

-- the token that a parser shows: its next one if that was peeked, and else the empty one
abbrev pub token_shown : Parser → yaml_token_t
token_shown p = if p.session.peeked
    then token_or_empty (input_read p).encoding (next_token p.limit (course_read p) p.session) else empty
