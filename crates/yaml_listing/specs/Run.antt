-- What the program does with what it reads.
use Rattle.std.specs.Prelude.{ℕ, ◌≡◌, ◌==◌, ◌<◌, ◌⊎◌, Bool, false, if◌then◌else◌}
use Rattle.std.specs.Prelude.{List, ◌++◌, length, map, take, Option, is_some, Result, Err, is_err}
use Rattle.std.specs.List.{list_any}
use Rattle.std.specs.Io.KnownBytes.{Appends, Consumes, IsAtEnd}
use Rattle.yaml_text.specs.declared.types.yaml_encoding_t.{yaml_encoding_t}
use Rattle.yaml_text.specs.declared.types.yaml_encoding_t.TheVariants.{YAML_UTF8_ENCODING}
use Rattle.yaml_text.specs.Text.{Text}
use Rattle.yaml_text.specs.Fault.{Fault, memory_fault}
use Rattle.yaml_text.specs.Decode.{encoding_of}
use Rattle.yaml_text.specs.Decoding.{decoding}
use Rattle.yaml_listing.specs.declared.args.yaml_command_t.{yaml_command_t}
use Rattle.yaml_listing.specs.declared.args.yaml_command_t.TheVariants.{Decode, Scan, ScanLimit, Calls}
use Rattle.yaml_scan.specs.declared.calls.yaml_call_t.{yaml_call_t}
use Rattle.yaml_scan.specs.declared.calls.yaml_call_t.TheVariants.{SCAN, PEEK, SKIP}
use Rattle.yaml_text.specs.Token.{Token}
use Rattle.yaml_scan.specs.Session.{Call}
use Rattle.yaml_scan.specs.Sessions.{new_session}
use Rattle.yaml_scan.specs.Inputs.{answers_to}
use Rattle.yaml_scan.specs.Decoded.{decoded_input}
use Rattle.yaml_scan.specs.Parser.{Parser}
use Rattle.yaml_scan.specs.ParserCalls.{IsRefusedAtStart, call_of}
use Rattle.yaml_scan.specs.All.{AllOf, ReadsAll}
use Rattle.yaml_scan.specs.Seen.{Seen}
use Rattle.yaml_scan.specs.Headline.{Runs}
use Rattle.yaml_listing.specs.Args.{is_right, usual_key_limit}
use Rattle.yaml_listing.specs.Listing.{decode_line, token_lines, fault_lines, answer_lines, is_fault}

-- The key limit of the command is wrong, or its word of calls is.
abbrev pub IsWrong : yaml_command_t → Type 0
IsWrong command = is_right command ≡ false

-- The answer is what the input decodes to, or that memory was refused. If the input is in UTF-8, none is refused.
pub record AnswersDecode (setting : yaml_encoding_t) (input : List ℕ) (answer : Result Text Fault) : Type 0 where
  pub answer_is : (answer ≡ decoding setting input) ⊎ (answer ≡ Err memory_fault)
  pub in_utf8 : encoding_of setting input ≡ YAML_UTF8_ENCODING → answer ≡ decoding setting input

-- The lines are the listing of the answer to a decoding, and has_fault says whether it is a fault.
pub record ListsDecode (setting : yaml_encoding_t) (input lines : List ℕ) (has_fault : Bool) : Type 0 where
  pub answer : Result Text Fault
  pub answers : AnswersDecode setting input answer
  pub lines_are : lines ≡ decode_line answer
  pub fault_is : has_fault ≡ is_err answer

-- The lines are the listing of all tokens of the input and of its fault, and has_fault says whether it has one.
pub record ListsScan (limit : ℕ) (setting : yaml_encoding_t) (input lines : List ℕ) (has_fault : Bool) : Type 0 where
  pub tokens : List Token
  pub fault : Option Fault
  pub answers : ReadsAll limit setting input tokens fault
  -- if the input is refused early, tokens and fault are those of its answers, whatever memory there is
  pub at_start : IsRefusedAtStart (decoded_input setting input) → AllOf (answers_to limit setting input) tokens fault
  pub lines_are : lines ≡ token_lines tokens ++ fault_lines fault
  pub fault_is : has_fault ≡ is_some fault

-- the call that a letter stands for
abbrev pub call_for : ℕ → yaml_call_t
call_for c = if c == 0x73 then SCAN else if c == 0x70 then PEEK else SKIP

-- the calls that a word spells
abbrev pub calls_in : List ℕ → List yaml_call_t
calls_in word = map call_for word

-- a parser before its first call
abbrev pub new_parser : yaml_encoding_t → List ℕ → Parser
new_parser setting input =
    record { input = input; setting = setting; limit = usual_key_limit; session = new_session }

-- A new parser gives these answers to the calls.
pub record AnswersCalls
    (setting : yaml_encoding_t)
    (input : List ℕ)
    (calls : List Call)
    (answers : List Seen) : Type 0 where
  pub after : Parser
  pub runs : Runs decoded_input (new_parser setting input) calls answers after

-- The lines are the listing of the answers to the calls that the word spells, and has_fault says whether a fault is
-- among them.
pub record ListsCalls (setting : yaml_encoding_t) (word input lines : List ℕ) (has_fault : Bool) : Type 0 where
  pub answers : List Seen
  pub answered : AnswersCalls setting input (map call_of (calls_in word)) answers
  pub lines_are : lines ≡ answer_lines answers
  pub fault_is : has_fault ≡ list_any is_fault answers

-- The lines list the command's answer to the input, and has_fault says whether a fault's line is among them.
abbrev pub Lists : yaml_command_t → List ℕ → List ℕ → Bool → Type 0
Lists (Decode setting) input lines has_fault = ListsDecode setting input lines has_fault
Lists (Scan setting) input lines has_fault = ListsScan usual_key_limit setting input lines has_fault
Lists (ScanLimit setting limit) input lines has_fault = ListsScan limit setting input lines has_fault
Lists (Calls setting word) input lines has_fault = ListsCalls setting word.now input lines has_fault

-- All that a source had was read, and the lines list the answer to it.
pub record Answers
    (command : yaml_command_t)
    (source source_after : Option (List ℕ))
    (lines : List ℕ)
    (has_fault : Bool) : Type 0 where
  pub input : List ℕ
  pub read : Consumes source source_after input
  pub end : IsAtEnd source_after
  pub listed : Lists command input lines has_fault

-- The listing of the answer to all that a source had was written, and nothing else.
pub record Writes
    (command : yaml_command_t)
    (source source_after sink sink_after : Option (List ℕ))
    (has_fault : Bool) : Type 0 where
  pub lines : List ℕ
  pub answers : Answers command source source_after lines has_fault
  pub written : Appends sink sink_after lines

-- A beginning of the listing, which is not all of it, was written, and nothing else.
pub record WritesBeginning
    (command : yaml_command_t)
    (source source_after sink sink_after : Option (List ℕ)) : Type 0 where
  pub lines : List ℕ
  pub has_fault : Bool
  pub answers : Answers command source source_after lines has_fault
  pub count : ℕ
  pub is_part : count < length lines
  pub written : Appends sink sink_after (take count lines)
