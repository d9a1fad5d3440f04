-- A scanner that is new, or in an input.
use Rattle.std.specs.Prelude.{◌≡◌, ◌⊎◌, ℕ, ◌+◌, ◌≤◌, ◌<◌, max, true, false, List, [], length, slice_get, None, Some}
use Rattle.std.specs.Prelude.{Bool, Option, if◌then◌else◌, option_map}
use Rattle.yaml_text.specs.declared.types.yaml_encoding_t.{yaml_encoding_t}
use Rattle.yaml_text.specs.declared.types.yaml_mark_t.{yaml_mark_t}
use Rattle.yaml_text.specs.declared.types.yaml_encoding_t.TheVariants.{YAML_UTF8_ENCODING}
use Rattle.yaml_text.specs.Decode.{front}
use Rattle.yaml_text.specs.declared.fault.yaml_fault_t.{yaml_fault_t}
use Rattle.yaml_text.specs.Fault.{Fault, memory_fault, zero_mark, fault_of}
use Rattle.yaml_scan.specs.Course.{Course, course}
use Rattle.yaml_scan.specs.inside.Scanner.{Scanner, scanner_of}
use Rattle.yaml_scan.specs.declared.slots.slots_t.{slots_t}
use Rattle.yaml_scan.specs.declared.layout.layout_t.{layout_t}
use Rattle.yaml_scan.specs.declared.session.session_t.{session_t}
use Rattle.yaml_text.specs.Token.{token_of}
use Rattle.yaml_scan.specs.KeyLimits.{most_key_limit}
use Rattle.yaml_scan.specs.Laid.{reach}
use Rattle.yaml_scan.specs.Token.{yaml_token_t}
use Rattle.yaml_scan.specs.Groups.{Token, handed_out}
use Rattle.yaml_scan.specs.Settled.{before, settled, pace, first_steps, tokens_of}
use Rattle.yaml_scan.specs.Session.{all_steps}
use Rattle.yaml_scan.specs.Sessions.{session_queued}
use Rattle.yaml_scan.specs.Decoded.{decoded_input}
use Rattle.yaml_scan.specs.inside.Scanning.{Halts, IsRunning, IsOpen, history, course_of, input_of}
use Rattle.yaml_scan.specs.Parser.{Parser}
use Rattle.yaml_scan.specs.inside.Queue.{IsLead}

-- the parts of a scanner that has read nothing yet: it was read to `at`, n tokens were taken, and m steps made
pub record AreNew (slots : slots_t) (may : Bool) (layout : layout_t) (at : yaml_mark_t) (n m : ℕ) : Type 0 where
  pub levels : layout.levels.items ≡ []
  pub outer : slots.outer.items ≡ []
  pub empty : slots.not_simple_keys ≡ 0
  pub top : slots.top ≡ None
  pub awaited : slots.awaited ≡ 0
  pub allowed : may ≡ true
  pub queue : layout.queue.groups.items ≡ []
  pub done : layout.queue.done ≡ 0
  pub early : layout.queue.early ≡ 0
  pub reach : at ≡ zero_mark
  pub taken : n ≡ 0
  pub made : m ≡ 0

-- nothing was read yet, whatever the text is
abbrev pub IsNew : Scanner → Type 0
IsNew s = AreNew s.slots s.allowed s.layout s.reach s.taken s.made

-- a scanner is in an input
pub record IsIn (setting : yaml_encoding_t) (input : List ℕ) (s : Scanner) : Type 0 where
  pub runs : IsRunning s
  pub reads : input_of s ≡ decoded_input setting input
  pub text : s.text ≡ front setting input

-- the next token can be requested
abbrev pub IsReady : yaml_encoding_t → List ℕ → Scanner → Type 0
IsReady setting input s = IsNew s ⊎ (IsIn setting input s × IsOpen s)

-- the next token is at the head of its queue
pub record IsShown (setting : yaml_encoding_t) (input : List ℕ) (s : Scanner) : Type 0 where
  pub stands : IsIn setting input s
  pub still_open : IsOpen s
  pub settled : s.taken < length (before s.limit (history s))

abbrev pub course_in : ℕ → yaml_encoding_t → List ℕ → Course
course_in limit setting input = course limit (decoded_input setting input)

-- the next token is at the head of the queue
pub record IsSettled (setting : yaml_encoding_t) (input : List ℕ) (s t : Scanner) : Type 0 where
  pub stands : IsIn setting input t
  pub still_open : IsOpen t
  pub settled : t.taken < length (before t.limit (history t))
  pub made : t.made ≡ pace s.limit (course_in s.limit setting input).read s.taken s.made
  pub limit : t.limit ≡ s.limit
  pub taken : t.taken ≡ s.taken
  pub done : t.layout.queue.done ≡ s.layout.queue.done

-- a scanner that has stopped: no more steps were made than the next token needs, and it needs one more
pub record IsStopped (setting : yaml_encoding_t) (input : List ℕ) (s t : Scanner) : Type 0 where
  pub limit : t.limit ≡ s.limit
  pub taken : t.taken ≡ s.taken
  pub done : t.layout.queue.done ≡ s.layout.queue.done
  pub least : s.made ≤ t.made
  pub most : t.made ≤ pace s.limit (course_in s.limit setting input).read s.taken s.made
  pub unsettled : settled s.limit (course_in s.limit setting input).read s.taken t.made ≡ false
  pub reach : t.reach ≡ reach (first_steps t.made (course_in s.limit setting input).read)
  -- it is left as the last good step left it
  pub last : Scanner
  pub ready : IsReady setting input last
  pub halts : Halts last t

-- a growth was refused: in UTF-8, whose text takes none, in the first step, if no reader's fault replaces it, or after
-- it
pub record IsShort (setting : yaml_encoding_t) (input : List ℕ) (s : Scanner) (f : Fault) : Type 0 where
  pub fault : f ≡ memory_fault
  pub in_utf8 : (decoded_input setting input).encoding ≡ YAML_UTF8_ENCODING
      → (course_in s.limit setting input).begun ≡ true

-- there is no next token, and f is why
pub record IsEnded (setting : yaml_encoding_t) (input : List ℕ) (s t : Scanner) (f : Fault) : Type 0 where
  pub none : length (tokens_of s.limit (course_in s.limit setting input)) ≤ s.taken
  pub fault : (course_in s.limit setting input).fault ≡ Some f
  pub made : t.made ≡ all_steps (course_in s.limit setting input)

-- the head of the queue is taken
pub record Pops (s t : Scanner) (x : yaml_token_t) : Type 0 where
  pub token : Token
  pub is : slice_get (before s.limit (course_of s).read) s.taken ≡ Some token
  pub answer : x ≡ handed_out s.text.encoding token
  pub runs : IsRunning t
  pub text : t.text ≡ s.text
  pub refusal : t.refusal ≡ s.refusal
  pub limit : t.limit ≡ s.limit
  pub made : t.made ≡ s.made
  pub taken : t.taken ≡ s.taken + 1

-- A SCAN
-- a session over an input, in an encoding setting
pub record Scan : Type 0 where
  pub setting : yaml_encoding_t
  pub input : List ℕ
  pub session : session_t

-- the same, with another session
abbrev pub with_session : Scan → session_t → Scan
with_session i s = record { setting = i.setting; input = i.input; session = s }

-- its scanner, once it has a text
abbrev pub scanner_in : Scan → Scanner
scanner_in i = scanner_of (front i.setting i.input) i.session.state

-- the fault that ended its session, if one did
abbrev pub fault_in : Bool → Option yaml_fault_t → Option Fault
fault_in failed stored = if failed then option_map fault_of stored else None

-- its parser
abbrev pub parser_of : Scan → Parser
parser_of i = record {
  input = i.input;
  setting = i.setting;
  limit = i.session.state.limit;
  session = record {
    taken = i.session.state.taken;
    steps = i.session.state.made;
    peeked = i.session.peeked;
    over = i.session.over;
    fault = fault_in i.session.failed i.session.state.fault;
  };
}

pub record Sound (i : Scan) : Type 0 where
  pub ready : i.session.over ≡ false → IsReady i.setting i.input (scanner_in i)
  pub peeked : i.session.peeked ≡ true → (i.session.over ≡ false) × IsShown i.setting i.input (scanner_in i)
  pub failed : i.session.over ≡ false → i.session.failed ≡ false
  pub reach : i.session.state.reach
      ≡ reach (first_steps i.session.state.made (course_in i.session.state.limit i.setting i.input).read)
  pub lead : i.session.peeked ≡ true
      → IsLead (front i.setting i.input).encoding i.session.state.layout.queue (token_of i.session.lead)
  pub limit : i.session.state.limit ≤ most_key_limit
  pub queued : session_queued (course_in i.session.state.limit i.setting i.input) (parser_of i).session
      + i.session.state.layout.queue.done ≡ i.session.state.made
  pub few : session_queued (course_in i.session.state.limit i.setting i.input) (parser_of i).session
      ≤ i.session.state.limit + 1

-- the session after a fault that ended it
abbrev pub ended_by : session_t → yaml_fault_t → session_t
ended_by s fault = record {
  state = record s.state { fault = Some fault };
  lead = s.lead;
  peeked = false;
  over = true;
  failed = true;
}

-- STREAM-START was made
pub record Begins (setting : yaml_encoding_t) (input : List ℕ) (s t : Scanner) : Type 0 where
  pub stands : IsIn setting input t
  pub still_open : IsOpen t
  pub made : t.made ≡ 1
  pub limit : t.limit ≡ s.limit
  pub taken : t.taken ≡ s.taken
  pub done : t.layout.queue.done ≡ s.layout.queue.done

-- the first step was made, now or before
pub record IsStarted (setting : yaml_encoding_t) (input : List ℕ) (s t : Scanner) : Type 0 where
  pub stands : IsIn setting input t
  pub still_open : IsOpen t
  pub made : t.made ≡ max 1 s.made
  pub limit : t.limit ≡ s.limit
  pub taken : t.taken ≡ s.taken
  pub done : t.layout.queue.done ≡ s.layout.queue.done
