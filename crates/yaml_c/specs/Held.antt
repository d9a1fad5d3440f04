-- A scanner that is held between calls, and what the calls give of it.
use Rattle.std.specs.Prelude.{◌≡◌, ◌≢◌, ◌⊎◌, ◌++◌, ◌∷◌, [], ℕ, ◌+◌, ◌≤◌, ◌<◌, List, length, Option, Some, None, false}
use Rattle.std.specs.Prelude.{true}
use Rattle.yaml_text.specs.declared.types.yaml_encoding_t.{yaml_encoding_t}
use Rattle.yaml_text.specs.Decode.{encoding_of}
use Rattle.yaml_text.specs.Fault.{Fault}
use Rattle.yaml_text.specs.Token.{Token}
use Rattle.yaml_text.specs.Types.{encoding_number}
use Rattle.yaml_scan.specs.All.{ReadsAll}
use Rattle.yaml_scan.specs.Decoded.{decoded_input}
use Rattle.yaml_scan.specs.Headline.{Calls}
use Rattle.yaml_scan.specs.Parser.{Parser}
use Rattle.yaml_scan.specs.Scanned.{Scanned}
use Rattle.yaml_scan.specs.Session.Answer.{FAULT as FAULT_ANSWER}
use Rattle.yaml_scan.specs.Session.Call.{SCAN}
use Rattle.yaml_scan.specs.Sessions.{new_session}
use Rattle.yaml_scan.specs.declared.scanner.scanner_t.{scanner_t as yaml_kept_parser_t}
use Rattle.yaml_scan.specs.inside.Kept.{IsKept}
use Rattle.yaml_c.specs.Ahead.{Ahead, IsAhead}
use Rattle.yaml_c.specs.Ahead.Ahead.{NONE, READ_FAULT, ALL_GIVEN}
use Rattle.yaml_c.specs.Answer.{Rooms, answer_of, answer_with, no_answer, fault_texts}
use Rattle.yaml_c.specs.Next.{Next, next_of, need}
use Rattle.yaml_c.specs.Next.Next.{UNKNOWN, TOKEN, FAULT, OVER}
use Rattle.yaml_c.specs.Record.{held, record_of, records_of, texts_of, all_texts}
use Rattle.yaml_c.specs.Room.{covered}
use Rattle.yaml_c.specs.Spelled.{Spelled, skipped_of, spelled_in}
use Rattle.yaml_c.specs.Status as status
use Rattle.yaml_c.specs.declared.answer.bogzhami_answer.{bogzhami_answer}
use Rattle.yaml_c.specs.declared.held.ahead_t.{ahead_t}
use Rattle.yaml_c.specs.declared.held.held_t.{held_t}
use Rattle.yaml_c.specs.declared.record.bogzhami_token.{bogzhami_token}

-- What a scanner is at: what it was opened with, its parser, the tokens that it has given, and what was read ahead of
-- them.
pub record Scan : Type 0 where
  pub input : List ℕ
  pub setting : yaml_encoding_t
  pub limit : ℕ
  pub parser : Parser
  pub given : List Token
  pub ahead : Ahead

-- What comes next, as far as it is known.
abbrev pub comes : Scan → Next
comes s = next_of s.parser s.ahead

-- These are all tokens before the fault, and the parser was left by the scan that returned it.
pub record IsEndedBy
    (limit : ℕ) (setting : yaml_encoding_t) (input : List ℕ) (p : Parser) (given : List Token) (f : Fault) : Type 0
  where
    pub reads : ReadsAll limit setting input given (Some f)
    pub before : Parser
    pub scanned : Scanned limit setting input before given false
    pub ended : Calls decoded_input SCAN before (FAULT_ANSWER f) p

-- The tokens are those that a parser of the input returned, or the input has no more of them.
abbrev pub Stands : ℕ → yaml_encoding_t → List ℕ → Parser → List Token → Ahead → Type 0
Stands limit setting input p given NONE = Scanned limit setting input p given false
Stands limit setting input p given (READ_FAULT f) = IsEndedBy limit setting input p given f
Stands limit setting input p given ALL_GIVEN = Scanned limit setting input p given true
    ⊎ ((f : Fault) × IsEndedBy limit setting input p given f)

-- A new one.
abbrev pub opened : List ℕ → yaml_encoding_t → ℕ → Scan
opened input setting limit = record {
  input = input;
  setting = setting;
  limit = limit;
  parser = record { input = input; setting = setting; limit = limit; session = new_session };
  given = [];
  ahead = NONE;
}

-- A parser that is kept, and what was read ahead, are those of a scanner that is at s.
pub record IsKeptAt (s : Scan) (parser : yaml_kept_parser_t) (read : ahead_t) : Type 0 where
  pub kept : IsKept s.parser parser
  pub ahead : IsAhead read s.parser.session.fault s.ahead
  pub stands : Stands s.limit s.setting s.input s.parser s.given s.ahead

-- What is held is a scanner that is at s.
pub record IsAt (s : Scan) (h : held_t) : Type 0 where
  pub keeps : IsKeptAt s h.parser h.ahead
  pub encoding : h.encoding ≡ encoding_number (encoding_of s.setting s.input)
  pub skipped : h.skipped ≡ skipped_of s.setting s.input

-- Where it is after some more tokens, with this parser.
abbrev pub moved : Scan → Parser → List Token → Ahead → Scan
moved s p list after = record s { parser = p; given = s.given ++ list; ahead = after }

-- Why a batch without a fault ended: all records have tokens, the stream end is the last, or the texts of what comes
-- next find no room after at least one token.
abbrev pub Why : ℕ → ℕ → List Token → Next → Type 0
Why records bytes list next = (length list ≡ records) ⊎ ((0 < length list) × (next ≡ OVER))
    ⊎ ((0 < length list) × (bytes < length (all_texts list) + need next))

-- What the status and the answer tell of a batch, after which this comes next.
abbrev pub Tells : Scan → Rooms → List Token → Option Fault → Next → bogzhami_answer → ℕ → Type 0
Tells s room list fault next answer code =
    ((code ≡ status.done) × (fault ≡ None) × (answer ≡ answer_of list None)
    × Why (length room.tokens) (length room.texts) list next)
    ⊎ ((code ≡ status.fault) × (fault ≢ None) × (answer ≡ answer_of list fault))
    ⊎ ((code ≡ status.over) × (s.ahead ≡ ALL_GIVEN) × (list ≡ []) × (fault ≡ None) × (next ≡ OVER)
    × (answer ≡ no_answer))
    ⊎ ((code ≡ status.no_room) × (list ≡ []) × (fault ≡ None) × (length room.texts < need next)
    × (answer ≡ answer_with 0 (held (need next)) None))

-- the first of the tokens is t, or there is none and t comes next
abbrev pub IsFirst : Token → List Token → Next → Type 0
IsFirst t [] next = next ≡ TOKEN t
IsFirst t (x ∷ list) next = x ≡ t

-- What was to come next comes first, or is still to come next.
abbrev pub ComesFirst : Next → List Token → Option Fault → Next → Type 0
ComesFirst UNKNOWN list fault next = Unit {0}
ComesFirst (TOKEN t) list fault next = IsFirst t list next
ComesFirst (FAULT f) list fault next = (list ≡ []) × ((fault ≡ Some f) ⊎ (next ≡ FAULT f))
ComesFirst OVER list fault next = Unit {0}

-- A call gives the next tokens, whole ones, and perhaps the fault after them. After the fault, and after the stream
-- end, nothing more is given.
pub record IsNext (s : Scan) (old new : Rooms) (h : held_t) (answer : bogzhami_answer) (code : ℕ) : Type 0 where
  pub parser : Parser
  pub list : List Token
  pub fault : Option Fault
  pub after : Ahead
  pub at : IsAt (moved s parser list after) h
  pub few : length list ≤ length old.tokens
  pub fit : length (all_texts list ++ fault_texts fault) ≤ length old.texts
  pub records_are : new.tokens ≡ covered (records_of (spelled_in s.setting s.input) 0 list) old.tokens
  pub texts_are : new.texts ≡ covered (all_texts list ++ fault_texts fault) old.texts
  pub ends : (f : Fault) → fault ≡ Some f
      → (after ≡ ALL_GIVEN) × ReadsAll s.limit s.setting s.input (s.given ++ list) (Some f)
  -- so a batch begins with what a peek has shown
  pub first : ComesFirst (comes s) list fault (next_of parser after)
  -- nothing comes any more only after the stream end, or after the fault that is given here
  pub last : s.ahead ≢ ALL_GIVEN → after ≡ ALL_GIVEN → ReadsAll s.limit s.setting s.input (s.given ++ list) fault
  pub over : s.ahead ≡ ALL_GIVEN → code ≡ status.over
  pub tells : Tells s old list fault (next_of parser after) answer code

-- The same scanner, with what was read ahead.
abbrev pub looked : Scan → Parser → Ahead → Scan
looked s p after = record s { parser = p; ahead = after }

-- What comes next is shown, if its texts find room: the token and its texts, the fault and its texts, or that nothing
-- comes.
pub record Shows
    (spelled : Spelled) (a : Next) (old : bogzhami_token) (room : List ℕ) (new : bogzhami_token) (texts : List ℕ)
    (answer : bogzhami_answer) (code : ℕ) : Type 0 where
  pub no_room : length room < need a
      → (new ≡ old) × (texts ≡ room) × (code ≡ status.no_room) × (answer ≡ answer_with 0 (held (need a)) None)
  pub token : (t : Token) → a ≡ TOKEN t → need a ≤ length room
      → (new ≡ record_of spelled 0 t) × (texts ≡ covered (texts_of t) room)
      × (code ≡ status.done) × (answer ≡ answer_of (t ∷ []) None)
  pub fault : (f : Fault) → a ≡ FAULT f → need a ≤ length room
      → (new ≡ old) × (texts ≡ covered (fault_texts (Some f)) room)
      × (code ≡ status.fault) × (answer ≡ answer_of [] (Some f))
  pub over : a ≡ OVER → (new ≡ old) × (texts ≡ room) × (code ≡ status.over) × (answer ≡ no_answer)

-- A call shows the token that the next batch begins with, or the fault. Nothing is taken.
pub record IsPeek
    (s : Scan) (old : bogzhami_token) (room : List ℕ) (new : bogzhami_token) (texts : List ℕ) (h : held_t)
    (answer : bogzhami_answer) (code : ℕ) : Type 0 where
  pub parser : Parser
  pub after : Ahead
  pub known : next_of parser after ≢ UNKNOWN
  -- what was known before is shown again
  pub stays : comes s ≢ UNKNOWN → next_of parser after ≡ comes s
  -- that nothing comes is shown only after the stream end or the fault was given
  pub over : after ≡ ALL_GIVEN → s.ahead ≡ ALL_GIVEN
  pub at : IsAt (looked s parser after) h
  pub shows : Shows (spelled_in s.setting s.input) (next_of parser after) old room new texts answer code
