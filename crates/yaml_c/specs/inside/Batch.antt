-- A batch, as the code makes it in two rooms: the next tokens, and then the fault.
use Rattle.std.specs.Prelude.{◌≡◌, ◌≢◌, ◌⊎◌, ◌++◌, ℕ, ◌+◌, ◌≤◌, ◌<◌, List, length, Some, None}
use Rattle.yaml_text.specs.Fault.{Fault}
use Rattle.yaml_text.specs.Token.{Token}
use Rattle.yaml_scan.specs.All.{ReadsAll}
use Rattle.yaml_scan.specs.Parser.{Parser}
use Rattle.yaml_scan.specs.declared.scanner.scanner_t.{scanner_t as yaml_kept_parser_t}
use Rattle.yaml_scan.specs.inside.Kept.{IsKept}
use Rattle.yaml_c.specs.Ahead.{Ahead, IsAhead}
use Rattle.yaml_c.specs.Ahead.Ahead.{READ_FAULT, ALL_GIVEN}
use Rattle.yaml_c.specs.Answer.{Rooms, answer_with, fault_texts}
use Rattle.yaml_c.specs.Held.{Scan, ComesFirst, IsKeptAt, Stands, comes, looked}
use Rattle.yaml_c.specs.Next.{Next, need, next_of}
use Rattle.yaml_c.specs.Next.Next.{UNKNOWN, TOKEN, FAULT, OVER}
use Rattle.yaml_c.specs.Record.{held, all_texts}
use Rattle.yaml_c.specs.Room.{covered_from}
use Rattle.yaml_c.specs.Status as status
use Rattle.yaml_c.specs.inside.Sink.{ArePut}
use Rattle.yaml_c.specs.declared.answer.bogzhami_answer.{bogzhami_answer}
use Rattle.yaml_c.specs.declared.held.ahead_t.{ahead_t}
use Rattle.yaml_c.specs.declared.held.ahead_t.TheVariants as read
use Rattle.yaml_c.specs.declared.sink.token_rooms_t.{token_rooms_t}

-- Why no more tokens were put: there is no room for a record, the texts of what comes next find no room, or nothing
-- is left but perhaps the fault.
abbrev pub Stops : ℕ → ℕ → List Token → Next → Type 0
Stops records bytes list UNKNOWN = length list ≡ records
Stops records bytes list (TOKEN t) = (length list ≡ records) ⊎ (bytes < length (all_texts list) + need (TOKEN t))
Stops records bytes list (FAULT f) = Unit {0}
Stops records bytes list OVER = 0 < length list

-- The next tokens of a scanner that is at s were put, whole ones, and what is kept then is the parser after them.
pub record GivesNext (s : Scan) (old new : token_rooms_t) (kept : yaml_kept_parser_t) (left : ahead_t) : Type 0 where
  pub parser : Parser
  pub keeps : IsKept parser kept
  pub after : Ahead
  pub ahead : IsAhead left parser.session.fault after
  pub list : List Token
  pub put : ArePut old list new
  pub few : length list ≤ length old.tokens.now
  pub fit : length (all_texts list) ≤ length old.texts.now
  pub stands : Stands s.limit s.setting s.input parser (s.given ++ list) after
  pub stops : Stops (length old.tokens.now) (length old.texts.now) list (next_of parser after)
  pub first : ComesFirst (comes s) list None (next_of parser after)
  -- nothing is left only after the stream end
  pub last : after ≡ ALL_GIVEN → ReadsAll s.limit s.setting s.input (s.given ++ list) None

-- What comes next of a scanner that is at s is known now, and is the same if it was known before.
pub record Looks (s : Scan) (kept : yaml_kept_parser_t) (left : ahead_t) : Type 0 where
  pub parser : Parser
  pub after : Ahead
  pub keeps : IsKeptAt (looked s parser after) kept left
  pub known : next_of parser after ≢ UNKNOWN
  pub stays : comes s ≢ UNKNOWN → next_of parser after ≡ comes s
  pub over : after ≡ ALL_GIVEN → s.ahead ≡ ALL_GIVEN

-- Two rooms by what they hold.
abbrev pub rooms_of : token_rooms_t → Rooms
rooms_of rooms = record { tokens = rooms.tokens.now; texts = rooms.texts.now }

-- The end of a batch gives the fault, if it comes next and finds room.
pub record GivesFault
    (old : token_rooms_t) (a : Ahead) (new : token_rooms_t) (left : ahead_t) (answer : bogzhami_answer) (code : ℕ)
    : Type 0 where
  pub fault : Fault
  pub is : a ≡ READ_FAULT fault
  pub fits : old.text_len + length (fault_texts (Some fault)) ≤ length old.texts.now
  pub after : left ≡ read.OVER
  pub tokens : new.tokens ≡ old.tokens
  pub same_texts : new.texts.ghost_name ≡ old.texts.ghost_name
  pub texts : new.texts.now ≡ covered_from old.text_len (fault_texts (Some fault)) old.texts.now
  pub answer_is : answer ≡ answer_with old.token_count old.text_len (Some fault)
  pub code_is : code ≡ status.fault

-- What it tells without a fault: the counts, or how much room for texts is needed if no token found room.
abbrev pub TellsCounts : token_rooms_t → Next → bogzhami_answer → ℕ → Type 0
TellsCounts rooms next answer code =
    ((rooms.token_count ≡ 0) × (answer ≡ answer_with 0 (held (need next)) None) × (code ≡ status.no_room))
    ⊎ ((0 < rooms.token_count) × (answer ≡ answer_with rooms.token_count rooms.text_len None) × (code ≡ status.done))

-- It gives no fault: none comes next, or it finds no room.
pub record GivesNoFault
    (p : Parser) (old : token_rooms_t) (a : Ahead) (before : ahead_t) (new : token_rooms_t) (left : ahead_t)
    (answer : bogzhami_answer) (code : ℕ) : Type 0 where
  pub same : new ≡ old
  pub after : left ≡ before
  pub tight : (f : Fault) → a ≡ READ_FAULT f → length old.texts.now < old.text_len + length (fault_texts (Some f))
  pub tells : TellsCounts old (next_of p a) answer code

-- A batch ends so, if this parser is after its tokens.
abbrev pub Ends
    : Parser → token_rooms_t → Ahead → ahead_t → token_rooms_t → ahead_t → bogzhami_answer → ℕ → Type 0
Ends p old a before new left answer code =
    GivesFault old a new left answer code ⊎ GivesNoFault p old a before new left answer code
