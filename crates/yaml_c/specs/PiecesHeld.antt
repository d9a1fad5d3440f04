-- A scanner that is given its input in pieces and is held between calls, and what the calls give of it.
use Rattle.std.specs.Prelude.{◌≡◌, ◌≢◌, ◌⊎◌, ◌++◌, [], ℕ, ◌≤◌, ◌<◌, Bool, true, false, List, length, Option, Some, None}
use Rattle.yaml_text.specs.declared.types.yaml_encoding_t.{yaml_encoding_t}
use Rattle.yaml_text.specs.Fault.{Fault, memory_fault}
use Rattle.yaml_text.specs.Token.{Token}
use Rattle.yaml_scan.specs.Fed as fed
use Rattle.yaml_scan.specs.Fed.{EndsBy, Fed, GivesOf, HasTakenAll, new_fed}
use Rattle.yaml_scan.specs.FedCalls.{IsNextOf}
use Rattle.yaml_scan.specs.declared.fed.yaml_fed_parser_t.{yaml_fed_parser_t}
use Rattle.yaml_scan.specs.inside.Feeding.{IsFed}
use Rattle.yaml_c.specs.Ahead.{Ahead, IsAhead}
use Rattle.yaml_c.specs.Ahead.Ahead.{NONE, READ_FAULT, ALL_GIVEN}
use Rattle.yaml_c.specs.Answer.{Rooms, answer_of, answer_with, fault_texts, no_answer}
use Rattle.yaml_c.specs.Held.{Why}
use Rattle.yaml_c.specs.Next.{Next, need}
use Rattle.yaml_c.specs.Next.Next.{UNKNOWN, TOKEN, FAULT, OVER}
use Rattle.yaml_c.specs.Record.{held, records_of, all_texts}
use Rattle.yaml_c.specs.Room.{covered}
use Rattle.yaml_c.specs.Spelled.{Spelled}
use Rattle.yaml_c.specs.Status as status
use Rattle.yaml_c.specs.declared.answer.bogzhami_answer.{bogzhami_answer}
use Rattle.yaml_c.specs.declared.held.ahead_t.{ahead_t}
use Rattle.yaml_c.specs.declared.pieces.held_pieces_t.{held_pieces_t}

-- What a scanner is at: its parser, as the calls of that see it, with all bytes that came, and what was read ahead.
pub record PiecesScan : Type 0 where
  pub fed : Fed
  pub ahead : Ahead

-- What was read ahead is so: the session goes on; or it is over, and this is the fault of all that may come, or of
-- refused memory; or it is over, and without a fault all tokens were given.
abbrev pub Stands : Fed → Ahead → Type 0
Stands p NONE = p.session.over ≡ false
Stands p (READ_FAULT f) = (p.session.over ≡ true) × (p.session.fault ≡ Some f)
    × ((f ≡ memory_fault) ⊎ HasTakenAll p (Some f))
Stands p ALL_GIVEN = EndsBy p p fed.OVER

-- A new one.
abbrev pub new_pieces : yaml_encoding_t → ℕ → PiecesScan
new_pieces setting limit = record { fed = new_fed setting limit; ahead = NONE }

-- A parser and what was read ahead are those of a scanner that is at s.
pub record IsKeptPieces (s : PiecesScan) (parser : yaml_fed_parser_t) (read : ahead_t) : Type 0 where
  pub is : IsFed s.fed parser
  pub ahead : IsAhead read s.fed.session.fault s.ahead
  pub stands : Stands s.fed s.ahead

-- What is held is a scanner that is at s. At the last call no more bytes had come than now, and if those were all, they
-- still are.
pub record IsAtPieces (s : PiecesScan) (h : held_pieces_t) : Type 0 where
  pub keeps : IsKeptPieces s h.parser h.ahead
  pub came : h.came ≤ length s.fed.given
  pub whole : h.whole ≡ true → (s.fed.whole ≡ true) × (length s.fed.given ≡ h.came)

-- A window that may be given to what is held: it begins with the input, and has no fewer bytes than at the last call,
-- or, if those were all, the same.
pub record IsWindow (h : held_pieces_t) (from len : ℕ) (last : Bool) : Type 0 where
  pub front : from ≡ 0
  pub grows : h.came ≤ len
  pub same : h.whole ≡ true → (last ≡ true) × (len ≡ h.came)

-- no text of a token has a place in the input, which may be gone
abbrev pub spelled_nowhere : Spelled
spelled_nowhere = record { input = []; skipped = None }

-- This comes next: what is not known, this token, whatever else comes, this fault, or nothing.
abbrev pub IsComing : PiecesScan → Next → Type 0
IsComing s UNKNOWN = Unit {0}
IsComing s (TOKEN t) = (s.ahead ≡ NONE) × IsNextOf s.fed t
IsComing s (FAULT f) = s.ahead ≡ READ_FAULT f
IsComing s OVER = s.ahead ≡ ALL_GIVEN

-- What the status and the answer tell of the tokens that a call gives: a room is full or the stream end is the last; the
-- fault follows them; nothing comes; the texts of what comes next find no room; more has to come; or all of it has to.
abbrev pub TellsPiece
    : Rooms → List Token → Option Fault → fed.Why → PiecesScan → bogzhami_answer → ℕ → Type 0
TellsPiece room list fault why left answer code =
    ((code ≡ status.done) × (fault ≡ None) × (answer ≡ answer_of list None)
    × ((next : Next) × IsComing left next × Why (length room.tokens) (length room.texts) list next))
    ⊎ ((code ≡ status.fault) × (fault ≢ None) × (answer ≡ answer_of list fault))
    ⊎ ((code ≡ status.over) × (left.ahead ≡ ALL_GIVEN) × (list ≡ []) × (fault ≡ None) × (answer ≡ no_answer))
    ⊎ ((code ≡ status.no_room) × (list ≡ []) × (fault ≡ None)
    × ((next : Next) × IsComing left next × (length room.texts < need next)
    × (answer ≡ answer_with 0 (held (need next)) None)))
    ⊎ ((code ≡ status.more) × (fault ≡ None) × (why ≡ fed.MORE) × (answer ≡ answer_of list None))
    ⊎ ((code ≡ status.whole) × (fault ≡ None) × (why ≡ fed.WHOLE) × (answer ≡ answer_of list None))

-- A call gives the next tokens of every input that the bytes so far may begin, whole ones, and perhaps the fault after
-- them. After the fault, and after the stream end, nothing more is given.
pub record GivesPiece
    (s : PiecesScan) (old new : Rooms) (h : held_pieces_t) (answer : bogzhami_answer) (code : ℕ) : Type 0 where
  pub left : PiecesScan
  pub at : IsAtPieces left h
  -- how much came is kept for the next call
  pub came : h.came ≡ length s.fed.given
  pub whole : h.whole ≡ s.fed.whole
  pub list : List Token
  pub why : fed.Why
  pub gives : GivesOf s.fed list why left.fed
  pub fault : Option Fault
  pub few : length list ≤ length old.tokens
  pub fit : length (all_texts list ++ fault_texts fault) ≤ length old.texts
  pub records_are : new.tokens ≡ covered (records_of spelled_nowhere 0 list) old.tokens
  pub texts_are : new.texts ≡ covered (all_texts list ++ fault_texts fault) old.texts
  pub ends : (f : Fault) → fault ≡ Some f → (left.ahead ≡ ALL_GIVEN) × ((f ≡ memory_fault) ⊎ HasTakenAll left.fed (Some f))
  -- nothing comes any more only after the stream end, or after the fault that is given here
  pub last : s.ahead ≢ ALL_GIVEN → left.ahead ≡ ALL_GIVEN → fault ≡ None
      → (s.fed.whole ≡ true) × HasTakenAll left.fed None
  pub over : s.ahead ≡ ALL_GIVEN → code ≡ status.over
  pub tells : TellsPiece old list fault why left answer code

-- A scanner that is given its input in pieces is one of the longer input too, once more of it came.
abbrev pub PiecesCome : Type 0
PiecesCome = (s : PiecesScan) (h : held_pieces_t) (bytes : List ℕ) (last : Bool) → s.fed.whole ≡ false
    → IsAtPieces s h → IsAtPieces (record s { fed = fed.comes s.fed bytes last }) h
