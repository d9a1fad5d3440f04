-- The tokens of one call of a scanner of pieces, as the code gives them: those that find room, and then the fault.
use Rattle.std.specs.Prelude.{◌≡◌, ◌⊎◌, ℕ, ◌+◌, ◌≤◌, ◌<◌, true, false, List, length, Some, None}
use Rattle.yaml_text.specs.Fault.{Fault}
use Rattle.yaml_text.specs.Token.{Token}
use Rattle.yaml_scan.specs.Fed as fed
use Rattle.yaml_scan.specs.Fed.{Fed, GivesOf, HasTakenAll}
use Rattle.yaml_scan.specs.FedCalls.{IsNextOf}
use Rattle.yaml_scan.specs.declared.fed.yaml_fed_parser_t.{yaml_fed_parser_t}
use Rattle.yaml_scan.specs.declared.fed.yaml_fed_t.{yaml_fed_t}
use Rattle.yaml_scan.specs.declared.fed.yaml_fed_t.TheVariants as code
use Rattle.yaml_c.specs.Ahead.{Ahead}
use Rattle.yaml_c.specs.Ahead.Ahead.{NONE, READ_FAULT, ALL_GIVEN}
use Rattle.yaml_c.specs.Answer.{answer_with, fault_texts, no_answer}
use Rattle.yaml_c.specs.Next.{Next}
use Rattle.yaml_c.specs.Next.Next.{UNKNOWN, TOKEN, FAULT, OVER}
use Rattle.yaml_c.specs.PiecesHeld.{IsKeptPieces, PiecesScan}
use Rattle.yaml_c.specs.Record.{all_texts}
use Rattle.yaml_c.specs.Status as status
use Rattle.yaml_c.specs.inside.Batch.{GivesFault, Stops, TellsCounts}
use Rattle.yaml_c.specs.inside.Sink.{ArePut}
use Rattle.yaml_c.specs.declared.answer.bogzhami_answer.{bogzhami_answer}
use Rattle.yaml_c.specs.declared.held.ahead_t.{ahead_t}
use Rattle.yaml_c.specs.declared.sink.token_rooms_t.{token_rooms_t}

-- this is what the parser shows: a token, or nothing
abbrev pub Shown : Fed → Next → Type 0
Shown p UNKNOWN = p.session.peeked ≡ false
Shown p (TOKEN t) = (p.session.peeked ≡ true) × IsNextOf p t
Shown p (FAULT f) = ⊥
Shown p OVER = ⊥

-- Why no more tokens were put.
abbrev pub StopsFor : ℕ → ℕ → List Token → fed.Why → PiecesScan → yaml_fed_t → Type 0
StopsFor records bytes list why left code.ROOM = (left.ahead ≡ NONE)
    × ((next : Next) → Shown left.fed next → Stops records bytes list next)
StopsFor records bytes list why left code.MORE = (left.ahead ≡ NONE) × (why ≡ fed.MORE)
StopsFor records bytes list why left code.WHOLE = (left.ahead ≡ NONE) × (why ≡ fed.WHOLE)
StopsFor records bytes list why left code.OVER = (left.ahead ≡ ALL_GIVEN) × (left.fed.whole ≡ true)
    × HasTakenAll left.fed None
StopsFor records bytes list why left code.FAULT = (f : Fault) × (left.ahead ≡ READ_FAULT f)

-- The next tokens of a scanner that is at s were put, whole ones.
pub record GivesTokens
    (s : PiecesScan) (old new : token_rooms_t) (parser : yaml_fed_parser_t) (read : ahead_t) (result : yaml_fed_t)
    : Type 0 where
  pub left : PiecesScan
  pub keeps : IsKeptPieces left parser read
  pub list : List Token
  pub put : ArePut old list new
  pub few : length list ≤ length old.tokens.now
  pub fit : length (all_texts list) ≤ length old.texts.now
  pub why : fed.Why
  pub gives : GivesOf s.fed list why left.fed
  pub stops : StopsFor (length old.tokens.now) (length old.texts.now) list why left result

-- What is told if no fault is given.
abbrev pub TellsEnd : Fed → Ahead → token_rooms_t → bogzhami_answer → ℕ → yaml_fed_t → Type 0
TellsEnd p a rooms answer n code.ROOM = (next : Next) × Shown p next × TellsCounts rooms next answer n
TellsEnd p a rooms answer n code.MORE = (answer ≡ answer_with rooms.token_count rooms.text_len None) × (n ≡ status.more)
TellsEnd p a rooms answer n code.WHOLE = (answer ≡ answer_with rooms.token_count rooms.text_len None)
    × (n ≡ status.whole)
TellsEnd p a rooms answer n code.OVER = ((rooms.token_count ≡ 0) × (answer ≡ no_answer) × (n ≡ status.over))
    ⊎ ((0 < rooms.token_count) × (answer ≡ answer_with rooms.token_count rooms.text_len None) × (n ≡ status.done))
TellsEnd p a rooms answer n code.FAULT = (f : Fault) × (a ≡ READ_FAULT f)
    × (length rooms.texts.now < rooms.text_len + length (fault_texts (Some f))) × TellsCounts rooms (FAULT f) answer n

-- A call ends so: with the fault, if it comes next and finds room, or without it.
abbrev pub EndsPiece
    : Fed → Ahead → yaml_fed_t → token_rooms_t → ahead_t → token_rooms_t → ahead_t → bogzhami_answer → ℕ → Type 0
EndsPiece p a result old before new left answer n = ((result ≡ code.FAULT) × GivesFault old a new left answer n)
    ⊎ ((new ≡ old) × (left ≡ before) × TellsEnd p a old answer n result)
