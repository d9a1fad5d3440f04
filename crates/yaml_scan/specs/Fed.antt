-- A scanner that is given its input in pieces, as its calls see it. What they give is said of every input that the
-- bytes so far may begin, so no cut occurs in it.
use Rattle.std.specs.Prelude.{◌≡◌, ◌≢◌, ◌⊎◌, ℕ, ◌+◌, ◌≤◌, Bool, true, false, List, [], ◌∷◌, ◌++◌, take, drop, length}
use Rattle.std.specs.Prelude.{Option, None, Some}
use Rattle.yaml_text.specs.Decode.{encoding_of}
use Rattle.yaml_text.specs.Fault.{Fault, memory_fault}
use Rattle.yaml_text.specs.declared.types.yaml_encoding_t.{yaml_encoding_t}
use Rattle.yaml_text.specs.declared.types.yaml_encoding_t.TheVariants.{YAML_UTF8_ENCODING}
use Rattle.yaml_text.specs.declared.types.yaml_error_type_t.TheVariants.{YAML_READER_ERROR}
use Rattle.yaml_scan.specs.All.{AllOf}
use Rattle.yaml_scan.specs.Answers.{answers}
use Rattle.yaml_scan.specs.Begins.{Begins}
use Rattle.yaml_scan.specs.Inputs.{answers_to}
use Rattle.yaml_scan.specs.Pieces.{is_broken, is_known, unfinished}
use Rattle.yaml_scan.specs.Session.{Session}
use Rattle.yaml_scan.specs.Sessions.{new_session}
use Rattle.yaml_scan.specs.Token.{yaml_token_t}

-- a scanner that is given its input in pieces
pub record Fed : Type 0 where
  pub setting : yaml_encoding_t
  pub limit : ℕ
  -- all bytes that came so far
  pub given : List ℕ
  -- no more will come
  pub whole : Bool
  pub session : Session

-- this may be the whole input
abbrev pub MayBe : Bool → List ℕ → List ℕ → Type 0
MayBe true given input = input ≡ given
MayBe false given input = Begins given input

-- why a call gave no more tokens
pub data Why : Type 0 where
  NO_ROOM : Why
  MORE : Why
  -- the input is in UTF-16: its tokens come once all of it came
  WHOLE : Why
  OVER : Why
  FAULT : Fault → Why

-- the tokens taken are all tokens of the input, whatever else comes, and this is its fault
abbrev pub HasTakenAll : Fed → Option Fault → Type 0
HasTakenAll q f = (input : List ℕ) → MayBe q.whole q.given input
    → AllOf (answers_to q.limit q.setting input) (take q.session.taken (answers_to q.limit q.setting input).tokens) f

-- Nothing that the bytes so far settle is held back: no token, no fault of the scanner, and no bytes that can't be
-- mended.
pub record HoldsNothingBack (p q : Fed) : Type 0 where
  pub tokens : length (answers p.limit (unfinished p.setting p.given)).tokens ≤ q.session.taken
  pub fault : (f : Fault) → (answers p.limit (unfinished p.setting p.given)).fault ≡ Some f
      → f.error ≡ YAML_READER_ERROR
  pub bytes : is_known p.setting p.given ≡ true → is_broken p.setting p.given ≡ false

-- the stream end was taken: in this call, or before it, and no fault ended the session
abbrev pub HasEndedWell : Fed → Fed → Type 0
HasEndedWell p q = (p.session.over ≡ false) ⊎ (q.session.fault ≡ None)

-- what holds once a call gave no more tokens, by why it did
abbrev pub EndsBy : Fed → Fed → Why → Type 0
EndsBy p q NO_ROOM = q.session.over ≡ false
EndsBy p q MORE = (q.session.over ≡ false) × (p.whole ≡ false) × HoldsNothingBack p q
EndsBy p q WHOLE = (q.session.over ≡ false) × (p.whole ≡ false) × (is_known p.setting p.given ≡ true)
    × (encoding_of p.setting p.given ≢ YAML_UTF8_ENCODING)
EndsBy p q OVER = (q.session.over ≡ true) × (HasEndedWell p q → (p.whole ≡ true) × HasTakenAll q None)
EndsBy p q (FAULT f) = (p.session.over ≡ false) × (q.session.over ≡ true) × (q.session.fault ≡ Some f)
    × ((f ≡ memory_fault) ⊎ HasTakenAll q (Some f))

-- a call gives the next tokens, and q is left
pub record GivesOf (p : Fed) (tokens : List yaml_token_t) (why : Why) (q : Fed) : Type 0 where
  pub same : q ≡ record p { session = q.session }
  pub taken : q.session.taken ≡ p.session.taken + length tokens
  pub next : (input : List ℕ) → MayBe p.whole p.given input
      → tokens ≡ take (length tokens) (drop p.session.taken (answers_to p.limit p.setting input).tokens)
  pub ends : EndsBy p q why
  -- after the end of its session it is given nothing, and stays as it is
  pub at_end : p.session.over ≡ true → (tokens ≡ []) × (why ≡ OVER) × (q ≡ p)

-- bytes come, which may be the last, or a call gives tokens
pub data Turn : Type 0 where
  COMES : List ℕ → Bool → Turn
  GIVES : List yaml_token_t → Why → Turn

-- the scanner once these bytes came
abbrev pub comes : Fed → List ℕ → Bool → Fed
comes p bytes last = record p { given = p.given ++ bytes; whole = last }

-- one turn after the other
abbrev pub Turns : Fed → List Turn → Fed → Type 0
Turns p [] q = q ≡ p
Turns p (COMES bytes last ∷ turns) q = (p.whole ≡ false) × Turns (comes p bytes last) turns q
Turns p (GIVES tokens why ∷ turns) q = (r : Fed) × GivesOf p tokens why r × Turns r turns q

-- all bytes that came, joined
abbrev pub bytes_in : List Turn → List ℕ
bytes_in [] = []
bytes_in (COMES bytes last ∷ turns) = bytes ++ bytes_in turns
bytes_in (GIVES tokens why ∷ turns) = bytes_in turns

-- all tokens that calls gave, joined
abbrev pub tokens_in : List Turn → List yaml_token_t
tokens_in [] = []
tokens_in (COMES bytes last ∷ turns) = tokens_in turns
tokens_in (GIVES tokens why ∷ turns) = tokens ++ tokens_in turns

-- a scanner to which nothing was given
abbrev pub new_fed : yaml_encoding_t → ℕ → Fed
new_fed setting limit = record { setting = setting; limit = limit; given = []; whole = false; session = new_session }

-- whatever the cuts and the calls, the tokens given are the first of every input that all bytes may begin
abbrev pub CutsDoNotMatter : Type 0
CutsDoNotMatter = (setting : yaml_encoding_t) (limit : ℕ) (turns : List Turn) (q : Fed)
    → Turns (new_fed setting limit) turns q
    → (q.given ≡ bytes_in turns) × (q.setting ≡ setting) × (q.limit ≡ limit)
    × ((input : List ℕ) → MayBe q.whole q.given input
    → tokens_in turns ≡ take q.session.taken (answers_to limit setting input).tokens)
