-- The calls of a scan, by what they make of its session.
use Rattle.std.specs.Prelude.{◌≡◌, ◌⊎◌, ℕ, ◌+◌, ◌<◌, Bool, true, false, List, [], ◌∷◌, map, take, drop, length}
use Rattle.std.specs.Prelude.{MatchResult, Result, Ok, Err, None, Some}
use Rattle.yaml_text.specs.Fault.{Fault, fault_of}
use Rattle.yaml_text.specs.Text.{Text}
use Rattle.yaml_text.specs.declared.fault.yaml_fault_t.{yaml_fault_t}
use Rattle.yaml_scan.specs.declared.stop.stop_t.{stop_t}
use Rattle.yaml_scan.specs.declared.session.session_t.{session_t}
use Rattle.yaml_scan.specs.declared.state.state_t.{state_t}
use Rattle.yaml_scan.specs.Decoded.{decoded_input}
use Rattle.yaml_scan.specs.Groups.{Token, handed_out}
use Rattle.yaml_scan.specs.Headline.{Calls}
use Rattle.yaml_scan.specs.KeptCalls.{ComesFirst, HasNoMoreRoom, token_peeked}
use Rattle.yaml_scan.specs.Parser.{Parser}
use Rattle.yaml_scan.specs.ParserCalls.{after_call, token_shown}
use Rattle.yaml_scan.specs.Scanned.{GoesOnBy}
use Rattle.yaml_scan.specs.Session.Call.{PEEK, SCAN, SKIP}
use Rattle.yaml_scan.specs.Session.Answer.{FAULT, PEEKED, TOKEN}
use Rattle.yaml_scan.specs.Settled.{tokens_of}
use Rattle.yaml_scan.specs.Token.{yaml_token_t}
use Rattle.yaml_scan.specs.inside.Ready.{IsEnded, IsSettled, IsShort, IsShown, IsStarted, IsStopped, Scan, Sound}
use Rattle.yaml_scan.specs.inside.Ready.{course_in, fault_in, parser_of, scanner_in, with_session}
use Rattle.yaml_scan.specs.inside.Scanner.{scanner_of}
use Rattle.yaml_scan.specs.inside.Sent.{HasSent}
use Rattle.yaml_scan.specs.inside.Stop.{fault_at}

-- a session whose scanner alone has gone on
abbrev pub on_to : session_t → state_t → session_t
on_to s state = record { state = state; lead = s.lead; peeked = s.peeked; over = s.over; failed = s.failed }

-- the parser of a scan as it shows its next token in this state
abbrev pub shown_in : Scan → state_t → Parser
shown_in i state = record {
  input = i.input;
  setting = i.setting;
  limit = state.limit;
  session = record {
    taken = state.taken;
    steps = state.made;
    peeked = true;
    over = false;
    fault = fault_in i.session.failed state.fault;
  };
}

-- The scan i is not over, and this is its session once its first step was made, now or before.
pub record HasBegun (i : Scan) (text : Text) (s : session_t) : Type 0 where
  pub sound : Sound i
  pub still_open : i.session.over ≡ false
  pub started : IsStarted i.setting i.input (scanner_in i) (scanner_of text s.state)
  pub shown : i.session.peeked ≡ true → IsShown i.setting i.input (scanner_of text s.state)
  pub rest : s ≡ on_to i.session s.state

-- The scan i is not over, and this is its session once its next token is at the head of the queue.
pub record HasSettled (i : Scan) (text : Text) (s : session_t) : Type 0 where
  pub sound : Sound i
  pub still_open : i.session.over ≡ false
  pub settled : IsSettled i.setting i.input (scanner_in i) (scanner_of text s.state)
  pub rest : s ≡ on_to i.session s.state

-- The tokens of the input of a scan.
abbrev pub tokens_in : Scan → List Token
tokens_in i = tokens_of i.session.state.limit (course_in i.session.state.limit i.setting i.input)

-- These are the next tokens of the scan i, and j has taken them too. With the stream end all are taken.
pub record HandsOn (i j : Scan) (tokens : List yaml_token_t) : Type 0 where
  pub setting : j.setting ≡ i.setting
  pub input : j.input ≡ i.input
  pub limit : j.session.state.limit ≡ i.session.state.limit
  pub taken : j.session.state.taken ≡ i.session.state.taken + length tokens
  pub next : tokens ≡ map (handed_out (decoded_input i.setting i.input).encoding)
      (take (length tokens) (drop i.session.state.taken (tokens_in i)))
  pub all : j.session.over ≡ true → (j.session.state.taken ≡ length (tokens_in i))
      × ((course_in i.session.state.limit i.setting i.input).fault ≡ None)

-- The scan i has gone on by these tokens, and is j then.
pub record GoesOnTo (i j : Scan) (tokens : List yaml_token_t) : Type 0 where
  pub sound : Sound j
  pub hands : HandsOn i j tokens
  pub begun : 0 < j.session.state.made
  pub on : GoesOnBy (parser_of i) tokens (parser_of j) j.session.over
  pub first : ComesFirst (token_peeked (parser_of i)) tokens (parser_of j)

-- The scan i shows its next token, and is j then.
pub record ShowsTo (i j : Scan) : Type 0 where
  pub stands : GoesOnTo i j []
  pub peeked : j.session.peeked ≡ true
  pub still_open : j.session.over ≡ false
  pub call : Calls decoded_input PEEK (parser_of i) (PEEKED (token_shown (parser_of j))) (parser_of j)

-- The next token of the scan i is x, which is taken, and it is j then. If it was shown, that was a skip.
pub record Takes (i : Scan) (x : yaml_token_t) (j : Scan) : Type 0 where
  pub stands : GoesOnTo i j (x ∷ [])
  pub call : Calls decoded_input SCAN (parser_of i) (TOKEN x) (parser_of j)
  pub skips : i.session.peeked ≡ true → parser_of j ≡ after_call (parser_of i) SKIP

-- The scan i, whose next token was not shown, has stopped in this session with this fault.
pub record StopsNow (i : Scan) (s : session_t) (fault : Fault) : Type 0 where
  pub sound : Sound i
  pub still_open : i.session.over ≡ false
  pub not_peeked : i.session.peeked ≡ false
  pub why : IsShort i.setting i.input (scanner_in i) fault
      ⊎ IsEnded i.setting i.input (scanner_in i) (scanner_in (with_session i s)) fault
  pub stopped : IsStopped i.setting i.input (scanner_in i) (scanner_in (with_session i s))
  pub rest : s ≡ on_to i.session s.state

-- The scan i has gone on by these tokens, and then stopped in this session with this fault.
pub record StopsAfter (i : Scan) (s : session_t) (tokens : List yaml_token_t) (fault : Fault) : Type 0 where
  pub last : session_t
  pub hands : HandsOn i (with_session i last) tokens
  pub stops : StopsNow (with_session i last) s fault
  pub on : GoesOnBy (parser_of i) tokens (parser_of (with_session i last)) false
  pub first : ComesFirst (token_peeked (parser_of i)) tokens (parser_of (with_session i last))

-- A call has ended the session of the scan i with a fault, and it is j then.
pub record EndsNow (i j : Scan) : Type 0 where
  pub fault : yaml_fault_t
  pub kept : (parser_of j).session.fault ≡ Some (fault_of fault)
  pub not_peeked : i.session.peeked ≡ false
  pub call : Calls decoded_input PEEK (parser_of i) (FAULT (fault_of fault)) (parser_of j)

-- Tokens of the scan i went to a sink; or none did, and its next token is at the head of the queue, or there is a
-- fault.
abbrev pub SendsNext : Scan → Text → session_t → (List yaml_token_t → Type 0) → Result Bool stop_t → Type 0
SendsNext i text s took (Ok true) = HasSettled i text s × took []
SendsNext i text s took (Ok false) = (tokens : List yaml_token_t) × took tokens
    × HasSent i.setting i.input (scanner_in i) (scanner_of text s.state) tokens
    × GoesOnTo i (with_session i s) tokens × (s.over ≡ false)
SendsNext i text s took (Err stop) = StopsNow i s (fault_at stop s.state.fault) × took []

-- A sink took the next tokens of the scan i, and more go there or there is a reason why not; or it took some, and there
-- is a fault.
abbrev pub GivesOn
    : Scan → session_t → (List yaml_token_t → Type 0) → (ℕ → ℕ → Type 0) → Result Bool stop_t → Type 0
GivesOn i s took lacks result = MatchResult result
    (λ more. (tokens : List yaml_token_t) × took tokens × GoesOnTo i (with_session i s) tokens
    × (more ≡ true → s.over ≡ false) × (more ≡ false → HasNoMoreRoom lacks (parser_of (with_session i s))))
    (λ stop. (tokens : List yaml_token_t) × took tokens × StopsAfter i s tokens (fault_at stop s.state.fault))

-- The same, to the end.
abbrev pub GivesAllOn
    : Scan → session_t → (List yaml_token_t → Type 0) → (ℕ → ℕ → Type 0) → Result (Unit {0}) stop_t → Type 0
GivesAllOn i s took lacks result = MatchResult result
    (λ _. (tokens : List yaml_token_t) × took tokens × GoesOnTo i (with_session i s) tokens
    × HasNoMoreRoom lacks (parser_of (with_session i s)))
    (λ stop. (tokens : List yaml_token_t) × took tokens × StopsAfter i s tokens (fault_at stop s.state.fault))
