-- The calls of a scanner over an input: what they make of it.
use Rattle.std.specs.Prelude.{◌≡◌, ℕ, ◌<◌, Bool, true, false, List, [], length, MatchResult, Result}
use Rattle.yaml_text.specs.Decode.{front}
use Rattle.yaml_text.specs.Kept.{IsKeptOf}
use Rattle.yaml_scan.specs.declared.stop.stop_t.{stop_t}
use Rattle.yaml_scan.specs.declared.scanner.scanner_t.{scanner_t}
use Rattle.yaml_scan.specs.KeptCalls.{HasNoMoreRoom}
use Rattle.yaml_scan.specs.Token.{yaml_token_t}
use Rattle.yaml_scan.specs.inside.Kept.{scan_of}
use Rattle.yaml_scan.specs.inside.KeptParts.{GoesOnTo, HasBegun, HasSettled, StopsAfter, StopsNow}
use Rattle.yaml_scan.specs.inside.Ready.{parser_of}
use Rattle.yaml_scan.specs.inside.Stop.{fault_at}

-- It scans in the same setting, and keeps the text of this input.
pub record KeepsText (input : List ℕ) (k l : scanner_t) : Type 0 where
  pub setting : l.setting ≡ k.setting
  pub text : IsKeptOf (front k.setting input) input l.text

-- It scans in the same setting, and has stopped.
pub record HasStopped (input : List ℕ) (k l : scanner_t) (tokens : List yaml_token_t) (stop : stop_t) : Type 0
  where
    pub setting : l.setting ≡ k.setting
    pub stops : StopsAfter (scan_of input k) l.session tokens (fault_at stop l.session.state.fault)

-- the same, at once
abbrev pub StopsAtOnce : List ℕ → scanner_t → scanner_t → stop_t → Type 0
StopsAtOnce input k l stop = (l.setting ≡ k.setting)
    × StopsNow (scan_of input k) l.session (fault_at stop l.session.state.fault)

-- Its first step was made, now or before; or it could not be made.
abbrev pub Starts : List ℕ → scanner_t → scanner_t → Result (Unit {0}) stop_t → Type 0
Starts input k l result = MatchResult result
    (λ _. KeepsText input k l × HasBegun (scan_of input k) (front k.setting input) l.session)
    (λ stop. StopsAtOnce input k l stop)

-- Its next token is at the head of the queue; or there is a fault.
abbrev pub Settles : List ℕ → scanner_t → scanner_t → Result (Unit {0}) stop_t → Type 0
Settles input k l result = MatchResult result
    (λ _. KeepsText input k l × HasSettled (scan_of input k) (front k.setting input) l.session)
    (λ stop. StopsAtOnce input k l stop)

-- Tokens went to a sink; or none did, and its next token is at the head of the queue, or there is a fault.
abbrev pub Sends
    : List ℕ → scanner_t → scanner_t → (List yaml_token_t → Type 0) → Result Bool stop_t → Type 0
Sends input k l took result = MatchResult result
    (λ none. KeepsText input k l
    × (none ≡ true → HasSettled (scan_of input k) (front k.setting input) l.session × took [])
    × (none ≡ false → (tokens : List yaml_token_t) × took tokens × (0 < length tokens)
    × GoesOnTo (scan_of input k) (scan_of input l) tokens × (l.session.over ≡ false)))
    (λ stop. StopsAtOnce input k l stop × took [])

-- A sink took its next tokens, and there is a reason why no more go there; or there is a fault.
abbrev pub Gives
    : List ℕ → scanner_t → scanner_t → (List yaml_token_t → Type 0) → (ℕ → ℕ → Type 0)
    → Result (Unit {0}) stop_t → Type 0
Gives input k l took lacks result = MatchResult result
    (λ _. KeepsText input k l × ((tokens : List yaml_token_t) × took tokens
    × GoesOnTo (scan_of input k) (scan_of input l) tokens × HasNoMoreRoom lacks (parser_of (scan_of input l))))
    (λ stop. (tokens : List yaml_token_t) × took tokens × HasStopped input k l tokens stop)
