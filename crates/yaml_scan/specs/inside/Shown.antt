-- Calls, as functions of the parser return them.
use Rattle.yaml_text.specs.Fault.{Fault}
use Rattle.std.specs.Prelude.{◌≡◌, Bool, true, false, Some}
use Rattle.yaml_scan.specs.Decoded.{decoded_input}
use Rattle.yaml_scan.specs.Session.{Call, Answer}
use Rattle.yaml_scan.specs.Session.Call.{PEEK}
use Rattle.yaml_scan.specs.Session.Answer.{PEEKED, FAULT}
use Rattle.yaml_scan.specs.Parser.{Parser}
use Rattle.yaml_scan.specs.ParserCalls.{token_shown}
use Rattle.yaml_scan.specs.Headline.{Calls}
use Rattle.yaml_scan.specs.Seen.{Seen, seen}

-- a peek, by what the parser has after it: a token that is shown, or the fault that ended the session
abbrev pub Shows : Parser → Bool → Parser → Type 0
Shows p true q = Calls decoded_input PEEK p (PEEKED (token_shown q)) q
Shows p false q = (f : Fault) × (q.session.fault ≡ Some f) × Calls decoded_input PEEK p (FAULT f) q

-- what is seen of the answer to a call
abbrev pub IsSeen : Call → Parser → Seen → Parser → Type 0
IsSeen call p s q = (a : Answer) × (s ≡ seen a) × Calls decoded_input call p a q
