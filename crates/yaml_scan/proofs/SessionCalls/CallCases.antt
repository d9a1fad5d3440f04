-- The cases of a call, each by itself: what it answers and leaves, by the next token.
use Rattle.std.specs.Prelude.{ℕ, ◌+◌, true, false, Option, Some, None}
use Rattle.yaml_text.specs.declared.types.yaml_encoding_t.{yaml_encoding_t}
use Rattle.yaml_scan.specs.Groups.{Token, handed_out}
use Rattle.yaml_scan.specs.Course.{Course}
use Rattle.yaml_scan.specs.Settled.{pace}
use Rattle.yaml_scan.specs.Session.{Session, Answer, all_steps, is_last, why}
use Rattle.yaml_scan.specs.Session.Answer.{TOKEN, PEEKED}

-- the next token was requested
abbrev pub paced : ℕ → Course → Session → Session
paced limit c s = record s { steps = pace limit c.read s.taken s.steps }

-- the next token is shown
abbrev pub looked : Session → Session
looked s = record s { peeked = true }

-- the next token is taken; with the stream end the session is over
abbrev pub took : Token → Session → Session
took x s = record s { taken = s.taken + 1; peeked = false; over = is_last x }

-- there is no next token, so the session is over
abbrev pub finished : Course → Session → Session
finished c s = record s { steps = all_steps c; peeked = false; over = true; fault = c.fault }

abbrev pub after_scan : ℕ → Course → Session → Option Token → Session
after_scan limit c s None = finished c s
after_scan limit c s (Some x) = took x (paced limit c s)

abbrev pub after_peek : ℕ → Course → Session → Option Token → Session
after_peek limit c s None = finished c s
after_peek limit c s (Some x) = looked (paced limit c s)

abbrev pub after_skip : Session → Option Token → Session
after_skip s None = s
after_skip s (Some x) = took x s

abbrev pub scan_answer : yaml_encoding_t → Course → Option Token → Answer
scan_answer e c None = why c.fault
scan_answer e c (Some x) = TOKEN (handed_out e x)

abbrev pub peek_answer : yaml_encoding_t → Course → Option Token → Answer
peek_answer e c None = why c.fault
peek_answer e c (Some x) = PEEKED (handed_out e x)
