-- Sessions from their start: the answers to a list of calls, and what can be seen of a session.
use Rattle.std.specs.Prelude.{ℕ, ◌+◌, false, List, [], ◌∷◌, length, nat_eq, nat_lt, None, if◌then◌else◌}
use Rattle.yaml_text.specs.declared.types.yaml_mark_t.{yaml_mark_t}
use Rattle.yaml_text.specs.declared.types.yaml_encoding_t.{yaml_encoding_t}
use Rattle.yaml_scan.specs.Course.{Course}
use Rattle.yaml_scan.specs.Laid.{Laid, reach}
use Rattle.yaml_scan.specs.Groups.{Token, groups}
use Rattle.yaml_scan.specs.Settled.{before, first_steps}
use Rattle.yaml_scan.specs.Session.{Session, Call, Answer, after, answer}

-- a session before any call
abbrev pub new_session : Session
new_session = record { taken = 0; steps = 0; peeked = false; over = false; fault = None }

-- the answers to a list of calls
unfoldable pub session : yaml_encoding_t → ℕ → Course → List Call → Session → List Answer
session e limit c [] s = []
session e limit c (call ∷ calls) s = answer e limit c call s ∷ session e limit c calls (after limit c call s)

-- what a list of calls leaves
unfoldable pub after_all : ℕ → Course → List Call → Session → Session
after_all limit c [] s = s
after_all limit c (call ∷ calls) s = after_all limit c calls (after limit c call s)

-- the tokens that are settled after n steps
abbrev pub settled_tokens : ℕ → Course → ℕ → List Token
settled_tokens limit c n = if nat_lt 0 n then before limit (first_steps n c.read) else []

-- how far the last step was read, and zero before any
abbrev pub session_reach : Course → Session → yaml_mark_t
session_reach c s = reach (first_steps s.steps c.read)

-- how many of the earliest steps, STREAM-START and some lexemes of H, have a token of their group at place t of the
-- offline list or after it
unfoldable pub queued : List Laid → ℕ → List Laid → ℕ
queued H t [] = if nat_lt t (length (groups H [])) then 1 else 0
queued H t (i ∷ older) = (if nat_lt t (length (groups H (i ∷ older))) then 1 else 0) + queued H t older

-- how many of its steps have a token that was not taken
abbrev pub session_queued : Course → Session → ℕ
session_queued c s = if nat_eq s.steps 0 then 0
    else queued (first_steps s.steps c.read) s.taken (first_steps s.steps c.read)
