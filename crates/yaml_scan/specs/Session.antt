-- A session: scan, peek and skip, one after the other, on the course of an input.
use Rattle.std.specs.Prelude.{ℕ, ◌+◌, Bool, true, false, length, slice_get, Option, Some}
use Rattle.std.specs.Prelude.{None, if◌then◌else◌}
use Rattle.yaml_text.specs.Fault.{Fault}
use Rattle.yaml_text.specs.declared.types.yaml_encoding_t.{yaml_encoding_t}
use Rattle.yaml_scan.specs.Course.{Course}
use Rattle.yaml_scan.specs.Kind.{is_stream_end}
use Rattle.yaml_scan.specs.Token.{yaml_token_t, empty}
use Rattle.yaml_scan.specs.Groups.{Token, handed_out}
use Rattle.yaml_scan.specs.Settled.{pace, tokens_of}
use Rattle.yaml_scan.specs.Groups.Token.{OfLexeme}

-- the calls
pub data Call : Type 0 where
  SCAN : Call
  PEEK : Call
  SKIP : Call

-- what a call returns: a token that is taken or shown, whether one was skipped, or a fault
pub data Answer : Type 0 where
  TOKEN : yaml_token_t → Answer
  PEEKED : yaml_token_t → Answer
  SKIPPED : Answer
  NOTHING : Answer
  FAULT : Fault → Answer

-- what the calls so far have come to
pub record Session : Type 0 where
  -- how many tokens were taken
  pub taken : ℕ
  -- how many steps were made
  pub steps : ℕ
  -- the next token was peeked
  pub peeked : Bool
  pub over : Bool
  pub fault : Option Fault

-- how many steps there are
abbrev pub all_steps : Course → ℕ
all_steps c = if c.begun then length c.read + 1 else 0

-- the token that the next scan takes
abbrev pub next_token : ℕ → Course → Session → Option Token
next_token limit c s = slice_get (tokens_of limit c) s.taken

-- the token of the stream end
abbrev pub is_last : Token → Bool
is_last (OfLexeme x) = is_stream_end x.kind
is_last _ = false

-- CALLS
-- the fault that is the answer if there is no next token; there always is one then (`NoneIsStuck`, SessionLaws.antt)
abbrev pub why : Option Fault → Answer
why None = TOKEN empty
why (Some f) = FAULT f

-- the answer to a call: if the session is over, if there is a next token, and if there is none
abbrev pub answer : yaml_encoding_t → ℕ → Course → Call → Session → Answer
answer e limit c SCAN s = if s.over then TOKEN empty else elim (next_token limit c s) [
  | Some x ↦ TOKEN (handed_out e x)
  | None ↦ why c.fault
]
answer e limit c PEEK s = if s.over then PEEKED empty else elim (next_token limit c s) [
  | Some x ↦ PEEKED (handed_out e x)
  | None ↦ why c.fault
]
answer e limit c SKIP s = if s.peeked then SKIPPED else NOTHING

-- what a call leaves, in the same cases: a token that was requested is paced, one that is taken is counted, and the
-- session is over with the stream end or the fault
abbrev pub after : ℕ → Course → Call → Session → Session
after limit c SCAN s = if s.over then s else elim (next_token limit c s) [
  | Some x ↦ record s {
    taken = s.taken + 1;
    steps = pace limit c.read s.taken s.steps;
    peeked = false;
    over = is_last x;
  }
  | None ↦ record s { steps = all_steps c; peeked = false; over = true; fault = c.fault }
]
after limit c PEEK s = if s.over then s else elim (next_token limit c s) [
  | Some x ↦ record s { steps = pace limit c.read s.taken s.steps; peeked = true }
  | None ↦ record s { steps = all_steps c; peeked = false; over = true; fault = c.fault }
]
after limit c SKIP s = if s.peeked then elim (next_token limit c s) [
  | Some x ↦ record s { taken = s.taken + 1; peeked = false; over = is_last x }
  | None ↦ s
] else s
