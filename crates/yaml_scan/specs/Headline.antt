-- The headline: what the calls of a parser return, and what they leave, for every input, encoding setting and key
-- limit. It holds for every decoder, which says what is read of bytes. The contracts of the code's calls are these
-- definitions for `decoded_input` (Decoded.antt).
--
-- First one call: `Calls decode call p a q` says that `a` is the answer to the call on the parser p, and that q is the
-- parser after it. The answer is `answer_by decode p call`, that of the session (Session.antt) on the steps of the
-- input (Course.antt), unless memory was refused. Then a list of calls: `Runs decode p calls answers q` says that of
-- each call in turn, so it is the same for calls that are made one by one. Last `PutsAnswers`, the contract of
-- `yaml_run`: such answers are appended.
use Rattle.std.specs.Prelude.{◌≡◌, ◌≢◌, ◌⊎◌, ◌≤◌, false, true, List, [], ◌∷◌, ◌++◌, ℕ, map, Some}
use Rattle.yaml_text.specs.Fault.{memory_fault}
use Rattle.yaml_text.specs.declared.types.yaml_encoding_t.TheVariants.{YAML_UTF8_ENCODING}
use Rattle.yaml_scan.specs.declared.calls.yaml_answer_t.{yaml_answer_t}
use Rattle.yaml_scan.specs.Settled.{settled, pace}
use Rattle.yaml_scan.specs.Session.{Call, Answer}
use Rattle.yaml_scan.specs.Session.Call.{SKIP}
use Rattle.yaml_scan.specs.Session.Answer.{FAULT}
use Rattle.yaml_scan.specs.Parser.{Parser, Decoder, course_by, answer_by, after_by}
use Rattle.yaml_scan.specs.Seen.{Seen, seen, seen_of}

-- ONE CALL
-- memory was refused in a call: the session is over, the tokens taken stay taken, no more steps were made than the next
-- token needs, and it needs one more
pub record WantsMemory (decode : Decoder) (p q : Parser) : Type 0 where
  -- how many steps were made
  pub steps : ℕ
  pub is : q ≡ record p {
    session = record p.session { steps = steps; peeked = false; over = true; fault = Some memory_fault };
  }
  pub least : p.session.steps ≤ steps
  pub most : steps ≤ pace p.limit (course_by decode p).read p.session.taken p.session.steps
  pub unsettled : settled p.limit (course_by decode p).read p.session.taken steps ≡ false
  -- memory was needed for decoding UTF-16, or in the first step or after it: not if the reader's fault comes instead of
  -- the first
  pub in_utf8 : (decode p.setting p.input).encoding ≡ YAML_UTF8_ENCODING → (course_by decode p).begun ≡ true
  -- none was needed if the answer was there already
  pub was_open : p.session.over ≡ false
  pub was_not_peeked : p.session.peeked ≡ false

-- The answer to a call is the session's, and it leaves what the session leaves; or memory was refused, but not in a
-- skip.
abbrev pub Calls : Decoder → Call → Parser → Answer → Parser → Type 0
Calls decode call p a q = ((a ≡ answer_by decode p call) × (q ≡ after_by decode p call))
    ⊎ ((a ≡ FAULT memory_fault) × WantsMemory decode p q × (call ≢ SKIP))

-- A LIST OF CALLS
-- one call after the other, each on the parser that the one before it left, with what is seen of each answer; there are
-- as many answers as calls
abbrev pub Runs : Decoder → Parser → List Call → List Seen → Parser → Type 0
Runs decode p [] [] q = q ≡ p
Runs decode p (call ∷ calls) (s ∷ more) q =
    (a : Answer) × (r : Parser) × Calls decode call p a r × (s ≡ seen a) × Runs decode r calls more q
Runs decode p [] (s ∷ more) q = ⊥
Runs decode p (call ∷ calls) [] q = ⊥

-- THE CONTRACT OF `yaml_run`
-- the answers to a list of calls are appended to others
pub record PutsAnswers
    (decode : Decoder) (p : Parser) (calls : List Call) (old new : List yaml_answer_t) (q : Parser) : Type 0 where
  pub more : List yaml_answer_t
  pub is : new ≡ old ++ more
  pub runs : Runs decode p calls (map seen_of more) q
