-- What a call returns besides the two rooms, and all that it leaves.
use Rattle.std.specs.Prelude.{◌≡◌, ℕ, ◌≤◌, ◌<◌, ◌⊎◌, ◌++◌, pos, List, [], length, Option, Some, None}
use Rattle.yaml_text.specs.declared.types.yaml_encoding_t.{yaml_encoding_t}
use Rattle.yaml_text.specs.Fault.{Fault, zero_mark}
use Rattle.yaml_text.specs.Token.{Token}
use Rattle.yaml_text.specs.Types.{error_type_number, encoding_number}
use Rattle.yaml_scan.specs.All.{ReadsAll}
use Rattle.yaml_c.specs.Record.{held, mark_of, records_of, all_texts}
use Rattle.yaml_c.specs.Room.{covered}
use Rattle.yaml_c.specs.Spelled.{spelled_in}
use Rattle.yaml_c.specs.declared.answer.bogzhami_answer.{bogzhami_answer}
use Rattle.yaml_c.specs.declared.record.bogzhami_token.{bogzhami_token}

-- a text, or the empty one if there is none
abbrev pub text_or_none : Option (List ℕ) → List ℕ
text_or_none None = []
text_or_none (Some text) = text

-- the texts of a fault: its problem, and then its context
abbrev pub fault_texts : Option Fault → List ℕ
fault_texts None = []
fault_texts (Some f) = text_or_none f.problem ++ text_or_none f.context

-- the greatest key limit, in bytes
abbrev pub most_key_limit : ℕ
most_key_limit = 65536

-- 1 if there is a fault, otherwise 0
abbrev pub status_of : Option Fault → ℕ
status_of None = 0
status_of (Some f) = 1

-- two counts, and a fault with the lengths of its texts instead of the texts
abbrev pub answer_with : ℕ → ℕ → Option Fault → bogzhami_answer
answer_with token_count text_len None = record {
  token_count = token_count;
  text_len = text_len;
  error = 0;
  problem_value = pos 0;
  problem_offset = 0;
  problem_mark = mark_of zero_mark;
  context_mark = mark_of zero_mark;
  problem_len = 0;
  context_len = 0;
}
answer_with token_count text_len (Some f) = record {
  token_count = token_count;
  text_len = text_len;
  error = error_type_number f.error;
  problem_value = f.value;
  problem_offset = f.offset;
  problem_mark = mark_of f.problem_mark;
  context_mark = mark_of f.context_mark;
  problem_len = length (text_or_none f.problem);
  context_len = length (text_or_none f.context);
}

-- the answer for tokens and the fault after them: how many tokens, how many bytes of texts, and the fault
abbrev pub answer_of : List Token → Option Fault → bogzhami_answer
answer_of tokens fault = answer_with (held (length tokens)) (held (length (all_texts tokens))) fault

-- the answer if nothing was scanned: zeros
abbrev pub no_answer : bogzhami_answer
no_answer = answer_with 0 0 None

-- a setting that names no encoding, or a key limit that is not from 1 to the greatest
abbrev pub IsWrong : ℕ → ℕ → Type 0
IsWrong setting limit = (3 < setting) ⊎ (limit < 1) ⊎ (most_key_limit < limit)

-- what a call leaves and what was there before: the caller's two rooms
pub record Rooms : Type 0 where
  pub tokens : List bogzhami_token
  pub texts : List ℕ

-- both, by what they hold
abbrev pub rooms : List bogzhami_token → List ℕ → Rooms
rooms tokens texts = record { tokens = tokens; texts = texts }

-- What a call that scanned an input leaves: there are tokens and a fault which are those of the whole list, and status,
-- answer and both rooms are as they say.
pub record IsScanned
    (setting : yaml_encoding_t)
    (limit : ℕ)
    (input : List ℕ)
    (before after : Rooms)
    (answer : bogzhami_answer)
    (status : ℕ) : Type 0 where
  pub list : List Token
  pub fault : Option Fault
  pub reads : ReadsAll limit setting input list fault
  pub status_is : status ≡ status_of fault
  pub answer_is : answer ≡ answer_of list fault
  -- the records cover the beginning of the one room
  pub records_are : after.tokens ≡ covered (records_of (spelled_in setting input) 0 list) before.tokens
  -- the texts of the tokens and then those of the fault cover the beginning of the other
  pub texts_are : after.texts ≡ covered (all_texts list ++ fault_texts fault) before.texts

-- Nothing is touched but the answer, and the status is 2.
pub record IsUntouched (before after : Rooms) (answer : bogzhami_answer) (status : ℕ) : Type 0 where
  pub status_is : status ≡ 2
  pub answer_is : answer ≡ no_answer
  pub rooms_are : after ≡ before

-- What a call with a right setting and limit leaves.
abbrev pub ScansRight : ℕ → ℕ → List ℕ → Rooms → Rooms → bogzhami_answer → ℕ → Type 0
ScansRight setting limit input before after answer status =
    (e : yaml_encoding_t) → encoding_number e ≡ setting → 1 ≤ limit → limit ≤ most_key_limit
    → IsScanned e limit input before after answer status

-- What a call with a wrong setting or limit leaves.
abbrev pub RefusesWrong : ℕ → ℕ → Rooms → Rooms → bogzhami_answer → ℕ → Type 0
RefusesWrong setting limit before after answer status = IsWrong setting limit → IsUntouched before after answer status
