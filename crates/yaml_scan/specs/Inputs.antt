-- The answers to the bytes of an input.
use Rattle.std.specs.Prelude.{◌≡◌, ◌⊎◌, ℕ, ◌≤◌, List, take, None, Some}
use Rattle.yaml_text.specs.Fault.{Fault}
use Rattle.yaml_text.specs.declared.types.yaml_encoding_t.{yaml_encoding_t}
use Rattle.yaml_text.specs.Decode.{front, refusal}
use Rattle.yaml_scan.specs.Course.{course}
use Rattle.yaml_scan.specs.Depth.{depth}
use Rattle.yaml_scan.specs.Begins.{Begins}
use Rattle.yaml_scan.specs.Cut.{KeepsOrder}
pub use Rattle.yaml_scan.specs.Decoded.{decoded_input}
use Rattle.yaml_scan.specs.Answers.{Answers, answers}
use Rattle.yaml_scan.specs.AnswerLaws.{StandInOrder, ends_among, starts_among, AreFollowed}

-- the answers to an input
unfoldable pub answers_to : ℕ → yaml_encoding_t → List ℕ → Answers
answers_to limit setting input = answers limit (decoded_input setting input)

abbrev pub InputsKeepOrder : Type 0
InputsKeepOrder = (setting : yaml_encoding_t) (input : List ℕ) → KeepsOrder (decoded_input setting input).source

-- THE LAWS OF TOKENS, for any bytes
abbrev pub AllStandInOrder : Type 0
AllStandInOrder = (limit : ℕ) (setting : yaml_encoding_t) (input : List ℕ)
    → StandInOrder 0 (answers_to limit setting input).tokens

abbrev pub AllEndFewer : Type 0
AllEndFewer = (limit : ℕ) (setting : yaml_encoding_t) (input : List ℕ) (n : ℕ)
    → ends_among (take n (answers_to limit setting input).tokens)
    ≤ starts_among (take n (answers_to limit setting input).tokens)

abbrev pub AllEndAll : Type 0
AllEndAll = (limit : ℕ) (setting : yaml_encoding_t) (input : List ℕ) → (answers_to limit setting input).fault ≡ None
    → depth (course limit (decoded_input setting input)).read ≡ 0
    → ends_among (answers_to limit setting input).tokens ≡ starts_among (answers_to limit setting input).tokens

abbrev pub AllFollowKeys : Type 0
AllFollowKeys = (limit : ℕ) (setting : yaml_encoding_t) (input : List ℕ)
    → AreFollowed limit (answers_to limit setting input).tokens

-- LATE READER FAULTS
-- the input b of the setting t is accepted, in the same encoding, and agrees with a up to what a was refused for
pub record GoesOn (s : yaml_encoding_t) (a : List ℕ) (t : yaml_encoding_t) (b : List ℕ) (fault : Fault) : Type 0 where
  pub refused : refusal s a ≡ Some fault
  pub accepted : refusal t b ≡ None
  pub encoding : (front t b).encoding ≡ (front s a).encoding
  pub agrees : Begins (front s a).chars (front t b).chars

-- what is handed out of a is handed out of each such b, and a fault that is not the reader's is its fault, after the
-- same tokens
abbrev pub IsLocal : ℕ → yaml_encoding_t → List ℕ → Type 0
IsLocal limit s a = (t : yaml_encoding_t) (b : List ℕ) (fault : Fault) → GoesOn s a t b fault
    → Begins (answers_to limit s a).tokens (answers_to limit t b).tokens
    × ((f : Fault) → (answers_to limit s a).fault ≡ Some f
    → (f ≡ fault) ⊎ (answers_to limit t b ≡ answers_to limit s a))

abbrev pub LateFaults : Type 0
LateFaults = (limit : ℕ) (s : yaml_encoding_t) (a : List ℕ) → IsLocal limit s a
