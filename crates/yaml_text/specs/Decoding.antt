-- What decoding returns, and what laws say of it: the text that an input spells, or its fault.
use Rattle.std.specs.Prelude.{ℕ, ◌≡◌, ◌+◌, ◌<◌, ◌≤◌, ◌⊎◌, List, ◌++◌, length, Option, Some, None, Result, Ok, Err}
use Rattle.std.specs.Prelude.{option_map}
use Rattle.yaml_text.specs.declared.types.yaml_encoding_t.{yaml_encoding_t}
use Rattle.yaml_text.specs.declared.fault.yaml_fault_t.{yaml_fault_t}
use Rattle.yaml_text.specs.TextBytes.{IsChar, AreChars}
use Rattle.yaml_text.specs.Fault.{Fault, fault_of, memory_fault, reader_fault}
use Rattle.yaml_text.specs.Text.{Text}
use Rattle.yaml_text.specs.Decode.{spelling, spellings, encoding_of, bom_len, after_bom, offence, front, refusal}

-- The bytes begin with the spelling of c.
abbrev pub Begins : yaml_encoding_t → ℕ → List ℕ → Type 0
Begins e c bytes = (more : List ℕ) × (bytes ≡ spelling e c ++ more)

-- They begin with the spelling of no character.
abbrev pub BeginsWithNone : yaml_encoding_t → List ℕ → Type 0
BeginsWithNone e bytes = (c : ℕ) → IsChar c → Begins e c bytes → ⊥

-- The front of the bytes: the longest list of characters whose spellings, joined, begin them.
pub record IsFront (e : yaml_encoding_t) (bytes chars rest : List ℕ) : Type 0 where
  pub parts : bytes ≡ spellings e chars ++ rest
  pub each : AreChars chars
  pub longest : BeginsWithNone e rest

-- The text, or the fault if there is one.
abbrev pub unless_refused : Option Fault → Text → Result Text Fault
unless_refused None text = Ok text
unless_refused (Some fault) text = Err fault

-- What an input decodes to.
abbrev pub decoding : yaml_encoding_t → List ℕ → Result Text Fault
decoding setting input = unless_refused (refusal setting input) (front setting input)

-- The text is the front of the input: the longest list of characters whose spellings, joined, begin what follows its
-- byte order mark.
pub record IsLongestFront (setting : yaml_encoding_t) (input : List ℕ) (text : Text) : Type 0 where
  pub encoding : text.encoding ≡ encoding_of setting input
  pub each : AreChars text.chars
  pub rest : List ℕ
  pub begins : after_bom setting input ≡ spellings text.encoding text.chars ++ rest
  pub longest : (cs more : List ℕ) → AreChars cs
      → after_bom setting input ≡ spellings text.encoding cs ++ more
      → length cs ≤ length text.chars

-- The input spells the text.
pub record Spells (setting : yaml_encoding_t) (input : List ℕ) (text : Text) : Type 0 where
  pub encoding : text.encoding ≡ encoding_of setting input
  pub each : AreChars text.chars
  pub bytes : after_bom setting input ≡ spellings text.encoding text.chars

-- The input spells no text: the fault is what is wrong after its front.
pub record IsRefused (setting : yaml_encoding_t) (input : List ℕ) (fault : Fault) : Type 0 where
  pub chars : List ℕ
  pub rest : List ℕ
  pub front : IsFront (encoding_of setting input) (after_bom setting input) chars rest
  pub left : 0 < length rest
  pub fault_is : fault ≡ reader_fault
      (bom_len setting input + length (spellings (encoding_of setting input) chars))
      (offence (encoding_of setting input) rest)

-- A fault of the code, if there is one, as the definitions see it.
abbrev pub refusal_seen : Option yaml_fault_t → Option Fault
refusal_seen fault = option_map fault_of fault

-- A call returned what it should, or memory was refused.
abbrev pub Decodes : Result Text yaml_fault_t → Result Text Fault → Type 0
Decodes (Ok text) right = right ≡ Ok text
Decodes (Err fault) right = (fault_of fault ≡ memory_fault) ⊎ (right ≡ Err (fault_of fault))

-- What a call returned, with the fault's texts instead of references to them.
abbrev pub outcome : Result Text yaml_fault_t → Result Text Fault
outcome (Ok text) = Ok text
outcome (Err fault) = Err (fault_of fault)
