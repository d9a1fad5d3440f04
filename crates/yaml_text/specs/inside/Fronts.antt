-- The front of bytes in one encoding, as the code finds it.
use Rattle.std.specs.Prelude.{ℕ, ◌≡◌, ◌+◌, Bool, false, true, List, length, drop, Option}
use Rattle.yaml_text.specs.declared.types.yaml_encoding_t.{yaml_encoding_t}
use Rattle.yaml_text.specs.declared.types.yaml_encoding_t.TheVariants.{YAML_UTF16LE_ENCODING, YAML_UTF16BE_ENCODING}
use Rattle.yaml_text.specs.Decode.{spellings, refusal_of}
use Rattle.yaml_text.specs.Decoding.{IsFront}
use Rattle.yaml_text.specs.Fault.{Fault}
use Rattle.yaml_text.specs.Kept.{IsKeptOf, KeptText}
use Rattle.yaml_text.specs.Text.{Text}

-- UTF-16 with the high byte of a unit first or last.
abbrev pub order : Bool → yaml_encoding_t
order false = YAML_UTF16LE_ENCODING
order true = YAML_UTF16BE_ENCODING

-- A text and a fault: the front of these bytes, and what is wrong with the rest, if so many bytes of the input were
-- dropped before them.
pub record Fronts
    (e : yaml_encoding_t) (before : ℕ) (bytes : List ℕ) (text : Text) (fault : Option Fault) : Type 0 where
  pub rest : List ℕ
  pub encoding : text.encoding ≡ e
  pub front : IsFront e bytes text.chars rest
  pub refusal : fault ≡ refusal_of e (before + length (spellings e text.chars)) rest

-- What is kept of a text, and a fault: the text is the front of what begins so many bytes into the input.
pub record KeepsFront
    (e : yaml_encoding_t) (before : ℕ) (input : List ℕ) (kept : KeptText) (fault : Option Fault) : Type 0 where
  pub text : Text
  pub keeps : IsKeptOf text input kept
  pub front : Fronts e before (drop before input) text fault
