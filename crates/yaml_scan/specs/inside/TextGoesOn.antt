-- A running scanner of an unfinished text, once more of the text came.
use Rattle.std.specs.Prelude.{◌≡◌, ℕ, ◌<◌, ◌^◌, length, Option, Some}
use Rattle.yaml_text.specs.Decoding.{refusal_seen}
use Rattle.yaml_text.specs.Fault.{Fault}
use Rattle.yaml_text.specs.Text.{Text}
use Rattle.yaml_text.specs.TextBytes.{AreChars}
use Rattle.yaml_text.specs.declared.fault.yaml_fault_t.{yaml_fault_t}
use Rattle.yaml_scan.specs.Begins.{Begins}
use Rattle.yaml_scan.specs.inside.Scanner.{Scanner}
use Rattle.yaml_scan.specs.inside.Scanning.{IsNearOf, IsRunning, history}

-- the same scanner over another text, of which this is the refusal, and near from here on
abbrev pub over_text : Scanner → Text → Option yaml_fault_t → ℕ → Scanner
over_text s text refusal near = record {
  alloc = s.alloc;
  text = text;
  refusal = refusal;
  near = near;
  limit = s.limit;
  slots = s.slots;
  allowed = s.allowed;
  layout = s.layout;
  reach = s.reach;
  gap_end = s.gap_end;
  there = s.there;
  taken = s.taken;
  made = s.made;
}

-- the text goes on from that of an unfinished scanner
pub record TextGoesOn (s : Scanner) (text : Text) (refusal : Option yaml_fault_t) (near : ℕ) : Type 0 where
  pub to_come : Fault
  pub unfinished : refusal_seen s.refusal ≡ Some to_come
  pub encoding : text.encoding ≡ s.text.encoding
  pub begins : Begins s.text.chars text.chars
  pub chars : AreChars text.chars
  pub small : length text.chars < 2 ^ 63
  pub near_from : IsNearOf (refusal_seen refusal) text.chars near

-- it runs in the longer text as in the shorter one
abbrev pub RunningGoesOn : Type 0
RunningGoesOn = (s : Scanner) (text : Text) (refusal : Option yaml_fault_t) (near : ℕ) → IsRunning s
    → TextGoesOn s text refusal near
    → IsRunning (over_text s text refusal near) × (history (over_text s text refusal near) ≡ history s)
