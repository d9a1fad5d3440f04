-- A running scanner: its state, and the text that it scans.
use Rattle.std.specs.Prelude.{ℕ, Bool, Option}
use Rattle.std.specs.declared.alloc.Global.{Global}
use Rattle.yaml_text.specs.Text.{Text}
use Rattle.yaml_text.specs.declared.fault.yaml_fault_t.{yaml_fault_t}
use Rattle.yaml_text.specs.declared.types.yaml_mark_t.{yaml_mark_t}
use Rattle.yaml_scan.specs.declared.layout.layout_t.{layout_t}
use Rattle.yaml_scan.specs.declared.slots.slots_t.{slots_t}
use Rattle.yaml_scan.specs.declared.state.state_t.{state_t}

pub record Scanner : Type 0 where
  pub alloc : Global
  pub text : Text
  -- the reader's fault after the text, or the fault that stopped it
  pub refusal : Option yaml_fault_t
  pub near : ℕ
  pub limit : ℕ
  pub slots : slots_t
  pub allowed : Bool
  pub layout : layout_t
  pub reach : yaml_mark_t
  pub gap_end : yaml_mark_t
  pub there : yaml_mark_t
  pub taken : ℕ
  pub made : ℕ

-- a scanner that scans this text, in this state
abbrev pub scanner_of : Text → state_t → Scanner
scanner_of text s = record {
  alloc = s.alloc;
  text = text;
  refusal = s.fault;
  near = s.near;
  limit = s.limit;
  slots = s.slots;
  allowed = s.allowed;
  layout = s.layout;
  reach = s.reach;
  gap_end = s.gap_end;
  there = s.there;
  taken = s.taken;
  made = s.made;
}
