-- Faults, with their texts instead of references to them.
use Rattle.std.specs.Prelude.{ℕ, ◌+◌, ℤ, pos, List, Option, Some, None}
use Rattle.std.specs.Option.{option_copied}
use Rattle.yaml_text.specs.declared.types.yaml_error_type_t.{yaml_error_type_t}
use Rattle.yaml_text.specs.declared.types.yaml_error_type_t.TheVariants.{YAML_READER_ERROR, YAML_MEMORY_ERROR}
use Rattle.yaml_text.specs.declared.types.yaml_error_type_t.TheVariants.{YAML_SCANNER_ERROR}
use Rattle.yaml_text.specs.declared.types.yaml_mark_t.{yaml_mark_t}
use Rattle.yaml_text.specs.declared.fault.yaml_fault_t.{yaml_fault_t}
use Rattle.yaml_text.specs.declared.offence.offence_t.{offence_t}
use Rattle.yaml_text.specs.Offence.{problem_text}

pub record Fault : Type 0 where
  pub error : yaml_error_type_t
  pub problem : Option (List ℕ)
  pub offset : ℕ
  pub value : ℤ
  pub problem_mark : yaml_mark_t
  pub context : Option (List ℕ)
  pub context_mark : yaml_mark_t

-- A fault of the code, as the definitions see it.
abbrev pub fault_of : yaml_fault_t → Fault
fault_of e = record {
  error = e.error;
  problem = option_copied e.problem;
  offset = e.problem_offset;
  value = e.problem_value;
  problem_mark = e.problem_mark;
  context = option_copied e.context;
  context_mark = e.context_mark;
}

abbrev pub zero_mark : yaml_mark_t
zero_mark = record { index = 0; line = 0; column = 0 }

-- A fault of a kind, with nothing else said.
abbrev pub bare_fault : yaml_error_type_t → Fault
bare_fault error = record {
  error = error;
  problem = None;
  offset = 0;
  value = pos 0;
  problem_mark = zero_mark;
  context = None;
  context_mark = zero_mark;
}

-- Memory was refused.
abbrev pub memory_fault : Fault
memory_fault = bare_fault YAML_MEMORY_ERROR

-- The fault of an offence, `before` bytes into the input.
abbrev pub reader_fault : ℕ → offence_t → Fault
reader_fault before o = record (bare_fault YAML_READER_ERROR) {
  problem = Some (problem_text o.problem);
  offset = before + o.offset;
  value = o.value;
}

-- A problem at a mark, with a context at another.
abbrev pub scanner_fault : List ℕ → yaml_mark_t → Option (List ℕ) → yaml_mark_t → Fault
scanner_fault problem problem_mark context context_mark = record (bare_fault YAML_SCANNER_ERROR) {
  problem = Some problem;
  problem_mark = problem_mark;
  context = context;
  context_mark = context_mark;
}
