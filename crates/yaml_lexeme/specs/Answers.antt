-- What a public call that reads a lexeme returns: the lexeme or the fault of its offence, if memory is not refused.
use Rattle.std.specs.Prelude.{◌≡◌, ◌⊎◌, Result, Ok, Err, Some}
use Rattle.yaml_text.specs.Fault.{Fault, fault_of, memory_fault, scanner_fault}
use Rattle.yaml_text.specs.declared.fault.yaml_fault_t.{yaml_fault_t}
use Rattle.yaml_text.specs.declared.types.yaml_mark_t.{yaml_mark_t}
use Rattle.yaml_lexeme.specs.declared.kind.yaml_lexeme_kind_t.{yaml_lexeme_kind_t}
use Rattle.yaml_lexeme.specs.declared.problem.yaml_refusal_t.{yaml_refusal_t}
use Rattle.yaml_lexeme.specs.declared.problem.yaml_refusal_t.TheVariants.{MEMORY, OFFENCE}
use Rattle.yaml_lexeme.specs.FaultTexts.{problem_text, context_text}
use Rattle.yaml_lexeme.specs.declared.lex.yaml_context_t.{yaml_context_t}
use Rattle.yaml_lexeme.specs.Lexeme.{Lexeme}
use Rattle.yaml_lexeme.specs.Place.{Place}
use Rattle.yaml_lexeme.specs.Reading.{Read}
use Rattle.yaml_lexeme.specs.Lex.{lex}

-- The result, seen by view, is the one that the definitions give, or a fault of kind memory.
abbrev pub Answers : {A B : Type 0} → (A → B) → Result A yaml_fault_t → Result B Fault → Type 0
Answers view (Ok l) answer = answer ≡ Ok (view l)
Answers view (Err e) answer = (fault_of e ≡ memory_fault) ⊎ (answer ≡ Err (fault_of e))

-- the fault that a refusal stands for, at `there`, of a lexeme of kind k that starts at `at`
abbrev pub refused_at : yaml_lexeme_kind_t → yaml_mark_t → yaml_mark_t → yaml_refusal_t → Fault
refused_at k at there MEMORY = memory_fault
refused_at k at there (OFFENCE problem) =
    scanner_fault (problem_text problem) there (Some (context_text k problem)) at

-- The same of a reader, which returns a refusal in place of a fault.
abbrev pub ReadsAs : {A B : Type 0} → (A → B) → yaml_lexeme_kind_t → yaml_mark_t → yaml_mark_t → Result A yaml_refusal_t
    → Result B Fault → Type 0
ReadsAs view k at there (Ok l) answer = answer ≡ Ok (view l)
ReadsAs view k at there (Err r) answer = (r ≡ MEMORY) ⊎ (answer ≡ Err (refused_at k at there r))

-- the lexeme, or the fault of its offence, whose context is at the lexeme's start
abbrev pub answer : yaml_lexeme_kind_t → Place → Read Lexeme → Result Lexeme Fault
answer k p (Ok f) = Ok f.value
answer k p (Err e) = Err (scanner_fault (problem_text e.problem) e.at.mark (Some (context_text k e.problem)) p.mark)

-- the answer at a place
abbrev pub lexeme_at : yaml_lexeme_kind_t → yaml_context_t → Place → Result Lexeme Fault
lexeme_at k context p = answer k p (lex k context p)
