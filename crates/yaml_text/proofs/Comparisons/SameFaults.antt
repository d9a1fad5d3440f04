-- Two faults compare equal exactly if the definitions see the same in them.
use Rattle.std.proofs.Common.{rules, ℕ, ◌≡◌, ◌==◌, ◌↔◌, ◌&&◌, IsTrue, Bool, List, Option, Some, None, Bor, int_eq}
use Rattle.std.specs.Option.{option_copied, option_eq}
use Rattle.std.specs.contracts.prelude.RefStrPartialEq.TheImpl as text_eq
use Rattle.yaml_text.specs.Fault.{fault_of, Fault}
use Rattle.yaml_text.specs.declared.types.yaml_error_type_t.{yaml_error_type_t}
use Rattle.yaml_text.specs.declared.fault.yaml_fault_t.{yaml_fault_t}
use Rattle.yaml_text.specs.contracts.types.yaml_error_type_tPartialEq.TheImpl as error_eq
use Rattle.yaml_text.specs.contracts.fault.yaml_fault_tPartialEq.TheImpl as fault_eq
use Rattle.yaml_text.proofs.Comparisons.SameParts.{are_same_marks, are_same_marks-is, same_numbers-is, same_integers-is}
use Rattle.yaml_text.proofs.Comparisons.SameParts.{both-is, both_ways}

-- what `==` of two faults answers
abbrev pub are_same_faults : yaml_fault_t → yaml_fault_t → Bool
are_same_faults = (fault_eq.ghosts).eq

-- what `==` of two references to texts answers, if there are any
abbrev are_same_texts : Option (Bor (List ℕ)) → Option (Bor (List ℕ)) → Bool
are_same_texts = option_eq (text_eq.ghosts).eq

are_same_texts-is : (a b : Option (Bor (List ℕ))) → IsTrue (are_same_texts a b) ↔ (option_copied a ≡ option_copied b)
are_same_texts-is None None = search rules
are_same_texts-is None (Some b) = search rules
are_same_texts-is (Some a) None = search rules
are_same_texts-is (Some a) (Some b) = search rules

are_same_errors-is : (a b : yaml_error_type_t) → IsTrue ((error_eq.ghosts).eq a b) ↔ (a ≡ b)
are_same_errors-is a b = search rules

-- faults are the same if each of their parts is
same_parts : (a b : Fault) → ((a.error ≡ b.error) × ((a.problem ≡ b.problem) × ((a.offset ≡ b.offset)
    × ((a.value ≡ b.value) × ((a.problem_mark ≡ b.problem_mark)
    × ((a.context ≡ b.context) × (a.context_mark ≡ b.context_mark))))))) ↔ (a ≡ b)
same_parts a b = search rules

by_parts : (problem context : Bool) (a b : Fault) → IsTrue problem ↔ (a.problem ≡ b.problem)
    → IsTrue context ↔ (a.context ≡ b.context)
    → IsTrue ((error_eq.ghosts).eq a.error b.error && (problem && ((a.offset == b.offset) && (int_eq a.value b.value
    && (are_same_marks a.problem_mark b.problem_mark
    && (context && are_same_marks a.context_mark b.context_mark)))))) ↔ (a ≡ b)
by_parts problem context a b problems contexts =
    both_ways (both-is _ _ (a.error ≡ b.error) _ (are_same_errors-is a.error b.error)
    (both-is _ _ (a.problem ≡ b.problem) _ problems
    (both-is _ _ (a.offset ≡ b.offset) _ (same_numbers-is a.offset b.offset)
    (both-is _ _ (a.value ≡ b.value) _ (same_integers-is a.value b.value)
    (both-is _ _ (a.problem_mark ≡ b.problem_mark) _ (are_same_marks-is a.problem_mark b.problem_mark)
    (both-is _ _ (a.context ≡ b.context) (a.context_mark ≡ b.context_mark) contexts
    (are_same_marks-is a.context_mark b.context_mark))))))) (same_parts a b)

pub are_same_faults-is : (a b : yaml_fault_t) → IsTrue (are_same_faults a b) ↔ (fault_of a ≡ fault_of b)
are_same_faults-is a b =
    by_parts (are_same_texts a.problem b.problem) (are_same_texts a.context b.context) (fault_of a) (fault_of b)
    (are_same_texts-is a.problem b.problem) (are_same_texts-is a.context b.context)
