-- Two values compare equal exactly if each of their parts does.
use Rattle.std.proofs.Common.{rules, ℕ, ℤ, int_eq, ◌≡◌, ◌==◌, ◌↔◌, ◌&&◌, IsTrue, Bool}
use Rattle.std.specs.Bool.{beq}
use denote.Enum.Bare.{same_true, true_same}
use Rattle.yaml_text.specs.contracts.types.yaml_token_type_t.{the_type}
use Rattle.yaml_text.specs.declared.types.yaml_mark_t.{yaml_mark_t}
use Rattle.yaml_text.specs.declared.types.yaml_token_type_t.{yaml_token_type_t}
use Rattle.yaml_text.specs.contracts.types.yaml_token_type_tPartialEq.TheImpl as type_eq
use Rattle.yaml_text.specs.contracts.types.yaml_mark_tPartialEq.TheImpl as mark_eq

-- what `==` of two marks answers
abbrev pub are_same_marks : yaml_mark_t → yaml_mark_t → Bool
are_same_marks = (mark_eq.ghosts).eq

pub are_same_marks-is : (a b : yaml_mark_t) → IsTrue (are_same_marks a b) ↔ (a ≡ b)
are_same_marks-is a b = search rules

-- what `==` of two types of tokens answers
abbrev pub are_same_types : yaml_token_type_t → yaml_token_type_t → Bool
are_same_types = (type_eq.ghosts).eq

pub are_same_types-is : (a b : yaml_token_type_t) → IsTrue (are_same_types a b) ↔ (a ≡ b)
are_same_types-is a b = (same_true the_type tt a b, true_same the_type a b)

pub same_numbers-is : (a b : ℕ) → IsTrue (a == b) ↔ (a ≡ b)
same_numbers-is a b = search rules

pub same_integers-is : (a b : ℤ) → IsTrue (int_eq a b) ↔ (a ≡ b)
same_integers-is a b = search rules

pub same_flags-is : (a b : Bool) → IsTrue (beq a b) ↔ (a ≡ b)
same_flags-is a b = search rules

-- tests of two facts, joined, are a test of both
pub both-is : (x y : Bool) (P Q : Type 0) → IsTrue x ↔ P → IsTrue y ↔ Q → IsTrue (x && y) ↔ (P × Q)
both-is x y P Q p q = search rules

-- what is so exactly if P is, and P exactly if Q is
pub both_ways : {P Q R : Type 0} → P ↔ Q → Q ↔ R → P ↔ R
both_ways (p, q) (r, s) = ((λ x. r (p x)), λ z. q (s z))
