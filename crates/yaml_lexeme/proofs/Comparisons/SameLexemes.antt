-- Two lexemes compare equal exactly if the definitions see the same in them.
use Rattle.std.proofs.Common.{rules, ◌≡◌, ◌↔◌, ◌&&◌, IsTrue, Bool}
use Rattle.std.specs.Bool.{beq}
use Rattle.yaml_text.proofs.Comparisons.SameParts.{are_same_marks, are_same_marks-is, same_flags-is}
use Rattle.yaml_text.proofs.Comparisons.SameParts.{both-is, both_ways}
use Rattle.yaml_text.proofs.Comparisons.SameTokens.{are_same_data, are_same_data-is}
use Rattle.yaml_lexeme.specs.Lexeme.{Lexeme}
use Rattle.yaml_lexeme.specs.LexemeOf.{lexeme_of}
use Rattle.yaml_lexeme.specs.declared.lexeme.yaml_lexeme_t.{yaml_lexeme_t}
use Rattle.yaml_lexeme.specs.contracts.lexeme.yaml_lexeme_tPartialEq.TheImpl as lexeme_eq

-- what `==` of two lexemes answers
abbrev pub are_same_lexemes : yaml_lexeme_t → yaml_lexeme_t → Bool
are_same_lexemes = (lexeme_eq.ghosts).eq

-- lexemes are the same if each of their parts is
same_parts : (a b : Lexeme) → ((a.token_data ≡ b.token_data) × ((a.start_mark ≡ b.start_mark)
    × ((a.end_mark ≡ b.end_mark) × ((a.reach ≡ b.reach) × (a.passed_break ≡ b.passed_break))))) ↔ (a ≡ b)
same_parts a b = search rules

by_parts : (same : Bool) (a b : Lexeme) → IsTrue same ↔ (a.token_data ≡ b.token_data)
    → IsTrue (same && (are_same_marks a.start_mark b.start_mark && (are_same_marks a.end_mark b.end_mark
    && (are_same_marks a.reach b.reach && beq a.passed_break b.passed_break)))) ↔ (a ≡ b)
by_parts same a b says =
    both_ways (both-is _ _ (a.token_data ≡ b.token_data) _ says
    (both-is _ _ (a.start_mark ≡ b.start_mark) _ (are_same_marks-is a.start_mark b.start_mark)
    (both-is _ _ (a.end_mark ≡ b.end_mark) _ (are_same_marks-is a.end_mark b.end_mark)
    (both-is _ _ (a.reach ≡ b.reach) (a.passed_break ≡ b.passed_break) (are_same_marks-is a.reach b.reach)
    (same_flags-is a.passed_break b.passed_break))))) (same_parts a b)

pub are_same_lexemes-is : (a b : yaml_lexeme_t) → IsTrue (are_same_lexemes a b) ↔ (lexeme_of a ≡ lexeme_of b)
are_same_lexemes-is a b =
    by_parts (are_same_data a.token_data b.token_data) (lexeme_of a) (lexeme_of b)
    (are_same_data-is a.token_data b.token_data)
