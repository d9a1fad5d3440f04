-- Two answers compare equal exactly if the same can be seen of them.
use Rattle.std.proofs.Common.{rules, ◌≡◌, ◌↔◌, ◌&&◌, IsTrue, Bool, ap}
use Rattle.yaml_text.specs.Fault.{Fault, fault_of}
use Rattle.yaml_text.specs.Token.{Token, token_of}
use Rattle.yaml_text.specs.declared.types.yaml_mark_t.{yaml_mark_t}
use Rattle.yaml_text.specs.declared.types.yaml_token_type_t.{yaml_token_type_t}
use Rattle.yaml_text.proofs.Comparisons.SameParts.{are_same_marks, are_same_marks-is, are_same_types}
use Rattle.yaml_text.proofs.Comparisons.SameParts.{are_same_types-is, both-is, both_ways}
use Rattle.yaml_text.proofs.Comparisons.SameTokens.{are_same_tokens, are_same_tokens-is}
use Rattle.yaml_text.proofs.Comparisons.SameFaults.{are_same_faults, are_same_faults-is}
use Rattle.yaml_scan.specs.Seen.{seen_of}
use Rattle.yaml_scan.specs.Seen.Seen.{TOKEN, PEEKED, FAULT}
use Rattle.yaml_scan.specs.declared.calls.yaml_answer_t.{yaml_answer_t}
use Rattle.yaml_scan.specs.declared.calls.yaml_answer_t.TheVariants as coded
use Rattle.yaml_scan.specs.contracts.calls.yaml_answer_tPartialEq.TheImpl as answer_eq

-- what `==` of two answers answers
abbrev pub are_same_answers : yaml_answer_t → yaml_answer_t → Bool
are_same_answers = (answer_eq.ghosts).eq

with_token : (same : Bool) (a b : Token) → IsTrue same ↔ (a ≡ b) → IsTrue same ↔ (TOKEN a ≡ TOKEN b)
with_token same a b (then, back) = ((λ h. ap TOKEN (then h)), λ e. back (cc))

with_fault : (same : Bool) (a b : Fault) → IsTrue same ↔ (a ≡ b) → IsTrue same ↔ (FAULT a ≡ FAULT b)
with_fault same a b (then, back) = ((λ h. ap FAULT (then h)), λ e. back (cc))

peeked_parts : (t u : yaml_token_type_t) (m n o p : yaml_mark_t)
    → ((t ≡ u) × ((m ≡ o) × (n ≡ p))) ↔ (PEEKED t m n ≡ PEEKED u o p)
peeked_parts t u m n o p = ((λ (e, (f, g)). cc), λ e. (cc, (cc, cc)))

with_marks : (t u : yaml_token_type_t) (m n o p : yaml_mark_t)
    → IsTrue (are_same_types t u && (are_same_marks m o && are_same_marks n p)) ↔ (PEEKED t m n ≡ PEEKED u o p)
with_marks t u m n o p =
    both_ways (both-is _ _ (t ≡ u) _ (are_same_types-is t u)
    (both-is _ _ (m ≡ o) (n ≡ p) (are_same_marks-is m o) (are_same_marks-is n p)))
    (peeked_parts t u m n o p)

pub are_same_answers-is : (a b : yaml_answer_t) → IsTrue (are_same_answers a b) ↔ (seen_of a ≡ seen_of b)
are_same_answers-is (coded.TOKEN a) (coded.TOKEN b) =
    with_token (are_same_tokens a b) (token_of a) (token_of b) (are_same_tokens-is a b)
are_same_answers-is (coded.FAULT a) (coded.FAULT b) =
    with_fault (are_same_faults a b) (fault_of a) (fault_of b) (are_same_faults-is a b)
are_same_answers-is (coded.PEEKED t m n) (coded.PEEKED u o p) = with_marks t u m n o p
are_same_answers-is _ _ = search rules
