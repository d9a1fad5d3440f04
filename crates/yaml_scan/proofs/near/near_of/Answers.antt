use Rattle.std.proofs.Common.{◌≡◌, ℕ, ◌+◌, ◌-◌, ◌≤◌, true, false, List, length, take, ap, arith, lt-ltb, le-ltb, inl, inr}
use Rattle.std.proofs.lemmas.Bool.{cases_lt}
use Rattle.std.specs.Prelude.{◌↔◌}
use Rattle.yaml_text.specs.Chars.{utf8}
use Rattle.yaml_text.specs.Decoding.{refusal_seen}
use Rattle.yaml_scan.specs.Near.{is_near}
use Rattle.yaml_scan.specs.inside.Scanning.{IsNearFrom}
use Rattle.yaml_scan.proofs.Texts.TextPlaces.{index_is}
use Rattle.yaml_scan.proofs.near.near_of.Goals as goal

near_yes : (n p : ℕ) → n - p ≤ 7 → p ≤ n → is_near n p ≡ true
near_yes n p l h = lt-ltb n (p + 8) (omega arith)

near_no : (n p : ℕ) → 8 ≤ n - p → is_near n p ≡ false
near_no n p l = le-ltb n (p + 8) (omega arith)

few_is_near : (cs : List ℕ) (near : ℕ) → ((p : ℕ) → p ≤ length cs → (near ≤ length (utf8 (take p cs))) ↔ (length cs - p ≤ 7)) → IsNearFrom cs near
few_is_near cs near few = λ p within. (
  (λ h. near_yes (length cs) p ((few p within).0 (omega (arith, index_is cs p))) within),
  (λ h. elim (cases_lt 7 (length cs - p)) [ inl l ↦ near_no (length cs) p l | inr l ↦ absurd (omega (arith, (few p within).1 l, index_is cs p)) ]),
)

pub returns-in-Some-clause-near : goal.returns-in-Some-clause-near
returns-in-Some-clause-near c = rw (ap refusal_seen c.in-Some.is) (few_is_near _ _ c.yaml_index_from_end.ensures.few)
