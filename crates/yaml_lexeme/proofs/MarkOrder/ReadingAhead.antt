-- Places ahead of a place, and what is read up to there.
use Rattle.std.proofs.Common.{◌≡◌, ℕ, ◌+◌, ◌-◌, ◌<◌, ◌≤◌, inl, inr, length, Some, None, Ok, Err, refl, sym, ap, ◌∙◌, arith}
use Rattle.std.proofs.lemmas.Bool.{cases_lt}
use Rattle.yaml_text.specs.declared.types.yaml_mark_t.{yaml_mark_t}
use Rattle.yaml_lexeme.proofs.Parts.PartByPart.{IsShorter}
use Rattle.yaml_lexeme.proofs.Places.PlaceMoves.{stays, length_skip, skip_skip}
use Rattle.yaml_lexeme.specs.Order.{IsBeyond, Spans}
use Rattle.yaml_lexeme.specs.Place.{Place, skip}
use Rattle.yaml_lexeme.specs.Reading.{Part}

pub ahead_less : (m n : ℕ) (p q : Place) → m ≤ n → IsBeyond n p q → IsBeyond m p q
ahead_less m n p q h a = record { count = a.count; least = omega (arith, a.least); within = a.within; is = a.is }

pub ahead_trans : (m n : ℕ) (p q r : Place) → IsBeyond m p q → IsBeyond n q r → IsBeyond (m + n) p r
ahead_trans m n p q r a b =
    let left = length_skip a.count p in
    let same = ap (λ (x : Place). length x.rest) a.is in
    record {
      count = a.count + b.count;
      least = omega (arith, a.least, b.least);
      within = omega (arith, a.within, b.within, left, same);
      is = b.is ∙ ap (skip b.count) a.is ∙ skip_skip a.count b.count p;
    }

-- and then further on
pub ahead_on : (m : ℕ) (p q r : Place) → IsBeyond m p q → IsBeyond 0 q r → IsBeyond m p r
ahead_on m p q r a b = ahead_less m (m + 0) p r (omega arith) (ahead_trans m 0 p q r a b)

skip_past : (k : ℕ) (p : Place) → length p.rest ≤ k → skip k p ≡ skip (length p.rest) p
skip_past k p h =
    let n = length p.rest in
    let q = skip n p in
    let k' : n + (k - n) ≡ k = omega arith in
    let none : length q.rest ≡ 0 = omega (arith, length_skip n p) in
    ap (λ (i : ℕ). skip i p) (sym k') ∙ sym (skip_skip n (k - n) p) ∙ sym (stays (k - n) q none)

-- as many as there are
pub ahead_any : (k : ℕ) (p : Place) → IsBeyond 0 p (skip k p)
ahead_any k p =
    elim (cases_lt k (length p.rest)) [
      | inl within ↦ record { count = k; least = omega arith; within = omega arith; is = refl }
      | inr past ↦ record { count = length p.rest; least = omega arith; within = omega arith; is = skip_past k p past }
    ]

pub shorter : (p q : Place) → IsBeyond 1 p q → length q.rest < length p.rest
shorter p q a = omega (arith, a.least, a.within, length_skip a.count p, ap (λ (x : Place). length x.rest) a.is)

-- a part ends n characters ahead or more
abbrev pub PartAhead : {A : Type 0} → ℕ → Place → Part A → Type 0
PartAhead n p (Ok (Some f)) = IsBeyond n p f.end
PartAhead n p (Ok None) = Unit {0}
PartAhead n p (Err e) = Unit {0}

pub part_shorter : {A : Type 0} → (p : Place) (r : Part A) → PartAhead 1 p r → IsShorter p r
part_shorter p (Ok (Some f)) a = shorter p f.end a
part_shorter p (Ok None) a = tt
part_shorter p (Err e) a = tt

pub spans_end : (n : ℕ) (p : Place) (e : yaml_mark_t) (q : Place) → Spans n p e q → IsBeyond n p q
spans_end n p e q s = ahead_on n p s.between q s.taken s.read
