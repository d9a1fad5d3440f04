-- Two writes, one after the other, write the bytes of both; the front of a list and then of its rest is a longer front.
use Rattle.std.proofs.Common.{◌≡◌, ℕ, ◌+◌, ◌-◌, ◌≤◌, List, ◌++◌, length, take, drop, None, Some, Option}
use Rattle.std.proofs.Common.{ap, ◌∙◌, append_assoc, arith, sym, length-drop}
use Rattle.std.proofs.Math.Seq.{take-add}
use Rattle.std.proofs.lemmas.List.{take_all}
use Rattle.std.specs.Io.KnownBytes.{Appends}

-- one write after another
pub Appends-trans : (a b c : Option (List ℕ)) (bs cs : List ℕ) → Appends a b bs → Appends b c cs
    → Appends a c (bs ++ cs)
Appends-trans None b c bs cs p q = tt
Appends-trans (Some x) None c bs cs p q = absurd p
Appends-trans (Some x) (Some y) None bs cs p q = absurd q
Appends-trans (Some x) (Some y) (Some z) bs cs p q = q ∙ ap (λ l. l ++ cs) p ∙ append_assoc x bs cs

-- the front of a list, and then the front of what follows it
pub take-then : {X : Type 0} (xs : List X) (at n : ℕ)
    → take at xs ++ take n (take (length xs - at) (drop at xs)) ≡ take (at + n) xs
take-then xs at n =
    let rest : length (drop at xs) ≤ length xs - at = omega (arith, length-drop at xs) in
    ap (λ l. take at xs ++ take n l) (take_all (length xs - at) (drop at xs) rest) ∙ sym (take-add at n xs)
