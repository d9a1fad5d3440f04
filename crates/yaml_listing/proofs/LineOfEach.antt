-- If the answers of a list have lines, each of them has one.
use Rattle.std.proofs.Common.{ℕ, zero, suc, ◌<◌, List, [], ◌∷◌, map, length, get_or, arith}
use Rattle.yaml_scan.specs.Seen.{Seen}
use Rattle.yaml_scan.specs.CallWords.{SeenHasLine, SeenHaveLines}

pub line_at : {X : Type 0} (f : X → Seen) (xs : List X) (i : ℕ) (d : X) → SeenHaveLines (map f xs) → i < length xs
    → SeenHasLine (f (get_or xs i d))
line_at f [] i d h l = absurd (omega arith)
line_at f (x ∷ xs) zero d h l = h.0
line_at f (x ∷ xs) (suc i) d h l = line_at f xs i d h.1 (omega arith)
