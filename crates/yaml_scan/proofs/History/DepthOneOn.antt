-- The depth after one lexeme more.
use Rattle.std.proofs.Common.{◌≡◌, ℕ, suc, ◌+◌, ◌-◌, max, true, false, List, [], ◌∷◌, map, length, filter, refl, ap, arith}
use Rattle.yaml_scan.specs.Kind.{is_flow_start, is_flow_end}
use Rattle.yaml_scan.specs.Laid.{Laid}
use Rattle.yaml_lexeme.specs.Greatest.{greatest}
use Rattle.yaml_scan.specs.Depth.{depth, latest_parts, unclosed}

step_more : (s e g h : ℕ) → max 1 g ≡ max 1 (h + 1) → max 1 (max (suc s - e) g) ≡ max 1 (max (s - e) h + 1)
step_more s e g h k = omega arith

step_less : (s e g h : ℕ) → g ≡ h - 1 → max (s - suc e) g ≡ max (s - e) h - 1
step_less s e g h k = omega arith

-- one more start, one more end, or neither, in each of a list of latest parts
greatest_more : (i : Laid) → is_flow_start i.lexeme.kind ≡ true → is_flow_end i.lexeme.kind ≡ false → (es : List (List Laid))
    → max 1 (greatest (map unclosed (map (λ e. i ∷ e) es))) ≡ max 1 (greatest (map unclosed es) + 1)
greatest_more i s c [] = omega arith
greatest_more i s c (e ∷ es) = rw (s, c) (step_more (length (filter (λ i. is_flow_start i.lexeme.kind) e)) (length (filter (λ i. is_flow_end i.lexeme.kind) e)) _ _ (greatest_more i s c es))

greatest_less : (i : Laid) → is_flow_start i.lexeme.kind ≡ false → is_flow_end i.lexeme.kind ≡ true → (es : List (List Laid))
    → greatest (map unclosed (map (λ e. i ∷ e) es)) ≡ greatest (map unclosed es) - 1
greatest_less i s c [] = omega arith
greatest_less i s c (e ∷ es) = rw (s, c) (step_less (length (filter (λ i. is_flow_start i.lexeme.kind) e)) (length (filter (λ i. is_flow_end i.lexeme.kind) e)) _ _ (greatest_less i s c es))

greatest_same : (i : Laid) → is_flow_start i.lexeme.kind ≡ false → is_flow_end i.lexeme.kind ≡ false → (es : List (List Laid))
    → greatest (map unclosed (map (λ e. i ∷ e) es)) ≡ greatest (map unclosed es)
greatest_same i s c [] = refl
greatest_same i s c (e ∷ es) = rw (s, c) (ap (λ n. max (unclosed e) n) (greatest_same i s c es))

-- the depth after i
pub depth-start : (i : Laid) (H : List Laid) → is_flow_start i.lexeme.kind ≡ true → is_flow_end i.lexeme.kind ≡ false → depth (i ∷ H) ≡ depth H + 1
unfolding depth
depth-start i [] s c = rw (s, c) refl
depth-start i (j ∷ H) s c =
    let k = greatest_more i s c (latest_parts (j ∷ H)) in
    let u : unclosed (i ∷ []) ≡ 1 = rw (s, c) refl in
    omega arith

pub depth-end : (i : Laid) (H : List Laid) → is_flow_start i.lexeme.kind ≡ false → is_flow_end i.lexeme.kind ≡ true → depth (i ∷ H) ≡ depth H - 1
unfolding depth
depth-end i H s c = let k = greatest_less i s c (latest_parts H) in omega arith

pub depth-same : (i : Laid) (H : List Laid) → is_flow_start i.lexeme.kind ≡ false → is_flow_end i.lexeme.kind ≡ false → depth (i ∷ H) ≡ depth H
unfolding depth
depth-same i H s c = let k = greatest_same i s c (latest_parts H) in omega arith
