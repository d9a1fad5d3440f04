use Rattle.std.proofs.Common.{◌≡◌, ℕ, suc, ◌+◌, ◌/◌, ◌%◌, ◌≤◌, ◌++◌, ◌∙◌, ap, List, [], ◌∷◌, length, take, drop, sym, set, arith, append_assoc}
use Rattle.std.proofs.lemmas.List.{take-take, set_at, length-append}
use Rattle.std.proofs.Math.Seq.{take-append-add}
use Rattle.yaml_text.proofs.Characters.Utf8Spelling.{two}
use Rattle.yaml_lexeme.proofs.fold.push_two_behind.Goals as goal

set_two : (out bs : List ℕ) (a b k n : ℕ) → k ≡ length out → 16 ≤ length bs → n ≤ 14 → take (k + 2 + n) (set (set (out ++ take 16 bs) k a) (k + 1) b) ≡ out ++ (a ∷ b ∷ take n (drop 2 bs))
set_two out [] a b k n e long few = absurd (omega arith)
set_two out (y ∷ []) a b k n e long few = absurd (omega arith)
set_two out (y ∷ z ∷ ys) a b k n e long few =
    let xs = take 14 ys in
    let first : set (out ++ (y ∷ z ∷ xs)) k a ≡ (out ++ (a ∷ [])) ++ (z ∷ xs) = set_at out y (z ∷ xs) a k (omega arith) ∙ sym (append_assoc out (a ∷ []) (z ∷ xs)) in
    let second : set ((out ++ (a ∷ [])) ++ (z ∷ xs)) (k + 1) b ≡ out ++ (a ∷ b ∷ xs) = set_at (out ++ (a ∷ [])) z xs b (k + 1) (omega (arith, length-append out (a ∷ []))) ∙ append_assoc out (a ∷ []) (b ∷ xs) in
    let at : k + 2 + n ≡ length out + suc (suc n) = omega arith in
    ap (λ (zs : List ℕ). take (k + 2 + n) (set zs (k + 1) b)) first ∙ ap (λ (zs : List ℕ). take (k + 2 + n) zs) second
    ∙ ap (λ i. take i (out ++ (a ∷ b ∷ xs))) at ∙ take-append-add out (a ∷ b ∷ xs) (suc (suc n))
    ∙ ap (λ (zs : List ℕ). out ++ (a ∷ b ∷ zs)) (take-take n 14 ys few)

pub returns : goal.returns
returns c =
    let out = c.args.out.now.items in
    let bs = c.args.bytes.now in
    let k = c.len-old.result in
    let n = c.args.n in
    let a = 192 + c.args.c / 64 in
    let b = 128 + c.args.c % 64 in
    let whole : c.extend_from_slice.new.self.items ≡ out ++ take 16 bs = c.in_ok-extend_from_slice.ensures.items in
    let at : k ≡ length out = omega (arith, c.len-old.ensures) in
    c.truncate.ensures.items ∙ ap (λ (x : List ℕ). take (k + 2 + n) (set (set x k a) (k + 1) b)) whole
    ∙ set_two out bs a b k n at c.requires.stage c.requires.few
    ∙ ap (λ (x : List ℕ). out ++ (x ++ take n (drop 2 bs))) (sym (two c.args.c (omega (arith, c.requires.least)) (omega (arith, c.requires.most))))
