use Rattle.std.proofs.Common.{◌≡◌, ℕ, suc, ◌+◌, ◌<◌, ◌≤◌, ◌++◌, ◌∙◌, ap, List, [], ◌∷◌, length, take, drop, set, arith}
use Rattle.std.proofs.lemmas.List.{take-take, set_at}
use Rattle.std.proofs.Math.Seq.{take-append-add}
use Rattle.yaml_lexeme.proofs.fold.push_behind.Goals as goal

set_front : (out bs : List ℕ) (b k n : ℕ) → k ≡ length out → 16 ≤ length bs → n < 16 → take (k + 1 + n) (set (out ++ take 16 bs) k b) ≡ out ++ (b ∷ take n (drop 1 bs))
set_front out [] b k n e long few = absurd (omega arith)
set_front out (y ∷ ys) b k n e long few =
    let xs = b ∷ take 15 ys in
    let at : k + 1 + n ≡ length out + suc n = omega arith in
    ap (λ (zs : List ℕ). take (k + 1 + n) zs) (set_at out y (take 15 ys) b k (omega arith))
    ∙ ap (λ i. take i (out ++ xs)) at ∙ take-append-add out xs (suc n)
    ∙ ap (λ (zs : List ℕ). out ++ (b ∷ zs)) (take-take n 15 ys (omega arith))

pub returns : goal.returns
returns c =
    let out = c.args.out.now.items in
    let bs = c.args.bytes.now in
    let k = c.len-old.result in
    let whole : c.extend_from_slice.new.self.items ≡ out ++ take 16 bs = c.in_ok-extend_from_slice.ensures.items in
    let at : k ≡ length out = omega (arith, c.len-old.ensures) in
    c.truncate.ensures.items ∙ ap (λ (x : List ℕ). take (k + 1 + c.args.n) (set x k c.args.byte)) whole
    ∙ set_front out bs c.args.byte k c.args.n at c.requires.stage c.requires.few
