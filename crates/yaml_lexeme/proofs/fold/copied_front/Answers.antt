use Rattle.std.proofs.Common.{◌≡◌, ℕ, ◌≤◌, ◌∙◌, ap, refl, List, take, arith}
use Rattle.std.proofs.lemmas.List.{take-take}
use Rattle.yaml_lexeme.proofs.fold.copied_front.Goals as goal

pub returns : goal.returns
returns c =
    let bs = c.args.bytes.now in
    let n = c.args.n in
    let few : n ≤ 16 = omega (arith, c.if-n-gt-STAGE.false) in
    let whole : c.extend_from_slice-2.new.self.items ≡ take 16 bs = c.in_ok-extend_from_slice-2.ensures.items ∙ rw c.in_ok-out-2.ensures.items refl in
    c.truncate.ensures.items ∙ ap (λ (x : List ℕ). take n x) whole ∙ take-take n 16 bs few
