use Rattle.std.proofs.Common.{◌+◌, ◌-◌, ◌/◌, ◌∷◌, ℕ, drop, set, ap, ◌∙◌, arith}
use Rattle.std.proofs.lemmas.List.{take-set, take-set-le}
use Rattle.yaml_listing.proofs.Digits.{drop_two_written}
use Rattle.yaml_listing.proofs.put.set_pair.Goals as goal

pub returns-clause-digits : goal.returns-clause-digits
returns-clause-digits c =
    let digits = c.pair_digits-tens.result in
    let rest = drop c.args.end c.args.buffer.now in
    drop_two_written c.args.end digits.0 digits.1 c.args.buffer.now c.requires.room c.requires.within
    ∙ ap (λ (x : ℕ). x ∷ digits.1 ∷ rest) c.pair_digits-tens.ensures.tens
    ∙ ap (λ (y : ℕ). (48 + c.args.number / 10) ∷ y ∷ rest) c.pair_digits-tens.ensures.ones

pub returns-clause-front : goal.returns-clause-front
returns-clause-front c =
    let digits = c.pair_digits-tens.result in
    let end = c.args.end in
    take-set (set c.args.buffer.now (end - 1) digits.1) (end - 2) digits.0
    ∙ take-set-le (end - 2) c.args.buffer.now (end - 1) digits.1 (omega arith)
