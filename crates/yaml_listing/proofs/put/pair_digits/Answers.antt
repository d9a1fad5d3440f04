use Rattle.std.proofs.Common.{◌+◌, ◌/◌, ◌%◌, ℕ}
use Rattle.yaml_listing.proofs.Tables.{first_at, second_at}
use Rattle.yaml_listing.proofs.put.pair_digits.Goals as goal

pub returns-clause-tens : goal.returns-clause-tens
returns-clause-tens c =
    first_at (λ (n : ℕ). 48 + n / 10) (λ (n : ℕ). 48 + n % 10) 100 c.args.number _ c.pairs-digits.ensures c.requires

pub returns-clause-ones : goal.returns-clause-ones
returns-clause-ones c =
    second_at (λ (n : ℕ). 48 + n / 10) (λ (n : ℕ). 48 + n % 10) 100 c.args.number _ c.pairs-digits.ensures c.requires
