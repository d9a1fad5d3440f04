use Rattle.std.proofs.Common.{◌/◌, ◌%◌, ℕ, arith}
use Rattle.std.specs.Char.{digit_char}
use Rattle.yaml_listing.proofs.Tables.{first_at, second_at}
use Rattle.yaml_listing.proofs.put.hex_digits.Goals as goal

pub returns-clause-high : goal.returns-clause-high
returns-clause-high c =
    first_at (λ (n : ℕ). digit_char (n / 16)) (λ (n : ℕ). digit_char (n % 16)) 256 c.args.byte _
    c.hex_pairs-digits.ensures (omega (arith, c.ranges.byte.fits))

pub returns-clause-low : goal.returns-clause-low
returns-clause-low c =
    second_at (λ (n : ℕ). digit_char (n / 16)) (λ (n : ℕ). digit_char (n % 16)) 256 c.args.byte _
    c.hex_pairs-digits.ensures (omega (arith, c.ranges.byte.fits))
