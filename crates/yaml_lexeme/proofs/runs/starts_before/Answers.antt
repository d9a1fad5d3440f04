use Rattle.std.proofs.Common.{◌-◌, ◌∙◌, ap, refl, arith, ℕ}
use Rattle.std.proofs.lemmas.Grind.{one_shifted}
use Rattle.std.specs.Int.RustNames.{count_ones}
use lib.Bits.{bit_and}
use Rattle.yaml_lexeme.specs.inside.Runs.{begins}
use Rattle.yaml_lexeme.proofs.ManyBytes.CharacterCounts.{counted_front}
use Rattle.yaml_lexeme.proofs.runs.starts_before.Goals as goal

pub returns : goal.returns
returns c =
    let n = c.args.n in
    let low = one_shifted n 18446744073709551615 refl (omega (arith, c.requires.few)) in
    ap (λ (k : ℕ). count_ones (bit_and c.starts.result (k - 1))) low.0 ∙ counted_front begins c.args.v n c.starts.result (omega (arith, c.requires.few, c.requires.long)) c.starts.ensures
