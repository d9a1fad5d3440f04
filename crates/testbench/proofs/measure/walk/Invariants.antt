use Rattle.std.proofs.Common.{ℕ}
use Rattle.yaml_lexeme.specs.Counted.{IsMarkOf}
use Rattle.testbench.proofs.measure.walk.Given as goal

abbrev pub invariant-lexemes : goal.invariant-lexemes
invariant-lexemes l = (n : ℕ) × IsMarkOf l.text.chars l.at n
