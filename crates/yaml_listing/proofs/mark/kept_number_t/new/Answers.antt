use Rattle.std.proofs.Common.{◌∷◌, ℕ, List, sym, ap, arith}
use Rattle.std.proofs.lemmas.Fmt.{decimal_digit}
use Rattle.yaml_listing.proofs.mark.kept_number_t.new.Goals as goal

pub invariant_of-result-clause-text : goal.invariant_of-result-clause-text
invariant_of-result-clause-text c =
    ap (λ (z : List ℕ). c.args.lead ∷ z) (sym (decimal_digit 0 (omega arith)))
