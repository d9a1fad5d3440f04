use Rattle.std.proofs.Common.{◌<◌, arith, sym, ◌∙◌, map-id}
use Rattle.std.proofs.lemmas.Simd.{Each1-weaker}
use Rattle.yaml_text.proofs.ManyBytes.AsciiLanes.{cut, cut_below, cut_single}
use Rattle.yaml_text.proofs.utf16.narrow.Goals as goal

pub overflow_cast-result : goal.overflow_cast-result
overflow_cast-result c = Each1-weaker (λ b. b < 128) _ (λ a lt. record { fits = omega (arith, lt) }) _ (cut_below c.units.result c.units.ensures.long)

pub returns-clause-ascii : goal.returns-clause-ascii
returns-clause-ascii c = rw (map-id (cut c.units.result)) (cut_below c.units.result c.units.ensures.long)

pub returns-clause-units : goal.returns-clause-units
returns-clause-units c = λ k lt. rw (map-id (cut c.units.result)) (λ s. c.halves.ensures.units k lt ∙ sym (c.units.ensures.units k lt) ∙ cut_single c.units.result k c.units.ensures.long lt s)
