use Rattle.std.proofs.Common.{ap, ◌∙◌}
use Rattle.yaml_scan.specs.Parser.{Parser}
use Rattle.yaml_scan.proofs.scanner.scanner_t.fault.Goals as goal

pub returns : goal.returns
returns c = λ p k. c.fault.ensures ∙ ap (λ (z : Parser). z.session.fault) k.seen_as
