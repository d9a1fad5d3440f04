use Rattle.std.proofs.Common.{ap, ◌∙◌}
use Rattle.yaml_scan.specs.Parser.{Parser}
use Rattle.yaml_scan.proofs.parser.yaml_parser_fault.Goals as goal

pub returns : goal.returns
returns c = c.fault.ensures ∙ ap (λ (z : Parser). z.session.fault) c.parser.view_is
