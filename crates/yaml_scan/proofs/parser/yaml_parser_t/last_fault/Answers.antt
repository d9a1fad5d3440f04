use Rattle.std.proofs.Common.{sym, ap, ◌∙◌}
use Rattle.yaml_scan.specs.Parser.{Parser}
use Rattle.yaml_scan.proofs.parser.yaml_parser_t.last_fault.Goals as goal

pub returns : goal.returns
returns c = sym (ap (λ (z : Parser). z.session.fault) c.self.view_is) ∙ sym (rw c.in-Some.is at c.fault.ensures)
