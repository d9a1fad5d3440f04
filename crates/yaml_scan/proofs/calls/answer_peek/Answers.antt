use Rattle.std.proofs.Common.{refl, subst}
use Rattle.yaml_text.specs.Fault.{fault_of}
use Rattle.yaml_scan.specs.Decoded.{decoded_input}
use Rattle.yaml_scan.specs.Headline.{Calls}
use Rattle.yaml_scan.specs.ParserCalls.{peek_result, copied}
use Rattle.yaml_scan.specs.Session.Call.{PEEK}
use Rattle.yaml_scan.specs.Session.Answer.{FAULT}
use Rattle.yaml_scan.proofs.calls.answer_peek.Goals as goal

pub returns-in-Err : goal.returns-in-Err
returns-in-Err c = let f = c.yaml_parser_peek.follows in (
  FAULT (fault_of c.in-Err.fault),
  refl,
  subst (λ r. Calls decoded_input PEEK c.args.parser.now (peek_result (copied r)) f.lender-at-none) c.in-Err.is f.holds-at-none,
)
