use Rattle.std.proofs.Common.{◌≡◌, true, subst}
use Rattle.yaml_scan.specs.Parser.{Parser, course_by}
use Rattle.yaml_scan.specs.inside.Kept.{scan_of}
use Rattle.yaml_scan.specs.inside.Ready.{Scan, Sound, parser_of, scanner_in}
use Rattle.yaml_scan.specs.Puts.{HasNext}
use Rattle.yaml_scan.proofs.RunningCalls.CallAnswers.{shown_settled, token_some}
use Rattle.yaml_scan.proofs.parser.yaml_parser_has_token.Goals as goal

has_next : (i : Scan) → Sound i → i.session.peeked ≡ true → HasNext (parser_of i)
unfolding course_by
has_next i s q =
    let k = s.peeked q in
    (k.0, token_some i.setting i.input (scanner_in i) (scanner_in i) (shown_settled i.setting i.input (scanner_in i) k.1))

pub returns-clause-next : goal.returns-clause-next
returns-clause-next c q = let P = c.parser.inside in subst (λ (p : Parser). HasNext p) c.parser.view_is (has_next (scan_of P.input.now P.scanner) c.parser.invariant.scanner.sound q)
