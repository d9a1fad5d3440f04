use Rattle.std.proofs.Common.{subst}
use Rattle.yaml_scan.specs.Decoded.{decoded_input}
use Rattle.yaml_scan.specs.Headline.{Calls}
use Rattle.yaml_scan.specs.Parser.{Parser}
use Rattle.yaml_scan.specs.ParserCalls.{scan_result}
use Rattle.yaml_scan.specs.Session.Call.{SCAN}
use Rattle.yaml_scan.specs.inside.Kept.{scan_of}
use Rattle.yaml_scan.specs.inside.Ready.{parser_of}
use Rattle.yaml_scan.proofs.CountedMarks.CallMarks.{call_is_counted}
use Rattle.yaml_scan.proofs.RunningCalls.CallAnswers.{at_start, bare}
use Rattle.yaml_scan.proofs.Texts.AnswerLocality.{scanned_alike}
use Rattle.yaml_scan.proofs.parser.yaml_parser_scan.Goals as goal

pub scan-requires-clause-is : goal.scan-requires-clause-is
scan-requires-clause-is c = c.parser.invariant.scanner

pub scan-requires-clause-part : goal.scan-requires-clause-part
scan-requires-clause-part c = c.parser.invariant.part

pub invariant_of-parser : goal.invariant_of-parser
invariant_of-parser c = record { scanner = c.scan.ensures.is; part = c.scan.ensures.part; empty = c.parser.invariant.empty }

pub returns : goal.returns
returns c =
    let p = c.args.parser.now in
    let x = scan_result c.scan.result in
    let q = parser_of (scan_of c.parser.inside.input.now c.scan.new.self) in
    let a : Calls decoded_input SCAN p x q = subst (λ (z : Parser). Calls decoded_input SCAN z x q) c.parser.view_is c.scan.ensures.answers in
    record { answers = a; bare = bare SCAN p x q a; at_start = at_start SCAN p x q a; local = scanned_alike p x q a; marks = call_is_counted SCAN p x q a }
