use Rattle.std.proofs.Common.{◌≡◌, true, ap, ◌∙◌}
use Rattle.yaml_text.specs.Decode.{front}
use Rattle.yaml_scan.specs.Parser.{Parser}
use Rattle.yaml_scan.specs.ParserCalls.{after_call}
use Rattle.yaml_scan.specs.Session.Call.{SKIP}
use Rattle.yaml_scan.specs.inside.Kept.{scan_of}
use Rattle.yaml_scan.proofs.RunningCalls.KeptCalls.{is_left, part_goes_on, settled_shown}
use Rattle.yaml_scan.proofs.parser.yaml_parser_skip.Goals as goal

pub take-requires : goal.take-requires
take-requires c = let P = c.parser.inside in
    let e : P.scanner.session.peeked ≡ true = ap (λ (z : Parser). z.session.peeked) c.parser.view_is ∙ c.requires in
    (front P.scanner.setting P.input.now, scan_of P.input.now P.scanner, (settled_shown P.input.now P.scanner c.parser.invariant.scanner e).1)

pub invariant_of-parser : goal.invariant_of-parser
invariant_of-parser c = let P = c.parser.inside in
    let e : P.scanner.session.peeked ≡ true = ap (λ (z : Parser). z.session.peeked) c.parser.view_is ∙ c.requires in
    let k = settled_shown P.input.now P.scanner c.parser.invariant.scanner e in
    let t = c.take.ensures (front P.scanner.setting P.input.now) (scan_of P.input.now P.scanner) k.1 in
    record { scanner = is_left P.input.now P.scanner P.scanner k.0 c.take.new.self t.stands.sound; part = part_goes_on P.input.now P.scanner c.take.new.self P.part (λ m. t.stands.begun) c.parser.invariant.part; empty = c.parser.invariant.empty }

pub returns : goal.returns
returns c = let P = c.parser.inside in
    let e : P.scanner.session.peeked ≡ true = ap (λ (z : Parser). z.session.peeked) c.parser.view_is ∙ c.requires in
    let k = settled_shown P.input.now P.scanner c.parser.invariant.scanner e in
    let t = c.take.ensures (front P.scanner.setting P.input.now) (scan_of P.input.now P.scanner) k.1 in
    t.skips e ∙ ap (λ (z : Parser). after_call z SKIP) c.parser.view_is
