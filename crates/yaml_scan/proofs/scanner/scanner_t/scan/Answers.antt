use Rattle.std.proofs.Common.{sym, subst}
use Rattle.yaml_text.specs.Decode.{front}
use Rattle.yaml_text.specs.Fault.{Fault}
use Rattle.yaml_text.specs.Token.{token_of}
use Rattle.yaml_scan.specs.Decoded.{decoded_input}
use Rattle.yaml_scan.specs.Headline.{Calls}
use Rattle.yaml_scan.specs.Session.Call.{SCAN}
use Rattle.yaml_scan.specs.Session.Answer.{FAULT, TOKEN}
use Rattle.yaml_scan.specs.Token.{yaml_token_t}
use Rattle.yaml_scan.specs.inside.Kept.{scan_of}
use Rattle.yaml_scan.specs.inside.Ready.{parser_of}
use Rattle.yaml_scan.proofs.RunningCalls.CallAnswers.{scan_over}
use Rattle.yaml_scan.proofs.RunningCalls.KeptCalls.{at_setting, is_left, part_ended, part_goes_on, same_fault, scan_stops, stopped_left, with_its}
use Rattle.yaml_scan.proofs.scanner.scanner_t.scan.Goals as goal

pub returns-then-self-clause-answers : goal.returns-then-self-clause-answers
returns-then-self-clause-answers c = let p = parser_of (scan_of c.args.input.now c.args.self.now) in
    subst (λ (x : yaml_token_t). Calls decoded_input SCAN p (TOKEN x) p) (sym c.empty.ensures) (scan_over p c.if-self.true)

pub take-requires : goal.take-requires
take-requires c = (front c.args.self.now.setting c.args.input.now, scan_of c.args.input.now c.args.self.now, c.in-Ok.ensures.settles.1)

pub returns-in-Ok-clause-is : goal.returns-in-Ok-clause-is
returns-in-Ok-clause-is c = let k = c.in-Ok.ensures.settles in
    let t = c.take.ensures (front c.args.self.now.setting c.args.input.now) (scan_of c.args.input.now c.args.self.now) k.1 in
    is_left c.args.input.now c.args.self.now c.settle.new.self k.0 c.take.new.self t.stands.sound

pub returns-in-Ok-clause-answers : goal.returns-in-Ok-clause-answers
returns-in-Ok-clause-answers c = let k = c.in-Ok.ensures.settles in
    let i = scan_of c.args.input.now c.args.self.now in
    let t = c.take.ensures (front c.args.self.now.setting c.args.input.now) i k.1 in
    at_setting c.args.input.now c.args.self.now c.settle.new.self k.0.setting c.take.new.self (λ j. Calls decoded_input SCAN (parser_of i) (TOKEN (token_of c.take.result)) (parser_of j)) t.call

pub returns-in-Some-clause-is : goal.returns-in-Some-clause-is
returns-in-Some-clause-is c = let k = c.in-Err.ensures.settles in
    let d = c.close.ensures in
    stopped_left c.args.input.now c.args.self.now c.settle.new.self k.0 c.args.self.now.session d.0 _ d.1 k.1 c.close.new.self d.2

pub returns-in-Some-clause-answers : goal.returns-in-Some-clause-answers
returns-in-Some-clause-answers c = let k = c.in-Err.ensures.settles in
    let d = c.close.ensures in
    let l = c.settle.new.self in
    let i = scan_of c.args.input.now c.args.self.now in
    let q = parser_of (scan_of c.args.input.now (with_its l c.close.new.self)) in
    let e = same_fault l.session c.close.new.self d.0 c.in-Some.fault.now d.2 (rw c.in-Some.is at c.fault.ensures) in
    subst (λ (f : Fault). Calls decoded_input SCAN (parser_of i) (FAULT f) q) e (scan_stops c.args.input.now c.args.self.now l k.0 c.args.self.now.session d.0 _ d.1 k.1 c.close.new.self d.2)

pub returns-in-Ok-clause-part : goal.returns-in-Ok-clause-part
returns-in-Ok-clause-part c = let k = c.in-Ok.ensures.settles in
    let t = c.take.ensures (front c.args.self.now.setting c.args.input.now) (scan_of c.args.input.now c.args.self.now) k.1 in
    part_goes_on c.args.input.now c.settle.new.self c.take.new.self c.settle.new.part (λ m. t.stands.begun) c.in-Ok.ensures.part

pub returns-in-Some-clause-part : goal.returns-in-Some-clause-part
returns-in-Some-clause-part c = let d = c.close.ensures in part_ended c.args.input.now c.settle.new.self c.settle.new.part d.0 c.close.new.self d.2 c.in-Err.ensures.part
