use Rattle.std.proofs.Common.{◌≡◌}
use Rattle.yaml_text.specs.Fault.{fault_of}
use Rattle.yaml_text.specs.Token.{token_of}
use Rattle.yaml_scan.specs.Session.Answer.{FAULT, TOKEN}
use Rattle.yaml_scan.specs.Token.{empty, yaml_token_t}
use Rattle.yaml_scan.proofs.RunningCalls.CallAnswers.{scan_idle}
use Rattle.yaml_scan.proofs.RunningCalls.ScansToTheEnd.{scans_on, scans_fault}
use Rattle.yaml_scan.proofs.parser.yaml_scan_next.Goals as goal

pub returns-in-Err-clause-fault : goal.returns-in-Err-clause-fault
returns-in-Err-clause-fault c = λ given h. let p = c.args.parser.now in
    scans_fault p.limit p.setting p.input p given h c.in-Err.fault c.yaml_parser_scan.new.parser c.in-Err.ensures.answers

pub returns-in-Ok-clause-token : goal.returns-in-Ok-clause-token
returns-in-Ok-clause-token c = λ given h. let p = c.args.parser.now in
    (scans_on p.limit p.setting p.input p given h (token_of c.in-Ok.token) c.yaml_parser_scan.new.parser c.is_last-last.result c.is_last-last.ensures c.in-Ok.ensures.answers).0

-- AFTER THE END
one_token : (x y : yaml_token_t) → TOKEN x ≡ TOKEN y → x ≡ y
one_token x y e = cc

pub returns-in-Ok-clause-over : goal.returns-in-Ok-clause-over
returns-in-Ok-clause-over c = λ o.
    let z = scan_idle c.args.parser.now c.yaml_parser_scan.new.parser (TOKEN (token_of c.in-Ok.token)) o c.in-Ok.ensures.answers in
    (one_token (token_of c.in-Ok.token) empty z.0, z.1)

pub returns-in-Err-clause-over : goal.returns-in-Err-clause-over
returns-in-Err-clause-over c = λ o.
    let z = scan_idle c.args.parser.now c.yaml_parser_scan.new.parser (FAULT (fault_of c.in-Err.fault)) o c.in-Err.ensures.answers in
    let e : FAULT (fault_of c.in-Err.fault) ≡ TOKEN empty = z.0 in
    absurd (cc)
