use Rattle.std.proofs.Common.{Bool, Err, List, [], ◌∷◌, Option, None, Some, false, refl, sym, ap, ◌∙◌, subst, arith}
use Rattle.yaml_text.specs.Decode.{front}
use Rattle.yaml_text.specs.Fault.{Fault}
use Rattle.yaml_text.specs.Token.{token_of}
use Rattle.yaml_text.specs.declared.token.yaml_token_t.{yaml_token_t as code_token_t}
use Rattle.yaml_scan.specs.All.{ReadsAll}
use Rattle.yaml_scan.specs.Decoded.{decoded_input}
use Rattle.yaml_scan.specs.Scanned.{GoesOnBy, ReadsNext}
use Rattle.yaml_scan.specs.Token.{yaml_token_t, type_of}
use Rattle.yaml_scan.specs.TokenTypes.{is_last_type}
use Rattle.yaml_scan.specs.Session.Answer.{FAULT, TOKEN}
use Rattle.yaml_scan.specs.Session.Call.{SCAN}
use Rattle.yaml_scan.specs.Parser.{Parser}
use Rattle.yaml_scan.specs.ParserCalls.{scan_result}
use Rattle.yaml_scan.specs.Headline.{Calls}
use Rattle.yaml_scan.specs.inside.Kept.{scan_of}
use Rattle.yaml_scan.specs.inside.Ready.{Scan, parser_of}
use Rattle.yaml_scan.specs.inside.Sent.{IsPutOrReturned}
use Rattle.yaml_scan.proofs.RunningCalls.KeptCalls.{at_setting, is_left, is_left_so, part_ended, part_goes_on, same_fault, scan_stops, stopped_left, with_its}
use Rattle.yaml_scan.proofs.RunningCalls.ScansToTheEnd.{scans_fault, scans_on}
use Rattle.yaml_scan.proofs.SessionCalls.CallWords.{scan_has_words}
use Rattle.yaml_scan.proofs.give.yaml_scan_next_to.Goals as goal

pub send-requires-clause-is : goal.send-requires-clause-is
send-requires-clause-is g c = c.parser-2.invariant.scanner

pub send-requires-clause-still_open : goal.send-requires-clause-still_open
send-requires-clause-still_open g c = let both = c.parser-2.view_is ∙ sym c.parser.view_is in ap (λ (p : Parser). p.session.over) both ∙ c.if-parser.false

pub send-requires-clause-part : goal.send-requires-clause-part
send-requires-clause-part g c = c.parser-2.invariant.part

-- THE TOKENS OF A STEP WENT TO THE SINK
pub invariant_of-parser-then-not-settled : goal.invariant_of-parser-then-not-settled
invariant_of-parser-then-not-settled g c = let P = c.parser-2.inside in
    let x = P.input.now in
    let k = P.scanner in
    let l = c.send.new.self in
    let z = c.in-Ok-send.ensures.sends in
    let t = z.2 c.if-not-settled.true in
    record { scanner = is_left_so x k l z.0 t.3.sound; part = c.in-Ok-send.ensures.part; empty = c.parser-2.invariant.empty }

pub returns-then-not-settled-clause-next : goal.returns-then-not-settled-clause-next
returns-then-not-settled-clause-next g c = let P = c.parser-2.inside in
    let x = P.input.now in
    let k = P.scanner in
    let l = c.send.new.self in
    let t = c.in-Ok-send.ensures.sends.2 c.if-not-settled.true in
    let q = parser_of (scan_of x l) in (
      t.0,
      t.2,
      t.1,
      subst (λ (z : Parser). GoesOnBy z t.0 q false) c.parser-2.view_is (subst (λ (b : Bool). GoesOnBy (parser_of (scan_of x k)) t.0 q b) t.4 t.3.on),
    )

-- THE NEXT TOKEN GOES TO THE SINK, OR IS RETURNED
read_next : (p q : Parser) (x : yaml_token_t) (took more : List yaml_token_t → Type 0) (o : Option code_token_t) → GoesOnBy p (x ∷ []) q (is_last_type (type_of x.token_data)) → ((ts : List yaml_token_t) → more ts → took ts)
    → IsPutOrReturned x more o → ReadsNext p q took o
read_next p q x took more None n f w = (x ∷ [], omega arith, f (x ∷ []) w.0, subst (λ (b : Bool). GoesOnBy p (x ∷ []) q b) w.1 n)
read_next p q x took more (Some t) n f w = (f [] w.0, subst (λ (y : yaml_token_t). GoesOnBy p (y ∷ []) q (is_last_type (type_of y.token_data))) (sym w.1) n)

pub take-token-requires : goal.take-token-requires
take-token-requires g c = let P = c.parser-2.inside in
    (front P.scanner.setting P.input.now, scan_of P.input.now P.scanner, (c.in-Ok-send.ensures.sends.1 c.if-not-settled.false).0)

pub invariant_of-parser-2 : goal.invariant_of-parser-2
invariant_of-parser-2 g c = let P = c.parser-2.inside in
    let x = P.input.now in
    let k = P.scanner in
    let l = c.send.new.self in
    let z = c.in-Ok-send.ensures.sends in
    let t = c.take-token.ensures (front k.setting x) (scan_of x k) (z.1 c.if-not-settled.false).0 in
    let s = c.take-token.new.self in
    record { scanner = is_left x k l z.0 s t.stands.sound; part = part_goes_on x l s c.send.new.part (λ m. t.stands.begun) c.in-Ok-send.ensures.part; empty = c.parser-2.invariant.empty }

pub put_or_return-requires-clause-words : goal.put_or_return-requires-clause-words
put_or_return-requires-clause-words g c = let P = c.parser-2.inside in
    let x = P.input.now in
    let k = P.scanner in
    let l = c.send.new.self in
    let z = c.in-Ok-send.ensures.sends in
    let i = scan_of x k in
    let t = c.take-token.ensures (front k.setting x) i (z.1 c.if-not-settled.false).0 in
    scan_has_words (parser_of i) (token_of c.take-token.result) _ t.call

pub returns-clause-next : goal.returns-clause-next
returns-clause-next g c = let P = c.parser-2.inside in
    let x = P.input.now in
    let k = P.scanner in
    let l = c.send.new.self in
    let z = c.in-Ok-send.ensures.sends in
    let i = scan_of x k in
    let y = token_of c.take-token.result in
    let w = z.1 c.if-not-settled.false in
    let t = c.take-token.ensures (front k.setting x) i w.0 in
    let s = c.take-token.new.self in
    let p = c.args.parser.now in
    let q = parser_of (scan_of x (with_its l s)) in
    let call : Calls decoded_input SCAN p (TOKEN y) q = subst (λ (o : Parser). Calls decoded_input SCAN o (TOKEN y) q) c.parser-2.view_is (at_setting x k l z.0.setting s (λ (j : Scan). Calls decoded_input SCAN (parser_of i) (TOKEN y) (parser_of j)) t.call) in
    let b = c.args.sink.now in
    let f = c.put_or_return.new.sink in
    read_next p q y (λ ts. g.S.yaml_token_sink_t.took b ts f) (λ ts. g.S.yaml_token_sink_t.took c.send.new.sink ts f) c.put_or_return.result
    (λ given h. (scans_on p.limit p.setting p.input p given h y q (is_last_type (type_of y.token_data)) refl call).0)
    (λ ts n. g.met.S.yaml_token_sink_t.took_more b c.send.new.sink f [] ts w.1 n) c.put_or_return.ensures.put

-- NO TOKEN COMES
pub invariant_of-parser : goal.invariant_of-parser
invariant_of-parser g c = let P = c.parser-2.inside in
    let x = P.input.now in
    let k = P.scanner in
    let l = c.send.new.self in
    let z = c.in-Err-send.ensures.sends.0 in
    let d = c.close.ensures in
    record { scanner = stopped_left x k l z.0 k.session d.0 _ d.1 z.1 c.close.new.self d.2; part = part_ended x l c.send.new.part d.0 c.close.new.self d.2 c.in-Err-send.ensures.part; empty = c.parser-2.invariant.empty }

pub returns-in-Err-send-clause-ended : goal.returns-in-Err-send-clause-ended
returns-in-Err-send-clause-ended g c = let P = c.parser-2.inside in
    let x = P.input.now in
    let k = P.scanner in
    let l = c.send.new.self in
    let z = c.in-Err-send.ensures.sends.0 in
    let d = c.close.ensures in
    let q = parser_of (scan_of x (with_its l c.close.new.self)) in
    let e = same_fault l.session c.close.new.self d.0 c.in-Some.fault.now d.2 (rw c.in-Some.is at c.fault.ensures) in
    subst (λ (f : Fault). Calls decoded_input SCAN c.args.parser.now (FAULT f) q) e (subst (λ (o : Parser). Calls decoded_input SCAN o (scan_result (Err d.0)) q) c.parser-2.view_is (scan_stops x k l z.0 k.session d.0 _ d.1 z.1 c.close.new.self d.2))

pub returns-in-Err-send-clause-fault : goal.returns-in-Err-send-clause-fault
returns-in-Err-send-clause-fault g c = λ given h. let P = c.parser-2.inside in
    let x = P.input.now in
    let k = P.scanner in
    let l = c.send.new.self in
    let z = c.in-Err-send.ensures.sends.0 in
    let d = c.close.ensures in
    let p = c.args.parser.now in
    let q = parser_of (scan_of x (with_its l c.close.new.self)) in
    let e = same_fault l.session c.close.new.self d.0 c.in-Some.fault.now d.2 (rw c.in-Some.is at c.fault.ensures) in
    subst (λ (f : Fault). ReadsAll p.limit p.setting p.input given (Some f)) e
    (scans_fault p.limit p.setting p.input p given h d.0 q
    (subst (λ (o : Parser). Calls decoded_input SCAN o (scan_result (Err d.0)) q) c.parser-2.view_is (scan_stops x k l z.0 k.session d.0 _ d.1 z.1 c.close.new.self d.2)))
