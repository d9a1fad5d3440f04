use Rattle.std.proofs.Common.{Bool, refl, sym, subst}
use Rattle.yaml_scan.specs.Decoded.{decoded_input}
use Rattle.yaml_scan.specs.Token.{yaml_token_t}
use Rattle.yaml_scan.specs.Headline.{Calls}
use Rattle.yaml_scan.specs.inside.Shown.{Shows}
use Rattle.yaml_scan.specs.Session.Call.{PEEK}
use Rattle.yaml_scan.specs.Session.Answer.{PEEKED, FAULT}
use Rattle.yaml_text.specs.Fault.{fault_of}
use Rattle.yaml_text.specs.Token.{token_of}
use Rattle.yaml_scan.proofs.CountedMarks.CallMarks.{call_is_counted}
use Rattle.yaml_scan.proofs.Texts.AnswerLocality.{peeked_alike}
use Rattle.yaml_scan.proofs.RunningCalls.CallAnswers.{fault_shown, bare, at_start}
use Rattle.yaml_scan.proofs.parser.yaml_parser_peek.Goals as goal

pub last_fault-requires : goal.last_fault-requires
last_fault-requires c = let w = subst (λ (b : Bool). Shows c.args.parser.now b c.show.new.self) c.if-show.false c.show.ensures in (w.0, w.1)

pub returns-then-show : goal.returns-then-show
returns-then-show c = let p = c.args.parser.now in let q = c.show.new.self in
    let s = subst (λ (b : Bool). Shows p b q) c.if-show.true c.show.ensures in
    let k = subst (λ (t : yaml_token_t). Calls decoded_input PEEK p (PEEKED t) q) (sym c.shown.ensures) s in
    ((refl, (λ _. tt), k), record { answers = tt; shows = (q, k); bare = λ n. (bare PEEK p (PEEKED (token_of c.shown.result.now)) q k n).0; at_start = λ n. (at_start PEEK p (PEEKED (token_of c.shown.result.now)) q k n).0; local = peeked_alike p (PEEKED (token_of c.shown.result.now)) q k; marks = call_is_counted PEEK p (PEEKED (token_of c.shown.result.now)) q k })

pub returns-else-show : goal.returns-else-show
returns-else-show c = let p = c.args.parser.now in let q = c.show.new.self in let f = fault_of c.last_fault.result in
    let k = fault_shown p q f (subst (λ (b : Bool). Shows p b q) c.if-show.false c.show.ensures) c.last_fault.ensures in
    ((refl, (λ _. tt), k), record { answers = tt; shows = (q, k); bare = λ n. (bare PEEK p (FAULT f) q k n).0; at_start = λ n. (at_start PEEK p (FAULT f) q k n).0; local = peeked_alike p (FAULT f) q k; marks = call_is_counted PEEK p (FAULT f) q k })
