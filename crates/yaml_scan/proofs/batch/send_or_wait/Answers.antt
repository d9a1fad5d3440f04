use Rattle.std.proofs.Common.{refl, sym, ap, ◌∙◌}
use Rattle.yaml_scan.specs.declared.session.session_t.{session_t}
use Rattle.yaml_scan.specs.inside.Ready.{scanner_in}
use Rattle.yaml_scan.specs.inside.Scanner.{scanner_of}
use Rattle.yaml_scan.proofs.RunningCalls.GivenToEnd.{words_then}
use Rattle.yaml_scan.proofs.RunningCalls.KeptTokens.{sends_next, settled_before}
use Rattle.yaml_scan.proofs.RunningCalls.ToNextToken.{sent_or_settled_in}
use Rattle.yaml_scan.proofs.batch.send_or_wait.Goals as goal

pub returns-then-session-clause-sends : goal.returns-then-session-clause-sends
returns-then-session-clause-sends g c = λ i b. (settled_before i c.args.text.now c.args.session.now b (sym (ap (λ (z : session_t). z.peeked) b.rest) ∙ c.if-session.true), g.met.S.yaml_token_sink_t.took_none c.args.sink.now)

pub send_on-requires-clause-words : goal.send_on-requires-clause-words
send_on-requires-clause-words g c =
    let s = scanner_of c.args.text.now c.args.session.now.state in
    let i = c.requires.at.0 in
    let b = c.requires.at.1.started in
    words_then s.limit i.setting i.input s b.stands refl

pub returns-clause-sends : goal.returns-clause-sends
returns-clause-sends g c = λ i b. sends_next i c.args.text.now c.args.session.now c.send_on.new.state (λ ts. g.S.yaml_token_sink_t.took c.args.sink.now ts c.send_on.new.sink) g.S.yaml_token_sink_t.may_refuse c.send_on.result b
    (sym (ap (λ (z : session_t). z.peeked) b.rest) ∙ c.if-session.false) c.requires.takes
    (sent_or_settled_in i.setting i.input (scanner_in i) (scanner_of c.args.text.now c.args.session.now.state) (scanner_of c.args.text.now c.send_on.new.state) b.started
    (λ ts. g.S.yaml_token_sink_t.took c.args.sink.now ts c.send_on.new.sink) g.S.yaml_token_sink_t.may_refuse c.send_on.result c.send_on.ensures.sends)
