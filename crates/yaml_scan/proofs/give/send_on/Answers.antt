use Rattle.std.proofs.Common.{Bool, true, false, not, [], List, Ok, subst, sym}
use Rattle.std.proofs.lemmas.Result.{err_from_is_err_and}
use Rattle.yaml_scan.specs.Token.{yaml_token_t}
use Rattle.yaml_scan.specs.Words.{HaveWords}
use Rattle.yaml_scan.specs.inside.Scanner.{scanner_of}
use Rattle.yaml_scan.specs.inside.Scanning.{Settles}
use Rattle.yaml_scan.specs.inside.Sent.{DrainsOrStays, SendsOrSettles}
use Rattle.yaml_scan.proofs.RunningCalls.DrainedTokens.{drained}
use Rattle.yaml_scan.proofs.RunningCalls.GivenTokens.{told_as}
use Rattle.yaml_scan.proofs.RunningCalls.StepsMade.{open_too}
use Rattle.yaml_scan.proofs.give.send_on.Goals as goal

-- NO TOKEN COMES
pub returns-in_err-send_or_settle-clause-sends : goal.returns-in_err-send_or_settle-clause-sends
returns-in_err-send_or_settle-clause-sends g c =
    let p = err_from_is_err_and c.from_residual.result c.from_residual.ensures.1 in
    rw (p.1, p.2) c.in_err-send_or_settle.ensures.sends

-- THE TOKENS OF A STEP WENT TO THE SINK
pub returns-then-not-branch-clause-sends : goal.returns-then-not-branch-clause-sends
returns-then-not-branch-clause-sends g c =
    let s = (scanner_of c.args.text.now c.args.state.now) in
    let t = (scanner_of c.args.text.now c.send_or_settle.new.state) in
    subst (λ (b : Bool). SendsOrSettles s t (λ ts. g.S.yaml_token_sink_t.took c.args.sink.now ts c.send_or_settle.new.sink) g.S.yaml_token_sink_t.may_refuse (Ok b)) c.if-not-branch.true c.in_ok-send_or_settle.ensures.sends

-- GROUPS OF THE QUEUE GO THERE TOO
pub drain-requires-clause-still_open : goal.drain-requires-clause-still_open
drain-requires-clause-still_open g c =
    let s = (scanner_of c.args.text.now c.args.state.now) in
    let t = (scanner_of c.args.text.now c.send_or_settle.new.state) in
    let w = subst (λ (b : Bool). SendsOrSettles s t (λ ts. g.S.yaml_token_sink_t.took c.args.sink.now ts c.send_or_settle.new.sink) g.S.yaml_token_sink_t.may_refuse (Ok b)) c.if-not-branch.false c.in_ok-send_or_settle.ensures.sends in
    let k = w.0 in
    open_too s t k.runs k.same c.requires.still_open

pub drain-requires-clause-words : goal.drain-requires-clause-words
drain-requires-clause-words g c =
    let s = (scanner_of c.args.text.now c.args.state.now) in
    let t = (scanner_of c.args.text.now c.send_or_settle.new.state) in
    let w = subst (λ (b : Bool). SendsOrSettles s t (λ ts. g.S.yaml_token_sink_t.took c.args.sink.now ts c.send_or_settle.new.sink) g.S.yaml_token_sink_t.may_refuse (Ok b)) c.if-not-branch.false c.in_ok-send_or_settle.ensures.sends in
    let k = w.0.same in
    subst (λ (z : List yaml_token_t). HaveWords z) (sym (told_as s t k.text k.refusal k.limit)) c.requires.words

pub returns-clause-sends : goal.returns-clause-sends
returns-clause-sends g c = go c.drain.result c.drain.ensures.drains
  where
    w : Settles (scanner_of c.args.text.now c.args.state.now) (scanner_of c.args.text.now c.send_or_settle.new.state) × g.S.yaml_token_sink_t.took c.args.sink.now [] c.send_or_settle.new.sink
    w = subst (λ (b : Bool). SendsOrSettles (scanner_of c.args.text.now c.args.state.now) (scanner_of c.args.text.now c.send_or_settle.new.state) (λ ts. g.S.yaml_token_sink_t.took c.args.sink.now ts c.send_or_settle.new.sink) g.S.yaml_token_sink_t.may_refuse (Ok b)) c.if-not-branch.false c.in_ok-send_or_settle.ensures.sends

    go : (b : Bool) → DrainsOrStays (scanner_of c.args.text.now c.send_or_settle.new.state) (scanner_of c.args.text.now c.drain.new.state) (λ ts. g.S.yaml_token_sink_t.took c.send_or_settle.new.sink ts c.drain.new.sink) b
        → SendsOrSettles (scanner_of c.args.text.now c.args.state.now) (scanner_of c.args.text.now c.drain.new.state) (λ ts. g.S.yaml_token_sink_t.took c.args.sink.now ts c.drain.new.sink) g.S.yaml_token_sink_t.may_refuse (Ok (not b))
    go true d = (
      d.0,
      drained (scanner_of c.args.text.now c.args.state.now) (scanner_of c.args.text.now c.send_or_settle.new.state) (scanner_of c.args.text.now c.drain.new.state) d.0 w.0 d.1 d.2,
      g.met.S.yaml_token_sink_t.took_more c.args.sink.now c.send_or_settle.new.sink c.drain.new.sink [] d.0 w.1 d.3,
    )
    go false d = (
      rw d.0 w.0,
      g.met.S.yaml_token_sink_t.took_more c.args.sink.now c.send_or_settle.new.sink c.drain.new.sink [] [] w.1 d.1,
    )
