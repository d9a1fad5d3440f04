use Rattle.std.proofs.Common.{[], sym, inl, inr}
use Rattle.std.proofs.lemmas.Result.{err_from_is_err_and}
use Rattle.yaml_text.specs.Decode.{front}
use Rattle.yaml_text.specs.Fault.{fault_of}
use Rattle.yaml_scan.proofs.RunningCalls.FedBegins.{has_begun, stops_new}
use Rattle.yaml_scan.proofs.fed.give_on.Goals as goal
use Rattle.yaml_scan.proofs.fed.give_on.Goals.{then-session-eq0+in_ok-begin_over, else-session-eq0}

pub returns-in_err-begin_over-clause-gives : goal.returns-in_err-begin_over-clause-gives
returns-in_err-begin_over-clause-gives g c = λ i I.
    let p = err_from_is_err_and c.from_residual.result c.from_residual.ensures.1 in
    rw (p.1, p.2) (
      [],
      g.met.S.yaml_token_sink_t.took_none c.args.sink.now,
      stops_new i c.args.text.now c.args.session.now (fault_of c.args.to_come) I c.if-session-eq0.true c.begin_over.new.state _
          (c.in_err-begin_over.ensures i.setting i.input I.is_front (sym I.is_refused) (front i.setting i.input)),
    )

pub give_while_room-requires-clause-at : goal.give_while_room-requires-clause-at
give_while_room-requires-clause-at g c = let r = c.requires.at in let i = r.0 in let I = r.1 in (
  i,
  has_begun i c.args.text.now c.args.session.now (fault_of c.args.to_come) I c.if-session-eq0.session (elim c.if-session-eq0.branch [
    | then-session-eq0+in_ok-begin_over w ↦ inl (w.if-session-eq0.true, (w.begin_over.new.state, w.in_ok-begin_over.ensures i.setting i.input I.is_front (sym I.is_refused) (front i.setting i.input), w.session-is))
    | else-session-eq0 w ↦ inr (w.if-session-eq0.false, w.session-is)
  ]),
)

pub returns-clause-gives : goal.returns-clause-gives
returns-clause-gives g c = λ i I. c.give_while_room.ensures.gives i (has_begun i c.args.text.now c.args.session.now (fault_of c.args.to_come) I c.if-session-eq0.session (elim c.if-session-eq0.branch [
  | then-session-eq0+in_ok-begin_over w ↦ inl (w.if-session-eq0.true, (w.begin_over.new.state, w.in_ok-begin_over.ensures i.setting i.input I.is_front (sym I.is_refused) (front i.setting i.input), w.session-is))
  | else-session-eq0 w ↦ inr (w.if-session-eq0.false, w.session-is)
]))
