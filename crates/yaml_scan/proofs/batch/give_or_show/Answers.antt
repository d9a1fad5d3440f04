use Rattle.std.proofs.Common.{◌∷◌, ◌-◌, [], Bool, Ok, length, subst}
use Rattle.std.proofs.lemmas.Bool.{false≢true}
use Rattle.std.proofs.lemmas.Result.{err_from_is_err_and}
use Rattle.yaml_scan.specs.inside.Given.{all_in}
use Rattle.yaml_scan.specs.inside.KeptParts.{SendsNext}
use Rattle.yaml_scan.specs.inside.Ready.{parser_of, scanner_in, with_session}
use Rattle.yaml_scan.specs.inside.Scanner.{scanner_of}
use Rattle.yaml_scan.proofs.RunningCalls.KeptFewer.{fewer_sent, fewer_then}
use Rattle.yaml_scan.proofs.RunningCalls.KeptTokens.{no_more, shown_turn, stops_after}
use Rattle.yaml_scan.proofs.batch.give_or_show.Goals as goal

-- NO TOKEN COMES
pub returns-in_err-send_or_wait-clause-gives : goal.returns-in_err-send_or_wait-clause-gives
returns-in_err-send_or_wait-clause-gives g c = λ i b.
    let p = err_from_is_err_and c.from_residual.result c.from_residual.ensures.1 in
    let w = c.in_err-send_or_wait.ensures.sends i b in
    rw (p.1, p.2) ([], w.1, stops_after i c.send_or_wait.new.session _ w.0)

-- THE TOKENS OF A STEP, OR OF GROUPS, WENT TO THE SINK
pub returns-then-not-branch-clause-gives : goal.returns-then-not-branch-clause-gives
returns-then-not-branch-clause-gives g c = λ i b.
    let s = c.send_or_wait.new.session in
    let w = subst (λ (z : Bool). SendsNext i c.args.text.now s (λ ts. g.S.yaml_token_sink_t.took c.args.sink.now ts c.send_or_wait.new.sink) (Ok z)) c.if-not-branch.true (c.in_ok-send_or_wait.ensures.sends i b) in
    (w.0, w.1, w.3, c.has_more.ensures.more, λ z. no_more (g.S.yaml_token_sink_t.lacks c.send_or_wait.new.sink) (parser_of (with_session i s)) (c.has_more.ensures.none z))

pub returns-then-not-branch-clause-fewer : goal.returns-then-not-branch-clause-fewer
returns-then-not-branch-clause-fewer g c = λ q.
    let i = c.requires.at.0 in
    let b = c.requires.at.1 in
    let s = c.send_or_wait.new.session in
    let w = subst (λ (z : Bool). SendsNext i c.args.text.now s (λ ts. g.S.yaml_token_sink_t.took c.args.sink.now ts c.send_or_wait.new.sink) (Ok z)) c.if-not-branch.true (c.in_ok-send_or_wait.ensures.sends i b) in
    fewer_sent i.setting i.input (scanner_in i) (scanner_of c.args.text.now c.args.session.now.state) (scanner_of c.args.text.now s.state) b.started w.0 w.2

-- THE NEXT TOKEN IS SHOWN
pub next_len-requires : goal.next_len-requires
next_len-requires g c =
    let i = c.requires.at.0 in
    let w = subst (λ (z : Bool). SendsNext i c.args.text.now c.send_or_wait.new.session (λ ts. g.S.yaml_token_sink_t.took c.args.sink.now ts c.send_or_wait.new.sink) (Ok z)) c.if-not-branch.false (c.in_ok-send_or_wait.ensures.sends i c.requires.at.1) in
    (c.args.text.now, i, w.0)

pub returns-then-not-has_room-clause-gives : goal.returns-then-not-has_room-clause-gives
returns-then-not-has_room-clause-gives g c = λ i b.
    let T = c.args.text.now in
    let w = subst (λ (z : Bool). SendsNext i T c.send_or_wait.new.session (λ ts. g.S.yaml_token_sink_t.took c.args.sink.now ts c.send_or_wait.new.sink) (Ok z)) c.if-not-branch.false (c.in_ok-send_or_wait.ensures.sends i b) in
    let z = c.show.ensures T i w.0 in (
      [],
      w.1,
      z.0.stands,
      λ q. absurd (false≢true q),
      λ q. shown_turn i (with_session i c.show.new.self) c.send_or_wait.new.session.state (g.S.yaml_token_sink_t.lacks c.send_or_wait.new.sink) c.next_len.result z.0 z.1 (c.next_len.ensures T i w.0) (c.has_room.ensures.lack c.if-not-has_room.true),
    )

-- THE NEXT TOKEN GOES TO THE SINK
pub give_settled-requires-clause-at : goal.give_settled-requires-clause-at
give_settled-requires-clause-at g c =
    let i = c.requires.at.0 in
    let w = subst (λ (z : Bool). SendsNext i c.args.text.now c.send_or_wait.new.session (λ ts. g.S.yaml_token_sink_t.took c.args.sink.now ts c.send_or_wait.new.sink) (Ok z)) c.if-not-branch.false (c.in_ok-send_or_wait.ensures.sends i c.requires.at.1) in
    (i, w.0)

pub returns-clause-gives : goal.returns-clause-gives
returns-clause-gives g c = λ i b.
    let w = subst (λ (z : Bool). SendsNext i c.args.text.now c.send_or_wait.new.session (λ ts. g.S.yaml_token_sink_t.took c.args.sink.now ts c.send_or_wait.new.sink) (Ok z)) c.if-not-branch.false (c.in_ok-send_or_wait.ensures.sends i b) in
    let n = c.give_settled.ensures.gives i w.0 in (
      n.0 ∷ [],
      g.met.S.yaml_token_sink_t.took_more c.args.sink.now c.send_or_wait.new.sink c.give_settled.new.sink [] (n.0 ∷ []) w.1 n.1,
      n.3,
      c.has_more-2.ensures.more,
      λ q. no_more (g.S.yaml_token_sink_t.lacks c.give_settled.new.sink) (parser_of (with_session i c.give_settled.new.session)) (c.has_more-2.ensures.none q),
    )

pub returns-clause-fewer : goal.returns-clause-fewer
returns-clause-fewer g c = λ q.
    let i = c.requires.at.0 in
    let b = c.requires.at.1 in
    let t = scanner_of c.args.text.now c.send_or_wait.new.session.state in
    let u = scanner_of c.args.text.now c.give_settled.new.session.state in
    let w = subst (λ (z : Bool). SendsNext i c.args.text.now c.send_or_wait.new.session (λ ts. g.S.yaml_token_sink_t.took c.args.sink.now ts c.send_or_wait.new.sink) (Ok z)) c.if-not-branch.false (c.in_ok-send_or_wait.ensures.sends i b) in
    fewer_then i.setting i.input (scanner_in i) (scanner_of c.args.text.now c.args.session.now.state) t b.started (length (all_in u) - u.taken) w.0.settled c.give_settled.ensures.fewer
