use Rattle.std.proofs.Common.{◌≡◌, true, false, List, [], ◌++◌, inl, inr}
use Rattle.std.proofs.lemmas.Result.{err_from_is_err_and}
use Rattle.yaml_text.specs.Token.{Token}
use Rattle.yaml_scan.specs.KeptCalls.{HasNoMoreRoom}
use Rattle.yaml_scan.specs.inside.KeptParts.{GoesOnTo, HasBegun, StopsAfter}
use Rattle.yaml_scan.specs.inside.Ready.{Scan, parser_of, with_session}
use Rattle.yaml_scan.specs.inside.Stop.{fault_at}
use Rattle.yaml_scan.proofs.RunningCalls.KeptTokens.{begun_again, goes_more, stops_later}
use Rattle.yaml_scan.proofs.batch.give_while_room.Goals as goal

pub give_or_show-requires-clause-at : goal.give_or_show-requires-clause-at
give_or_show-requires-clause-at g c =
    let r = c.requires.at in
    elim ((c.tokens.invariant.0 r.0 r.1).0 c.tokens-test.true) [
      | inl w ↦ (r.0, w.0)
      | inr w ↦ (with_session r.0 c.tokens.session, begun_again r.0 c.args.text.now c.tokens.session w.0 r.1.started.stands.text w.2 w.3)
    ]

pub returns-in_err-more-clause-gives : goal.returns-in_err-more-clause-gives
returns-in_err-more-clause-gives g c = λ i b.
    let p = err_from_is_err_and c.from_residual.result c.from_residual.ensures.1 in
    rw (p.1, p.2) (stops i b)
  where
    stops : (i : Scan) → HasBegun i c.args.text.now c.args.session.now
        → (tokens : List Token) × g.S.yaml_token_sink_t.took c.args.sink.now tokens c.give_or_show.new.sink
        × StopsAfter i c.give_or_show.new.session tokens (fault_at c.in_err-more.field-0.0 c.give_or_show.new.session.state.fault)
    stops i b =
        let f = fault_at c.in_err-more.field-0.0 c.give_or_show.new.session.state.fault in
        let more = g.met.S.yaml_token_sink_t.took_more c.args.sink.now c.tokens.sink c.give_or_show.new.sink in
        elim ((c.tokens.invariant.0 i b).0 c.tokens-test.true) [
          | inl w ↦ (let n = c.in_err-more.ensures.gives i w.0 in (n.0, more [] n.0 w.1 n.1, n.2))
          | inr w ↦ (let n = c.in_err-more.ensures.gives (with_session i c.tokens.session) (begun_again i c.args.text.now c.tokens.session w.0 b.started.stands.text w.2 w.3) in
              (w.0 ++ n.0, more w.0 n.0 w.1 n.1, stops_later i c.tokens.session c.give_or_show.new.session w.0 n.0 f w.2 w.3 n.2))
        ]

pub tokens-preserved : goal.tokens-preserved
tokens-preserved g c = (
  λ i b. let n = next i b in (λ q. inr (n.0, n.1, n.2, n.3 q), λ q. (n.0, n.1, n.2, n.4 q)),
  λ w. c.in_ok-more.ensures.within (c.tokens.invariant.1 w),
)
  where
    next : (i : Scan) → HasBegun i c.args.text.now c.args.session.now
        → (tokens : List Token) × g.S.yaml_token_sink_t.took c.args.sink.now tokens c.give_or_show.new.sink
        × GoesOnTo i (with_session i c.give_or_show.new.session) tokens
        × (c.in_ok-more.more ≡ true → c.give_or_show.new.session.over ≡ false)
        × (c.in_ok-more.more ≡ false → HasNoMoreRoom (g.S.yaml_token_sink_t.lacks c.give_or_show.new.sink) (parser_of (with_session i c.give_or_show.new.session)))
    next i b =
        let more = g.met.S.yaml_token_sink_t.took_more c.args.sink.now c.tokens.sink c.give_or_show.new.sink in
        elim ((c.tokens.invariant.0 i b).0 c.tokens-test.true) [
          | inl w ↦ (let n = c.in_ok-more.ensures.gives i w.0 in (n.0, more [] n.0 w.1 n.1, n.2, n.3, n.4))
          | inr w ↦ (let n = c.in_ok-more.ensures.gives (with_session i c.tokens.session) (begun_again i c.args.text.now c.tokens.session w.0 b.started.stands.text w.2 w.3) in
              (w.0 ++ n.0, more w.0 n.0 w.1 n.1, goes_more i (with_session i c.tokens.session) (with_session i c.give_or_show.new.session) w.0 n.0 w.2 w.3 n.2, n.3, n.4))
        ]
