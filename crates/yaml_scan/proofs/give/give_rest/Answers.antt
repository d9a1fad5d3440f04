use Rattle.std.proofs.Common.{List, [], ◌∷◌, ◌++◌, ◌∙◌, sym, inr}
use Rattle.std.proofs.lemmas.Result.{err_from_is_err_and}
use Rattle.yaml_scan.specs.Token.{yaml_token_t}
use Rattle.yaml_scan.specs.inside.Scanner.{scanner_of}
use Rattle.yaml_scan.proofs.RunningCalls.GivenTokens.{more_given, stops_on}
use Rattle.yaml_scan.proofs.RunningCalls.GivenToEnd.{fewer_follow, given_cut, given_end, given_on, given_words}
use Rattle.yaml_scan.proofs.give.give_rest.Goals as goal

pub returns-in_err-settle_to : goal.returns-in_err-settle_to
returns-in_err-settle_to g c =
    let a = (scanner_of c.args.text.now c.args.state.now) in
    let s = (scanner_of c.args.text.now c.tokens.state) in
    let i = c.tokens.invariant.0 c.tokens-test.true in
    let p = err_from_is_err_and c.from_residual.result c.from_residual.ensures.1 in
    rw (p.1, p.2) (stops_on a s i.0 i.1 (λ ys. g.S.yaml_token_sink_t.took c.args.sink.now ys c.settle_to.new.sink) (λ ys. g.S.yaml_token_sink_t.took c.tokens.sink ys c.settle_to.new.sink)
    (λ ys w. g.met.S.yaml_token_sink_t.took_more c.args.sink.now c.tokens.sink c.settle_to.new.sink i.0 ys i.2 w) c.settle_to.new.state.fault c.in_err-settle_to.field-0.0 g.S.yaml_token_sink_t.may_refuse c.in_err-settle_to.ensures)

pub give_next-requires-clause-words : goal.give_next-requires-clause-words
give_next-requires-clause-words g c =
    let a = (scanner_of c.args.text.now c.args.state.now) in
    let s = (scanner_of c.args.text.now c.tokens.state) in
    let u = (scanner_of c.args.text.now c.settle_to.new.state) in
    let i = c.tokens.invariant.0 c.tokens-test.true in
    let k = c.in_ok-settle_to.ensures in
    λ t x p. given_words a u t (i.0 ++ k.0) x (more_given a s u i.0 k.0 i.1 k.1) p c.requires.words

pub tokens-smaller : goal.tokens-smaller
tokens-smaller g c =
    let a = (scanner_of c.args.text.now c.args.state.now) in
    let s = (scanner_of c.args.text.now c.tokens.state) in
    let u = (scanner_of c.args.text.now c.settle_to.new.state) in
    let t = (scanner_of c.args.text.now c.give_next.new.state) in
    let n = c.in-Ok.ensures in
    let i = c.tokens.invariant.0 c.tokens-test.true in
    let k = c.in_ok-settle_to.ensures in
    fewer_follow a u t (i.0 ++ k.0) n.0 (more_given a s u i.0 k.0 i.1 k.1) n.1 s.taken (let h = k.1 in h.grows)

pub tokens-preserved : goal.tokens-preserved
tokens-preserved g c =
    let a = (scanner_of c.args.text.now c.args.state.now) in
    let s = (scanner_of c.args.text.now c.tokens.state) in
    let u = (scanner_of c.args.text.now c.settle_to.new.state) in
    let t = (scanner_of c.args.text.now c.give_next.new.state) in
    let n = c.in-Ok.ensures in
    let x = n.0 in
    let i = c.tokens.invariant.0 c.tokens-test.true in
    let k = c.in_ok-settle_to.ensures in
    let zs : List yaml_token_t = i.0 ++ k.0 in
    let h = more_given a s u i.0 k.0 i.1 k.1 in
    let p = n.1 in
    let last = n.2.0 in
    let took = g.met.S.yaml_token_sink_t.took_more c.args.sink.now c.settle_to.new.sink c.give_next.new.sink zs (x ∷ []) (g.met.S.yaml_token_sink_t.took_more c.args.sink.now c.tokens.sink c.settle_to.new.sink i.0 k.0 i.2 k.3) n.2.1 in (
      λ e. (zs ++ x ∷ [], given_on a u t zs x h p (sym last ∙ e), took),
      λ e. (let z = given_end a u t zs x h p (sym last ∙ e) in (zs ++ x ∷ [], z.0, z.1, took)),
    )

pub returns-in-Err : goal.returns-in-Err
returns-in-Err g c =
    let a = (scanner_of c.args.text.now c.args.state.now) in
    let s = (scanner_of c.args.text.now c.tokens.state) in
    let u = (scanner_of c.args.text.now c.settle_to.new.state) in
    let t = (scanner_of c.args.text.now c.give_next.new.state) in
    let n = c.in-Err.ensures in
    let x = n.0 in
    let i = c.tokens.invariant.0 c.tokens-test.true in
    let k = c.in_ok-settle_to.ensures in
    let zs : List yaml_token_t = i.0 ++ k.0 in
    let h = more_given a s u i.0 k.0 i.1 k.1 in
    let f = n.2 in
    let took = g.met.S.yaml_token_sink_t.took_more c.args.sink.now c.tokens.sink c.settle_to.new.sink i.0 k.0 i.2 k.3 in
    rw c.stopped.ensures (inr (
      f.0,
      given_cut a u t zs x h n.1 (λ ys. g.S.yaml_token_sink_t.took c.args.sink.now ys c.give_next.new.sink) (λ ys. g.S.yaml_token_sink_t.took c.settle_to.new.sink ys c.give_next.new.sink)
          (λ ys w. g.met.S.yaml_token_sink_t.took_more c.args.sink.now c.settle_to.new.sink c.give_next.new.sink zs ys took w) f.1,
      f.2,
    ))
