use Rattle.std.proofs.Common.{◌∷◌, [], List, subst}
use Rattle.std.proofs.lemmas.Result.{err_from_is_err_and}
use Rattle.yaml_scan.specs.Token.{yaml_token_t}
use Rattle.yaml_text.specs.Token.{token_of}
use Rattle.yaml_scan.specs.inside.Handed.{told_leads}
use Rattle.yaml_scan.specs.inside.Queue.{ends_at}
use Rattle.yaml_scan.proofs.RunningQueue.GroupTokens.{cut_ends, ends_more}
use Rattle.yaml_scan.proofs.sink.give_ends.Goals as goal

pub ends-preserved : goal.ends-preserved
ends-preserved g c =
    let t = g.S.yaml_token_sink_t.took in
    let xs = told_leads (ends_at c.ends.counter c.args.mark) in
    subst (λ (ts : List yaml_token_t). t c.args.sink.now ts c.give.new.sink) (ends_more c.ends.counter c.args.mark)
    (g.met.S.yaml_token_sink_t.took_more c.args.sink.now c.ends.sink c.give.new.sink xs _ c.ends.invariant (subst (λ (x : yaml_token_t). t c.ends.sink (x ∷ []) c.give.new.sink) c.token_at.ensures c.in_ok-give.ensures))

pub returns-in_err-give : goal.returns-in_err-give
returns-in_err-give g c =
    let p = err_from_is_err_and c.from_residual.result c.from_residual.ensures.1 in
    let e = c.in_err-give.ensures in
    rw (p.1, p.2)
    (e.0, cut_ends g.S.yaml_token_sink_t.took g.met.S.yaml_token_sink_t.took_more c.args.sink.now c.ends.sink c.give.new.sink c.ends.counter c.args.ends c.args.mark (token_of c.token_at.result) c.token_at.ensures c.ends-test.true c.ends.invariant e.1, e.2)
