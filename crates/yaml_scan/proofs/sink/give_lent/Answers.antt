use Rattle.std.proofs.Common.{◌++◌, ◌∷◌, [], ◌∙◌, sym, subst, ap}
use Rattle.yaml_text.specs.declared.types.yaml_mark_t.{yaml_mark_t}
use Rattle.yaml_text.specs.Token.{token_of}
use Rattle.yaml_scan.specs.Token.{yaml_token_t}
use Rattle.yaml_scan.specs.Lent.{lent_token}
use Rattle.yaml_scan.specs.inside.Handed.{Gives, IsCut, told_leads}
use Rattle.yaml_scan.specs.inside.Queue.{leads_at}
use Rattle.yaml_scan.proofs.RunningQueue.GroupTokens.{cut_longer, gives_after}
use Rattle.yaml_scan.proofs.sink.give_lent.Goals as goal

pub returns-in-Ok : goal.returns-in-Ok
returns-in-Ok g c = λ t T.
    let S = g.S.yaml_token_sink_t.took in
    let at = λ (m : yaml_mark_t). told_leads (leads_at c.args.ends c.args.opens c.args.key m) in
    let start = ap (λ (z : yaml_token_t). z.start_mark) T in
    let all = gives_after S g.met.S.yaml_token_sink_t.took_more c.args.sink.now c.give_leads.new.sink c.give_scalar.new.sink _ (at c.args.scalar.now.start_mark) (lent_token c.args.scalar.now ∷ []) c.give_scalar.result c.in-Ok.ensures c.give_scalar.ensures in
    subst (λ (m : yaml_mark_t). Gives (λ ts. S c.args.sink.now ts c.give_scalar.new.sink) g.S.yaml_token_sink_t.may_refuse (at m ++ token_of t ∷ []) c.give_scalar.result) (sym start)
    (subst (λ (z : yaml_token_t). Gives (λ ts. S c.args.sink.now ts c.give_scalar.new.sink) g.S.yaml_token_sink_t.may_refuse (at c.args.scalar.now.start_mark ++ z ∷ []) c.give_scalar.result) (sym T) all)

pub returns-in-Err : goal.returns-in-Err
returns-in-Err g c = λ t T.
    let S = g.S.yaml_token_sink_t.took in
    let at = λ (m : yaml_mark_t). told_leads (leads_at c.args.ends c.args.opens c.args.key m) in
    let start = ap (λ (z : yaml_token_t). z.start_mark) T in
    let e = c.in-Err.ensures in (
      c.stopped.ensures ∙ e.0,
      subst (λ (m : yaml_mark_t). IsCut (λ ts. S c.args.sink.now ts c.give_leads.new.sink) (at m ++ token_of t ∷ [])) (sym start)
          (cut_longer (λ ts. S c.args.sink.now ts c.give_leads.new.sink) (at c.args.scalar.now.start_mark) (token_of t ∷ []) e.1),
      e.2,
    )
