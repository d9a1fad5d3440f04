use Rattle.std.proofs.Common.{◌∷◌, [], ◌∙◌}
use Rattle.yaml_text.specs.Token.{token_of}
use Rattle.yaml_scan.specs.inside.Handed.{told_leads}
use Rattle.yaml_scan.specs.inside.Queue.{leads}
use Rattle.yaml_scan.proofs.RunningQueue.GroupTokens.{cut_longer, gives_after}
use Rattle.yaml_scan.proofs.sink.give_group.Goals as goal

pub returns-in-Ok : goal.returns-in-Ok
returns-in-Ok g c = gives_after g.S.yaml_token_sink_t.took g.met.S.yaml_token_sink_t.took_more c.args.sink.now c.give_leads.new.sink c.give.new.sink _ (told_leads (leads c.args.group)) (token_of c.args.group.token ∷ []) c.give.result c.in-Ok.ensures c.give.ensures

pub returns-in-Err : goal.returns-in-Err
returns-in-Err g c =
    let e = c.in-Err.ensures in
    (c.stopped.ensures ∙ e.0, cut_longer (λ ts. g.S.yaml_token_sink_t.took c.args.sink.now ts c.give_leads.new.sink) (told_leads (leads c.args.group)) (token_of c.args.group.token ∷ []) e.1, e.2)
