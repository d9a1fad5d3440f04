use Rattle.std.proofs.Common.{List, ◌∷◌, [], ◌++◌, sym, subst, ◌∙◌}
use Rattle.yaml_text.specs.Token.{token_of}
use Rattle.yaml_scan.specs.Groups.{Token}
use Rattle.yaml_scan.specs.inside.Queue.{ends_at, starts_at}
use Rattle.yaml_scan.specs.inside.Handed.{Gives, IsCut, told_leads}
use Rattle.yaml_scan.proofs.RunningQueue.GroupTokens.{cut_longer, gives_after, keyless_leads}
use Rattle.yaml_scan.proofs.sink.give_keyless.Goals as goal

pub returns-in-Ok : goal.returns-in-Ok
returns-in-Ok g c =
    let y = c.args.group in
    let m = y.token.start_mark in
    let xs = ends_at y.ends m ++ starts_at y.opens m in
    subst (λ (ls : List Token). Gives (λ ts. g.S.yaml_token_sink_t.took c.args.sink.now ts c.give.new.sink) g.S.yaml_token_sink_t.may_refuse (told_leads ls ++ token_of y.token ∷ []) c.give.result) (sym (keyless_leads y c.requires.key))
    (gives_after g.S.yaml_token_sink_t.took g.met.S.yaml_token_sink_t.took_more c.args.sink.now c.give_any_blocks.new.sink c.give.new.sink _ (told_leads xs) (token_of y.token ∷ []) c.give.result c.in-Ok.ensures c.give.ensures)

pub returns-in-Err : goal.returns-in-Err
returns-in-Err g c =
    let y = c.args.group in
    let m = y.token.start_mark in
    let xs = ends_at y.ends m ++ starts_at y.opens m in
    let e = c.in-Err.ensures in
    (c.stopped.ensures ∙ e.0, subst (λ (ls : List Token). IsCut (λ ts. g.S.yaml_token_sink_t.took c.args.sink.now ts c.give_any_blocks.new.sink) (told_leads ls ++ token_of y.token ∷ [])) (sym (keyless_leads y c.requires.key)) (cut_longer (λ ts. g.S.yaml_token_sink_t.took c.args.sink.now ts c.give_any_blocks.new.sink) (told_leads xs) (token_of y.token ∷ []) e.1), e.2)
