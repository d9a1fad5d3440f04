use Rattle.std.proofs.Common.{◌++◌, ◌∷◌, [], List, append_assoc, ◌∙◌}
use Rattle.std.specs.Prelude.{if◌then◌else◌}
use Rattle.yaml_scan.specs.Groups.{Token}
use Rattle.yaml_scan.specs.Groups.Token.{InsertedKey}
use Rattle.yaml_scan.specs.inside.Handed.{told_leads}
use Rattle.yaml_scan.specs.inside.Queue.{ends_at, starts_at}
use Rattle.yaml_scan.proofs.RunningQueue.GroupTokens.{cut_longer, gives_after, told_append}
use Rattle.yaml_scan.proofs.sink.give_leads.Goals as goal

pub returns-in-Ok : goal.returns-in-Ok
returns-in-Ok g c =
    let m = c.args.mark in
    let ks : List Token = if c.args.key then InsertedKey m ∷ [] else [] in
    rw (← append_assoc (ends_at c.args.ends m) (starts_at c.args.opens m) ks, told_append (ends_at c.args.ends m ++ starts_at c.args.opens m) ks)
    (gives_after g.S.yaml_token_sink_t.took g.met.S.yaml_token_sink_t.took_more c.args.sink.now c.give_any_blocks.new.sink c.give_key.new.sink _ (told_leads (ends_at c.args.ends m ++ starts_at c.args.opens m)) (told_leads ks) c.give_key.result c.in-Ok.ensures c.give_key.ensures)

pub returns-in-Err : goal.returns-in-Err
returns-in-Err g c =
    let m = c.args.mark in
    let ks : List Token = if c.args.key then InsertedKey m ∷ [] else [] in
    let e = c.in-Err.ensures in
    rw (← append_assoc (ends_at c.args.ends m) (starts_at c.args.opens m) ks, told_append (ends_at c.args.ends m ++ starts_at c.args.opens m) ks)
    (c.stopped.ensures ∙ e.0, cut_longer (λ ts. g.S.yaml_token_sink_t.took c.args.sink.now ts c.give_any_blocks.new.sink) (told_leads (ends_at c.args.ends m ++ starts_at c.args.opens m)) (told_leads ks) e.1, e.2)
