use Rattle.yaml_scan.specs.inside.Handed.{told_leads}
use Rattle.yaml_scan.specs.inside.Queue.{ends_at, starts_at}
use Rattle.yaml_scan.proofs.RunningQueue.GroupTokens.{gives_after, told_append}
use Rattle.yaml_scan.proofs.sink.give_blocks.Goals as goal

pub returns : goal.returns
returns g c = let m = c.args.mark in let xs = ends_at c.args.ends m in let ys = starts_at c.args.opens m in
    rw (told_append xs ys)
    (gives_after g.S.yaml_token_sink_t.took g.met.S.yaml_token_sink_t.took_more c.args.sink.now c.give_ends.new.sink c.give_start.new.sink _ (told_leads xs) (told_leads ys) c.give_start.result c.in_ok-give_ends.ensures c.give_start.ensures)
