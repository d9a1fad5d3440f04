use Rattle.yaml_scan.proofs.sink.count_of.Goals as goal

pub returns : goal.returns
returns c = c.count_with.ensures c.args.group.now.token
