use Rattle.yaml_scan.proofs.parser.yaml_parser_t.with_key_limit.Goals as goal

pub invariant_of-result : goal.invariant_of-result
invariant_of-result c = record { scanner = c.with_key_limit.ensures.is c.args.input.now; part = tt; empty = c.empty.ensures }

pub returns : goal.returns
returns c = c.with_key_limit.ensures.new c.args.input.now
