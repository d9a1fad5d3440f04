use Rattle.yaml_scan.proofs.RunningCalls.KeptCalls.{shows_so}
use Rattle.yaml_scan.proofs.parser.yaml_parser_t.show.Goals as goal

pub show-requires-clause-is : goal.show-requires-clause-is
show-requires-clause-is c = c.self.invariant.scanner

pub show-requires-clause-part : goal.show-requires-clause-part
show-requires-clause-part c = c.self.invariant.part

pub invariant_of-self : goal.invariant_of-self
invariant_of-self c = record { scanner = c.show.ensures.is; part = c.show.ensures.part; empty = c.self.invariant.empty }

pub returns : goal.returns
returns c = let P = c.self.inside in
    shows_so c.args.self.now P.input.now P.scanner c.show.new.self c.self.view_is c.self.invariant.scanner c.show.result c.show.ensures.over c.show.ensures.shows c.show.ensures.fault
