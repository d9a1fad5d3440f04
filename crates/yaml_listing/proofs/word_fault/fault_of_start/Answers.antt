use Rattle.std.proofs.Common.{rules}
use Rattle.yaml_listing.proofs.word_fault.fault_of_start.Goals as goal

pub returns-in-None-clause-some : goal.returns-in-None-clause-some
returns-in-None-clause-some c = search rules
