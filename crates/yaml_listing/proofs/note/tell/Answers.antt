use Rattle.std.proofs.Common.{rules}
use Rattle.yaml_listing.proofs.note.tell.Goals as goal

pub returns-clause-done : goal.returns-clause-done
returns-clause-done g c = search rules

pub returns-clause-cut : goal.returns-clause-cut
returns-clause-cut g c = search rules
