use Rattle.std.proofs.Common.{rules}
use Rattle.yaml_listing.proofs.note.parse_word.Goals as goal

pub returns-in-text-2-clause-some : goal.returns-in-text-2-clause-some
returns-in-text-2-clause-some c = search rules
