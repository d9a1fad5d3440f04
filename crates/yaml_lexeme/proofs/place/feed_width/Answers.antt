use Rattle.std.proofs.Common.{rules}
use Rattle.yaml_lexeme.proofs.place.feed_width.Goals as goal

pub returns-in-13 : goal.returns-in-13
returns-in-13 c = search rules
