use Rattle.std.proofs.Common.{rules}
use Rattle.yaml_text.proofs.classes.breaks_at.Goals as goal

pub returns-in_default-matches : goal.returns-in_default-matches
returns-in_default-matches c = search rules
