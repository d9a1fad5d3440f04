use Rattle.std.proofs.Common.{rules}
use Rattle.yaml_text.proofs.kept.yaml_kept_text_t.part.Goals as goal

pub borrowed_text-requires : goal.borrowed_text-requires
borrowed_text-requires c = search rules

pub returns-in-None-clause-again : goal.returns-in-None-clause-again
returns-in-None-clause-again c = search rules
