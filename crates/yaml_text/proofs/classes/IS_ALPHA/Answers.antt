use Rattle.std.proofs.Common.{◌∙◌, ap}
use Rattle.yaml_text.specs.Classes.{is_alpha}
use Rattle.yaml_text.proofs.Characters.ClassTables.{alpha_law}
use Rattle.yaml_text.proofs.classes.IS_ALPHA.Goals as goal

pub returns-clause-character : goal.returns-clause-character
returns-clause-character c = λ char stands. c.is_alpha_byte.ensures ∙ ap is_alpha c.byte_at.ensures ∙ alpha_law _ _ char stands
