use Rattle.std.proofs.Common.{◌∙◌, ap}
use Rattle.yaml_text.specs.Utf8.{width_of}
use Rattle.yaml_text.proofs.Characters.ClassTables.{width_law}
use Rattle.yaml_text.proofs.classes.WIDTH.Goals as goal

pub returns-clause-character : goal.returns-clause-character
returns-clause-character c = λ char stands. c.width_of.ensures ∙ ap width_of c.byte_at.ensures ∙ width_law _ _ char stands
