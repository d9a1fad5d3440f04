use Rattle.std.proofs.Common.{◌∙◌, ap}
use Rattle.yaml_text.specs.Classes.{is_hex}
use Rattle.yaml_text.proofs.Characters.ClassTables.{hex_law}
use Rattle.yaml_text.proofs.classes.IS_HEX.Goals as goal

pub returns-clause-character : goal.returns-clause-character
returns-clause-character c = λ char stands. c.is_hex_byte.ensures ∙ ap is_hex c.byte_at.ensures ∙ hex_law _ _ char stands
