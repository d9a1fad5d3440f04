use Rattle.std.proofs.Common.{rules, ◌∙◌}
use Rattle.yaml_text.proofs.Characters.ClassTables.{ascii_law}
use Rattle.yaml_text.proofs.classes.IS_ASCII.Goals as goal

pub returns-clause-bytes : goal.returns-clause-bytes
returns-clause-bytes c = search rules

pub returns-clause-character : goal.returns-clause-character
returns-clause-character c = λ char stands. returns-clause-bytes c ∙ ascii_law _ _ char stands
