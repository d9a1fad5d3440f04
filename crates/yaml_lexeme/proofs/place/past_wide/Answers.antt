use Rattle.std.proofs.Common.{◌∙◌, ap, sym, subst, arith}
use Rattle.std.specs.Str.{chars}
use Rattle.yaml_text.specs.TextBytes.{IsText}
use Rattle.std.proofs.lemmas.Grind.{common_steps}
use Rattle.yaml_lexeme.proofs.Places.FirstCharacters.{past}
use Rattle.yaml_lexeme.proofs.place.past_wide.Goals as goal

pub returns-clause-text : goal.returns-clause-text
returns-clause-text c = subst IsText (sym c.rest.ensures) (past c.args.bytes.now c.min-width.result c.requires (grind (arith, common_steps))).text

pub returns-clause-rest : goal.returns-clause-rest
returns-clause-rest c = ap chars c.rest.ensures ∙ (past c.args.bytes.now c.min-width.result c.requires (grind (arith, common_steps))).rest
