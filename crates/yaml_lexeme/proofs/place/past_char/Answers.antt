use Rattle.std.proofs.Common.{◌<◌, length, ◌∙◌, ap, sym, subst, arith}
use Rattle.std.specs.Str.{chars}
use Rattle.yaml_text.specs.TextBytes.{IsText}
use Rattle.std.proofs.lemmas.Grind.{common_steps}
use Rattle.yaml_lexeme.proofs.Places.FirstCharacters.{past_ascii, none_past}
use Rattle.yaml_lexeme.proofs.place.past_char.Goals as goal

pub returns-then-is_empty-clause-rest : goal.returns-then-is_empty-clause-rest
returns-then-is_empty-clause-rest c = none_past c.args.bytes.now c.requires (grind (arith, common_steps))

pub returns-then-bytes-lt128-clause-text : goal.returns-then-bytes-lt128-clause-text
returns-then-bytes-lt128-clause-text c =
    let some : 0 < length c.args.bytes.now = grind (arith, common_steps) in
    subst IsText (sym c.rest.ensures) (past_ascii c.args.bytes.now c.requires some c.if-bytes-lt128.true).text

pub returns-then-bytes-lt128-clause-rest : goal.returns-then-bytes-lt128-clause-rest
returns-then-bytes-lt128-clause-rest c =
    let some : 0 < length c.args.bytes.now = grind (arith, common_steps) in
    ap chars c.rest.ensures ∙ (past_ascii c.args.bytes.now c.requires some c.if-bytes-lt128.true).rest
