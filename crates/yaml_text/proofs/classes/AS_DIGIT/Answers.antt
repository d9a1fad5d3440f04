use Rattle.std.proofs.Common.{◌≡◌, ◌∙◌, arith}
use Rattle.std.proofs.lemmas.Int.{ints}
use Rattle.yaml_text.proofs.Characters.ClassTables.{same_digit}
use Rattle.yaml_text.proofs.classes.AS_DIGIT.Goals as goal

pub returns-clause-character : goal.returns-clause-character
returns-clause-character c = λ char stands.
    let same : c.byte_at.result ≡ char = c.byte_at.ensures ∙ same_digit _ _ char stands c.requires in
    omega (arith, ints)
