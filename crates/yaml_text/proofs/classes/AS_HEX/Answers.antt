use Rattle.std.proofs.Common.{◌≡◌, ◌∙◌, ◌-◌, ap, arith}
use Rattle.std.proofs.lemmas.Int.{ints}
use Rattle.yaml_text.specs.ClassCalls.{hex_value}
use Rattle.yaml_text.proofs.Characters.ClassTables.{same_hex}
use Rattle.yaml_text.proofs.classes.AS_HEX.Goals as goal

pub returns-clause-character : goal.returns-clause-character
returns-clause-character c = λ char stands.
    let same : c.byte_at-b.result - c.hex_excess.result ≡ hex_value char = c.hex_excess.ensures.value ∙ ap hex_value (c.byte_at-b.ensures ∙ same_hex _ _ char stands c.requires) in
    omega (arith, ints)
