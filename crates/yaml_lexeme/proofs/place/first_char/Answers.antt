use Rattle.std.proofs.Common.{arith, ◌∙◌, ap, sym, get_or, ℕ, List}
use Rattle.std.proofs.lemmas.Grind.{common_steps}
use Rattle.yaml_lexeme.proofs.Places.FirstCharacters.{ascii_head, none_left}
use Rattle.yaml_lexeme.proofs.place.first_char.Goals as goal

pub returns-then-is_empty : goal.returns-then-is_empty
returns-then-is_empty c =
    let none = none_left c.args.bytes.now c.requires (grind (arith, common_steps)) in
    ap (λ (x : List ℕ). get_or x 0 0) (sym none)

pub returns-then-b-lt128 : goal.returns-then-b-lt128
returns-then-b-lt128 c = c.from.ensures ∙ ascii_head c.args.bytes.now c.requires c.if-b-lt128.true
