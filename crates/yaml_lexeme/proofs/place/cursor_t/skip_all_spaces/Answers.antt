use Rattle.std.proofs.Common.{◌∙◌, arith, ap}
use Rattle.yaml_lexeme.specs.Place.{skip}
use Rattle.yaml_lexeme.proofs.place.cursor_t.skip_all_spaces.Goals as goal

pub returns : goal.returns
returns c = c.skip_spaces.ensures.value ∙ ap (λ i. skip i c.args.self.now) (omega (arith, c.skip_spaces.ensures.room))
