use Rattle.std.proofs.Common.{◌≡◌, sym, false}
use Rattle.yaml_lexeme.specs.Place.{first}
use Rattle.yaml_lexeme.specs.inside.Runs.{class_test}
use Rattle.yaml_lexeme.proofs.Places.PlaceMoves.{after_none}
use Rattle.yaml_lexeme.proofs.place.cursor_t.skip_rest.Goals as goal

pub returns-else-is_in : goal.returns-else-is_in
returns-else-is_in c =
    let off : class_test c.args.class (first c.args.self.now) ≡ false = cc in
    sym (after_none (class_test c.args.class) c.args.self.now off)
