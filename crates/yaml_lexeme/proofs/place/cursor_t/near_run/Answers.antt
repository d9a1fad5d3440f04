use Rattle.std.proofs.Common.{◌≡◌, ◌∙◌, sym, ap, refl, length, arith}
use Rattle.yaml_lexeme.specs.Place.{after_run}
use Rattle.yaml_lexeme.specs.inside.Runs.{class_test}
use Rattle.yaml_lexeme.proofs.Places.CursorMoves.{run_bytes}
use Rattle.yaml_lexeme.proofs.Places.PlaceMoves.{after_none}
use Rattle.yaml_lexeme.proofs.place.cursor_t.near_run.Goals as goal

pub between-requires : goal.between-requires
between-requires c = omega (arith, ap length c.left-start.ensures, c.skip_quiet.ensures.fewer)

pub returns-clause-value : goal.returns-clause-value
returns-clause-value c = λ off.
    let test = class_test c.args.class in
    let q = c.skip_quiet.new.self in
    let e : q ≡ after_run test c.args.self.now = sym (after_none test q off) ∙ c.skip_quiet.ensures.goes in
    c.between.ensures ∙ (run_bytes test c.args.self.now q _ _ e c.left-start.ensures refl).1
