use Rattle.std.proofs.Common.{◌≡◌, length}
use Rattle.yaml_lexeme.specs.Place.{after_run}
use Rattle.yaml_lexeme.specs.inside.Runs.{class_test}
use Rattle.yaml_lexeme.proofs.place.cursor_t.run.Given as goal

abbrev pub invariant-run : goal.invariant-run
invariant-run l = after_run (class_test l.class) l.self ≡ after_run (class_test l.class) l.fn.self

abbrev pub decreases-run : goal.decreases-run
decreases-run l = length l.self.rest
