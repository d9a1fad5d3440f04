use Rattle.std.proofs.Common.{◌≡◌, length}
use Rattle.yaml_lexeme.specs.Place.{after_run}
use Rattle.yaml_lexeme.specs.declared.runs.class_t.TheVariants.{BLANK}
use Rattle.yaml_lexeme.specs.inside.Runs.{class_test}
use Rattle.yaml_lexeme.proofs.place.cursor_t.skip_blanks.Given as goal

abbrev pub invariant-blanks : goal.invariant-blanks
invariant-blanks l = after_run (class_test BLANK) l.self ≡ after_run (class_test BLANK) l.fn.self

abbrev pub decreases-blanks : goal.decreases-blanks
decreases-blanks l = length l.self.rest
