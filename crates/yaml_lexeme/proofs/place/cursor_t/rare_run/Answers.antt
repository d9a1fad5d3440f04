use Rattle.std.proofs.Common.{◌∙◌}
use Rattle.yaml_lexeme.specs.inside.Runs.{class_test}
use Rattle.yaml_lexeme.proofs.Places.CursorMoves.{run_bytes}
use Rattle.yaml_lexeme.proofs.place.cursor_t.rare_run.Goals as goal

pub overflow_sub-start : goal.overflow_sub-start
overflow_sub-start c =
    (run_bytes (class_test c.args.class) c.args.self.now c.skip_far.new.self _ _ c.skip_far.ensures c.left-start.ensures c.left-left.ensures).0

pub returns-clause-value : goal.returns-clause-value
returns-clause-value c =
    c.first_bytes.ensures ∙ (run_bytes (class_test c.args.class) c.args.self.now c.skip_far.new.self _ _ c.skip_far.ensures c.left-start.ensures c.left-left.ensures).1
