use Rattle.std.proofs.Common.{◌∙◌}
use Rattle.yaml_lexeme.specs.inside.Runs.{class_test}
use Rattle.yaml_lexeme.proofs.Places.CursorMoves.{run_bytes}
use Rattle.yaml_lexeme.proofs.place.cursor_t.quick_run.Goals as goal

pub overflow_sub-start : goal.overflow_sub-start
overflow_sub-start c =
    let e = c.skip_rest.ensures ∙ c.skip_quiet.ensures.goes in
    (run_bytes (class_test c.args.class) c.args.self.now c.skip_rest.new.self _ _ e c.left-start.ensures c.left-left.ensures).0

pub returns-clause-value : goal.returns-clause-value
returns-clause-value c =
    let e = c.skip_rest.ensures ∙ c.skip_quiet.ensures.goes in
    c.first_bytes.ensures ∙ (run_bytes (class_test c.args.class) c.args.self.now c.skip_rest.new.self _ _ e c.left-start.ensures c.left-left.ensures).1

pub returns-clause-end : goal.returns-clause-end
returns-clause-end c = c.skip_rest.ensures ∙ c.skip_quiet.ensures.goes
