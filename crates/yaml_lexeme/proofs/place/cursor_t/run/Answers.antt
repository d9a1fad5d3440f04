use Rattle.std.proofs.Common.{◌≡◌, ◌∙◌, sym, ap, arith, length, false, true}
use Rattle.yaml_lexeme.specs.Place.{Place, first, after_run}
use Rattle.yaml_lexeme.proofs.Places.PlaceMoves.{after_none, after_run_more, class_end, length_one}
use Rattle.yaml_lexeme.specs.inside.Runs.{class_test}
use Rattle.yaml_lexeme.proofs.Places.CursorMoves.{run_bytes}
use Rattle.yaml_lexeme.proofs.place.cursor_t.run.Goals as goal

pub run-smaller : goal.run-smaller
run-smaller c =
    let on : class_test c.args.class (first c.run.self) ≡ true = cc in
    let g = after_run_more (class_test c.args.class) c.run.self on (class_end c.args.class) in
    omega (arith, c.skip_quiet-in-run.ensures.shorter, ap (λ (p : Place). length p.rest) c.advance.ensures, length_one c.run.self, g.0)

pub run-preserved : goal.run-preserved
run-preserved c =
    let on : class_test c.args.class (first c.run.self) ≡ true = cc in
    let g = after_run_more (class_test c.args.class) c.run.self on (class_end c.args.class) in
    c.skip_quiet-in-run.ensures.goes ∙ ap (λ (p : Place). after_run (class_test c.args.class) p) c.advance.ensures ∙ sym g.1 ∙ c.run.invariant

pub overflow_sub-start : goal.overflow_sub-start
overflow_sub-start c =
    let off : class_test c.args.class (first c.run.self) ≡ false = cc in
    let e : c.run.self ≡ after_run (class_test c.args.class) c.args.self.now = sym (after_none (class_test c.args.class) c.run.self off) ∙ c.run.invariant in
    (run_bytes (class_test c.args.class) c.args.self.now c.run.self _ _ e c.left-start.ensures c.left-left.ensures).0

pub returns-clause-value : goal.returns-clause-value
returns-clause-value c =
    let off : class_test c.args.class (first c.run.self) ≡ false = cc in
    let e : c.run.self ≡ after_run (class_test c.args.class) c.args.self.now = sym (after_none (class_test c.args.class) c.run.self off) ∙ c.run.invariant in
    c.first_bytes.ensures ∙ (run_bytes (class_test c.args.class) c.args.self.now c.run.self _ _ e c.left-start.ensures c.left-left.ensures).1

pub returns-clause-end : goal.returns-clause-end
returns-clause-end c =
    let off : class_test c.args.class (first c.run.self) ≡ false = cc in
    sym (after_none (class_test c.args.class) c.run.self off) ∙ c.run.invariant
