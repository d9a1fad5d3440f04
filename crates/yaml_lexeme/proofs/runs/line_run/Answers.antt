use Rattle.std.proofs.Common.{sym, ap, ◌∙◌, refl, arith}
use lib.Count.{count_trailing_zeros}
use Rattle.yaml_lexeme.specs.declared.runs.class_t.TheVariants.{IN_LINE}
use Rattle.yaml_lexeme.specs.inside.Runs.{is_stop, is_quiet}
use Rattle.yaml_text.proofs.ManyBytes.VectorRuns.{run_through, run_stops}
use Rattle.yaml_lexeme.proofs.runs.line_run.Goals as goal

pub returns-then-found-ne0 : goal.returns-then-found-ne0
returns-then-found-ne0 c =
    let found = c.stops-found in
    let run = run_stops (is_stop IN_LINE) (is_quiet IN_LINE) (λ x. refl) c.args.text.now c.wide.i 16 (omega arith) (omega arith) (omega (arith, found.ensures)) ∙ ap (count_trailing_zeros 64) (sym found.ensures) in
    omega (arith, run, c.wide.invariant.0)

pub wide-preserved : goal.wide-preserved
wide-preserved c =
    let run = run_through (is_stop IN_LINE) (is_quiet IN_LINE) (λ x. refl) c.args.text.now c.wide.i 16 (omega arith) (omega (arith, c.stops-found.ensures)) in
    (omega (arith, run, c.wide.invariant.0), omega arith)
