use Rattle.std.proofs.Common.{sym, ap, ◌∙◌, arith}
use lib.Count.{count_trailing_zeros}
use Rattle.std.proofs.lemmas.List.Sums.{prefix_len-le-length}
use Rattle.yaml_text.specs.inside.Singles.{is_single, is_other}
use Rattle.yaml_text.proofs.ManyBytes.VectorRuns.{run_through, run_stops, twice}
use Rattle.yaml_text.proofs.ascii.single_len.Goals as goal

pub returns-then-found-ne0 : goal.returns-then-found-ne0
returns-then-found-ne0 c =
    let found = c.others-found in
    let run = run_stops is_other is_single (λ x. twice (is_single x)) c.args.bytes.now c.wide.i 16 (omega arith) (omega arith) (omega (arith, found.ensures)) ∙ ap (count_trailing_zeros 64) (sym found.ensures) in
    record { value = omega (arith, run, c.wide.invariant.0); bound = omega (arith, run, c.wide.invariant.0, prefix_len-le-length is_single c.args.bytes.now) }

pub wide-preserved : goal.wide-preserved
wide-preserved c =
    let run = run_through is_other is_single (λ x. twice (is_single x)) c.args.bytes.now c.wide.i 16 (omega arith) (omega (arith, c.others-found.ensures)) in
    (omega (arith, run, c.wide.invariant.0), omega arith)

pub returns-clause-bound : goal.returns-clause-bound
returns-clause-bound c = omega (arith, c.slow_len.ensures, c.wide.invariant.0, prefix_len-le-length is_single c.args.bytes.now)
