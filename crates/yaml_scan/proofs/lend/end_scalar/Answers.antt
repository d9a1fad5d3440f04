use Rattle.std.proofs.Common.{arith}
use Rattle.yaml_scan.specs.inside.Scanner.{scanner_of}
use Rattle.yaml_scan.specs.inside.Handed.{group_with}
use Rattle.yaml_scan.proofs.RunningStep.StepHanded.{few_made, laid_few}
use Rattle.yaml_scan.proofs.RunningStep.StepMoves.{cut_all, steps_all}
use Rattle.yaml_scan.proofs.lend.end_scalar.Goals as goal

pub overflow_add-state : goal.overflow_add-state
overflow_add-state g c =
    let r = c.requires.laid in
    let l = few_made r.1 r.2 (scanner_of r.0 c.hand_scalar.new.state) _ _ g.S.yaml_token_sink_t.may_refuse c.in-Ok.made (c.in-Ok.ensures.steps r.0 r.1 r.2 r.3 r.4 r.5) (laid_few r.1 r.2 (scanner_of r.0 c.args.state.now) _ c.args.laid.waits (group_with c.args.laid.ends c.args.laid.opens c.args.laid.key r.3) c.args.laid.decider r.5) in
    omega arith

pub returns-in-Ok-clause-steps : goal.returns-in-Ok-clause-steps
returns-in-Ok-clause-steps g c = λ X H s t T w. steps_all H s (scanner_of X c.hand_scalar.new.state) _ _ c.in-Ok.made (c.in-Ok.ensures.steps X H s t T w)

pub returns-in-Err-clause-steps : goal.returns-in-Err-clause-steps
returns-in-Err-clause-steps g c = λ X H s t T w. cut_all H s (scanner_of X c.hand_scalar.new.state) _ _ _ c.stopped.result (rw c.stopped.ensures (c.in-Err.ensures.steps X H s t T w))
