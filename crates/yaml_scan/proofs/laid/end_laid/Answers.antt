use Rattle.std.proofs.Common.{arith}
use Rattle.yaml_scan.specs.inside.Scanner.{scanner_of}
use Rattle.yaml_scan.specs.inside.Handed.{group_with}
use Rattle.yaml_scan.proofs.RunningStep.StepHanded.{few_made, laid_few}
use Rattle.yaml_scan.proofs.RunningStep.StepMoves.{cut_all, steps_all}
use Rattle.yaml_scan.proofs.laid.end_laid.Goals as goal

pub overflow_add-state : goal.overflow_add-state
overflow_add-state g c =
    let r = c.requires.laid in
    let w = r.2.1 in
    let l = few_made r.1 r.2.0 (scanner_of r.0 c.hand_laid.new.state) _ _ g.S.yaml_token_sink_t.may_refuse c.in-Ok.made (c.in-Ok.ensures.steps r.0 r.1 r.2.0 w) (laid_few r.1 r.2.0 (scanner_of r.0 c.args.state.now) _ c.args.laid.waits (group_with c.args.laid.ends c.args.laid.opens c.args.laid.key c.args.token) c.args.laid.decider w) in
    omega arith

pub returns-in-Ok-clause-steps : goal.returns-in-Ok-clause-steps
returns-in-Ok-clause-steps g c = λ X H s w. steps_all H s (scanner_of X c.hand_laid.new.state) _ _ c.in-Ok.made (c.in-Ok.ensures.steps X H s w)

pub returns-in-Err-clause-steps : goal.returns-in-Err-clause-steps
returns-in-Err-clause-steps g c = λ X H s w. cut_all H s (scanner_of X c.hand_laid.new.state) _ _ _ c.stopped.result (rw c.stopped.ensures (c.in-Err.ensures.steps X H s w))
