use Rattle.std.proofs.Common.{refl, subst}
use Rattle.yaml_scan.specs.inside.Scanner.{scanner_of}
use Rattle.yaml_scan.specs.inside.Handed.{StepsTo}
use Rattle.yaml_scan.proofs.RunningStep.StepMoves.{step_to_from}
use Rattle.yaml_scan.proofs.step.step_lent.Goals as goal

pub returns-in-None-clause-steps : goal.returns-in-None-clause-steps
returns-in-None-clause-steps g c =
    let n = c.in-None.ensures in
    let s = scanner_of c.args.text.now c.args.state.now in
    let u = scanner_of c.args.text.now c.lend.new.state in
    let v = scanner_of c.args.text.now c.step_lexeme.new.state in
    step_to_from g.before s u v _ _ _ c.step_lexeme.result (n.comes refl).1
    (subst (λ z. StepsTo g.before u v _ (λ ts. g.S.yaml_token_sink_t.took z ts c.step_lexeme.new.sink) g.S.yaml_token_sink_t.may_refuse c.step_lexeme.result) (n.none refl) c.step_lexeme.ensures.steps)
