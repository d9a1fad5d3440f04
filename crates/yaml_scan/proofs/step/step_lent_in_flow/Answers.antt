use Rattle.std.proofs.Common.{refl, subst}
use Rattle.yaml_scan.specs.inside.Scanner.{scanner_of}
use Rattle.yaml_scan.specs.inside.Handed.{StepsTo}
use Rattle.yaml_scan.proofs.step.step_lent_in_flow.Goals as goal

pub returns-in-None-clause-steps : goal.returns-in-None-clause-steps
returns-in-None-clause-steps g c =
    let e = c.in-None.ensures.none refl in
    let v = scanner_of c.args.text.now c.step_lexeme-in-None.new.state in
    subst (λ z. StepsTo g.before (scanner_of c.args.text.now z) v _ (λ ts. g.S.yaml_token_sink_t.took c.args.sink.now ts c.step_lexeme-in-None.new.sink) g.S.yaml_token_sink_t.may_refuse c.step_lexeme-in-None.result) e.0
    (subst (λ z. StepsTo g.before (scanner_of c.args.text.now c.lend_in_flow.new.state) v _ (λ ts. g.S.yaml_token_sink_t.took z ts c.step_lexeme-in-None.new.sink) g.S.yaml_token_sink_t.may_refuse c.step_lexeme-in-None.result) e.1 c.step_lexeme-in-None.ensures.steps)
