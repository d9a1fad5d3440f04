use Rattle.std.proofs.Common.{refl, subst}
use Rattle.yaml_scan.specs.inside.Scanner.{scanner_of}
use Rattle.yaml_scan.specs.inside.Handed.{StepsTo}
use Rattle.yaml_scan.proofs.RunningStep.StepMoves.{step_to_from}
use Rattle.yaml_scan.proofs.step.step_usual.Goals as goal

pub returns-then-this-ne0-clause-steps : goal.returns-then-this-ne0-clause-steps
returns-then-this-ne0-clause-steps g c =
    let e = c.in-None.ensures.none refl in
    let v = scanner_of c.args.text.now c.step_lent.new.state in
    subst (λ z. StepsTo g.before (scanner_of c.args.text.now z) v _ (λ ts. g.S.yaml_token_sink_t.took c.args.sink.now ts c.step_lent.new.sink) g.S.yaml_token_sink_t.may_refuse c.step_lent.result) e.0
    (subst (λ z. StepsTo g.before (scanner_of c.args.text.now c.lend_usual.new.state) v _ (λ ts. g.S.yaml_token_sink_t.took z ts c.step_lent.new.sink) g.S.yaml_token_sink_t.may_refuse c.step_lent.result) e.1 c.step_lent.ensures.steps)

pub returns-in-Some-lend-clause-steps : goal.returns-in-Some-lend-clause-steps
returns-in-Some-lend-clause-steps g c =
    let e = c.in-None.ensures.none refl in
    let v = scanner_of c.args.text.now c.lend.new.state in
    subst (λ z. StepsTo g.before (scanner_of c.args.text.now z) v _ (λ ts. g.S.yaml_token_sink_t.took c.args.sink.now ts c.lend.new.sink) g.S.yaml_token_sink_t.may_refuse c.in-Some-lend.made) e.0
    (subst (λ z. StepsTo g.before (scanner_of c.args.text.now c.lend_usual.new.state) v _ (λ ts. g.S.yaml_token_sink_t.took z ts c.lend.new.sink) g.S.yaml_token_sink_t.may_refuse c.in-Some-lend.made) e.1 c.in-Some-lend.ensures.steps)

pub returns-in-None-lend-clause-steps : goal.returns-in-None-lend-clause-steps
returns-in-None-lend-clause-steps g c =
    let e = c.in-None.ensures.none refl in
    let n = c.in-None-lend.ensures in
    let u = scanner_of c.args.text.now c.lend.new.state in
    let v = scanner_of c.args.text.now c.step_lexeme-in-None-lend.new.state in
    subst (λ z. StepsTo g.before (scanner_of c.args.text.now z) v _ (λ ts. g.S.yaml_token_sink_t.took c.args.sink.now ts c.step_lexeme-in-None-lend.new.sink) g.S.yaml_token_sink_t.may_refuse c.step_lexeme-in-None-lend.result) e.0
    (subst (λ z. StepsTo g.before (scanner_of c.args.text.now c.lend_usual.new.state) v _ (λ ts. g.S.yaml_token_sink_t.took z ts c.step_lexeme-in-None-lend.new.sink) g.S.yaml_token_sink_t.may_refuse c.step_lexeme-in-None-lend.result) e.1
    (step_to_from g.before (scanner_of c.args.text.now c.lend_usual.new.state) u v _ _ _ c.step_lexeme-in-None-lend.result (n.comes refl).1
    (subst (λ z. StepsTo g.before u v _ (λ ts. g.S.yaml_token_sink_t.took z ts c.step_lexeme-in-None-lend.new.sink) g.S.yaml_token_sink_t.may_refuse c.step_lexeme-in-None-lend.result) (n.none refl) c.step_lexeme-in-None-lend.ensures.steps)))
