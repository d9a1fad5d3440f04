use Rattle.std.proofs.Common.{rules, ◌++◌, ◌∙◌, Ok, Err, sym, arith, ltb-false}
use Rattle.std.proofs.lemmas.Result.{err_from_is_err_and}
use Rattle.yaml_scan.specs.inside.Scanner.{scanner_of}
use Rattle.yaml_scan.proofs.RunningCalls.GivenTokens.{can_step, more_given, steps_to, steps_within, stops_on}
use Rattle.yaml_scan.proofs.give.settle_to.Goals as goal

pub step_to-requires : goal.step_to-requires
step_to-requires g c κs within = let s = (scanner_of c.args.text.now c.steps.state) in let h = c.steps.invariant.1 in
    (search rules, (within, can_step s h.runs h.still_open (ltb-false _ _ (sym (c.is_settled.ensures c.args.text.now c.steps.invariant.1.runs) ∙ c.steps-test.true))))

pub steps-smaller : goal.steps-smaller
steps-smaller g c =
    let a = (scanner_of c.args.text.now c.args.state.now) in
    let s = (scanner_of c.args.text.now c.steps.state) in
    let t = (scanner_of c.args.text.now c.step_to.new.state) in
    let i = c.steps.invariant in
    let h = i.1 in
    let q = steps_to s h.runs h.still_open (ltb-false _ _ (sym (c.is_settled.ensures c.args.text.now c.steps.invariant.1.runs) ∙ c.steps-test.true)) t (λ tokens. g.S.yaml_token_sink_t.took c.steps.sink tokens c.step_to.new.sink) g.S.yaml_token_sink_t.may_refuse (Ok c.in_ok-step_to.field-0) c.in_ok-step_to.ensures.steps in
    let w = steps_within a t (i.0 ++ q.0) (more_given a s t i.0 q.0 h q.1) in
    let l = q.2 in
    omega arith

pub steps-preserved : goal.steps-preserved
steps-preserved g c =
    let a = (scanner_of c.args.text.now c.args.state.now) in
    let s = (scanner_of c.args.text.now c.steps.state) in
    let t = (scanner_of c.args.text.now c.step_to.new.state) in
    let i = c.steps.invariant in
    let h = i.1 in
    let q = steps_to s h.runs h.still_open (ltb-false _ _ (sym (c.is_settled.ensures c.args.text.now c.steps.invariant.1.runs) ∙ c.steps-test.true)) t (λ tokens. g.S.yaml_token_sink_t.took c.steps.sink tokens c.step_to.new.sink) g.S.yaml_token_sink_t.may_refuse (Ok c.in_ok-step_to.field-0) c.in_ok-step_to.ensures.steps in
    (i.0 ++ q.0, more_given a s t i.0 q.0 h q.1, g.met.S.yaml_token_sink_t.took_more c.args.sink.now c.steps.sink c.step_to.new.sink i.0 q.0 i.2 q.3)

pub returns-in_err-step_to : goal.returns-in_err-step_to
returns-in_err-step_to g c =
    let a = (scanner_of c.args.text.now c.args.state.now) in
    let s = (scanner_of c.args.text.now c.steps.state) in
    let t = (scanner_of c.args.text.now c.step_to.new.state) in
    let i = c.steps.invariant in
    let h = i.1 in
    let stop = c.in_err-step_to.field-0.0 in
    let refuses = g.S.yaml_token_sink_t.may_refuse in
    let p = err_from_is_err_and c.from_residual.result c.from_residual.ensures.1 in
    let q = steps_to s h.runs h.still_open (ltb-false _ _ (sym (c.is_settled.ensures c.args.text.now c.steps.invariant.1.runs) ∙ c.steps-test.true)) t (λ tokens. g.S.yaml_token_sink_t.took c.steps.sink tokens c.step_to.new.sink) refuses (Err stop) c.in_err-step_to.ensures.steps in
    rw (p.1, p.2) (stops_on a s i.0 h (λ ys. g.S.yaml_token_sink_t.took c.args.sink.now ys c.step_to.new.sink) (λ ys. g.S.yaml_token_sink_t.took c.steps.sink ys c.step_to.new.sink)
    (λ ys w. g.met.S.yaml_token_sink_t.took_more c.args.sink.now c.steps.sink c.step_to.new.sink i.0 ys i.2 w) t.refusal stop refuses q)
