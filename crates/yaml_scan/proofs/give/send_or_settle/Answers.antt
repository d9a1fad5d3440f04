use Rattle.std.proofs.Common.{rules, ◌<◌, ◌∙◌, [], refl, sym, ap, arith, inl, inr, ltb-true, ltb-false, length}
use Rattle.std.proofs.lemmas.Result.{err_from_is_err_and}
use Rattle.yaml_scan.specs.Course.{Course}
use Rattle.yaml_scan.specs.Settled.{before}
use Rattle.yaml_scan.specs.inside.Scanner.{scanner_of}
use Rattle.yaml_scan.specs.inside.Scanning.{history}
use Rattle.yaml_scan.proofs.RunningCalls.NextOfInput.{course_same}
use Rattle.yaml_scan.proofs.RunningCalls.SentTokens.{can, goes, halts}
use Rattle.yaml_scan.proofs.RunningCalls.StepsMade.{least_pace, made_is}
use Rattle.yaml_scan.proofs.give.send_or_settle.Goals as goal

pub steps-init : goal.steps-init
steps-init g c = (
  record { runs = c.requires.runs; same = record { text = refl; refusal = refl; near = refl; limit = refl; taken = refl; done = refl }; least = omega arith; most = least_pace (scanner_of c.args.text.now c.args.state.now) },
  g.met.S.yaml_token_sink_t.took_none c.args.sink.now,
  λ w. w,
)

pub step_apart-requires : goal.step_apart-requires
step_apart-requires g c κs within = (search rules, can (scanner_of c.args.text.now c.args.state.now) (scanner_of c.args.text.now c.steps.state) c.steps.invariant.0 c.requires.still_open (ltb-false _ _ (sym (c.is_settled.ensures c.args.text.now c.steps.invariant.0.runs) ∙ c.steps-test.true)))

pub steps-smaller : goal.steps-smaller
steps-smaller g c =
    let a = (scanner_of c.args.text.now c.args.state.now) in
    let s = (scanner_of c.args.text.now c.steps.state) in
    let t = (scanner_of c.args.text.now c.step_apart.new.state) in
    let i = c.steps.invariant in
    elim (goes a s i.0 c.requires.still_open (ltb-false _ _ (sym (c.is_settled.ensures c.args.text.now c.steps.invariant.0.runs) ∙ c.steps-test.true)) t (λ ts. g.S.yaml_token_sink_t.took c.steps.sink ts c.step_apart.new.sink) g.S.yaml_token_sink_t.may_refuse _ c.in_ok-step_apart.ensures.steps) [
      | inl q ↦ (let w = q.0.runs.within in let m = ap (λ (x : Course). length x.read) (course_same a t q.0.same) in let l = q.1 in omega arith)
      | inr q ↦ (let n = i.0.same.done in let m = q.3 in absurd (omega (arith, c.if-state-done.false)))
    ]

pub steps-preserved : goal.steps-preserved
steps-preserved g c =
    let a = (scanner_of c.args.text.now c.args.state.now) in
    let s = (scanner_of c.args.text.now c.steps.state) in
    let t = (scanner_of c.args.text.now c.step_apart.new.state) in
    let i = c.steps.invariant in
    elim (goes a s i.0 c.requires.still_open (ltb-false _ _ (sym (c.is_settled.ensures c.args.text.now c.steps.invariant.0.runs) ∙ c.steps-test.true)) t (λ ts. g.S.yaml_token_sink_t.took c.steps.sink ts c.step_apart.new.sink) g.S.yaml_token_sink_t.may_refuse _ c.in_ok-step_apart.ensures.steps) [
      | inl q ↦ (q.0, g.met.S.yaml_token_sink_t.took_more c.args.sink.now c.steps.sink c.step_apart.new.sink [] [] i.1 q.2, λ w. c.in_ok-step_apart.ensures.within (i.2 w))
      | inr q ↦ (let n = i.0.same.done in let m = q.3 in absurd (omega (arith, c.if-state-done.false)))
    ]

pub returns-then-state-done-clause-sends : goal.returns-then-state-done-clause-sends
returns-then-state-done-clause-sends g c =
    let a = (scanner_of c.args.text.now c.args.state.now) in
    let s = (scanner_of c.args.text.now c.steps.state) in
    let t = (scanner_of c.args.text.now c.step_apart.new.state) in
    let i = c.steps.invariant in
    elim (goes a s i.0 c.requires.still_open (ltb-false _ _ (sym (c.is_settled.ensures c.args.text.now c.steps.invariant.0.runs) ∙ c.steps-test.true)) t (λ ts. g.S.yaml_token_sink_t.took c.steps.sink ts c.step_apart.new.sink) g.S.yaml_token_sink_t.may_refuse _ c.in_ok-step_apart.ensures.steps) [
      | inl q ↦ (let n = q.0.same.done in absurd (omega (arith, c.if-state-done.true)))
      | inr q ↦ (q.0, q.1, g.met.S.yaml_token_sink_t.took_more c.args.sink.now c.steps.sink c.step_apart.new.sink [] q.0 i.1 q.2)
    ]

pub returns-then-state-done-clause-within : goal.returns-then-state-done-clause-within
returns-then-state-done-clause-within g c = λ w. c.in_ok-step_apart.ensures.within (c.steps.invariant.2 w)

pub returns-clause-sends : goal.returns-clause-sends
returns-clause-sends g c =
    let a = (scanner_of c.args.text.now c.args.state.now) in
    let s = (scanner_of c.args.text.now c.steps.state) in
    let v = c.steps.invariant.0 in
    let l : s.taken < length (before s.limit (history s)) = ltb-true _ _ (sym (c.is_settled.ensures c.args.text.now c.steps.invariant.0.runs) ∙ c.steps-test.false) in
    (record { runs = v.runs; settled = l; made = made_is a s v.runs v.same v.least v.most l; same = v.same }, c.steps.invariant.1)

pub returns-in_err-step_apart-clause-sends : goal.returns-in_err-step_apart-clause-sends
returns-in_err-step_apart-clause-sends g c =
    let a = (scanner_of c.args.text.now c.args.state.now) in
    let s = (scanner_of c.args.text.now c.steps.state) in
    let t = (scanner_of c.args.text.now c.step_apart.new.state) in
    let i = c.steps.invariant in
    let p = err_from_is_err_and c.from_residual.result c.from_residual.ensures.1 in
    let q = halts a s i.0 c.requires.still_open (ltb-false _ _ (sym (c.is_settled.ensures c.args.text.now c.steps.invariant.0.runs) ∙ c.steps-test.true)) t (λ ts. g.S.yaml_token_sink_t.took c.steps.sink ts c.step_apart.new.sink) g.S.yaml_token_sink_t.may_refuse c.in_err-step_apart.field-0.0 c.in_err-step_apart.ensures.steps in
    rw (p.1, p.2) (elim q [
      | inl w ↦ inl (w.0, w.1, g.met.S.yaml_token_sink_t.took_more c.args.sink.now c.steps.sink c.step_apart.new.sink [] [] i.1 w.2)
      | inr w ↦ inr w
    ])
