use Rattle.std.proofs.Common.{◌<◌, ◌∙◌, sym, refl, length, arith, inl, inr, ltb-true, ltb-false}
use Rattle.std.proofs.lemmas.Result.{err_from_is_err_and}
use Rattle.yaml_scan.specs.Settled.{before}
use Rattle.yaml_scan.specs.inside.Scanner.{scanner_of}
use Rattle.yaml_scan.specs.inside.Scanning.{history}
use Rattle.yaml_scan.proofs.RunningCalls.StepsMade.{still_running, open_too, fails, made_is, stops, least_pace, goes_on, fewer_left}
use Rattle.yaml_scan.proofs.settled.settle_head.Goals as goal

pub advance-requires-clause-running : goal.advance-requires-clause-running
advance-requires-clause-running c = let v = c.steps.invariant in
    still_running (scanner_of c.args.text.now c.steps.state) v.runs (open_too (scanner_of c.args.text.now c.args.state.now) (scanner_of c.args.text.now c.steps.state) v.runs v.same c.requires.not_ended)
    (ltb-false _ _ (sym (c.is_settled.ensures c.args.text.now c.steps.invariant.runs) ∙ c.steps-test.true))

pub steps-preserved : goal.steps-preserved
steps-preserved c = let v = c.steps.invariant in goes_on (scanner_of c.args.text.now c.args.state.now) (scanner_of c.args.text.now c.steps.state) _ v.runs v.same v.least (ltb-false _ _ (sym (c.is_settled.ensures c.args.text.now c.steps.invariant.runs) ∙ c.steps-test.true)) c.in_ok-advance.ensures

pub returns : goal.returns
returns c = let v = c.steps.invariant in
    let l : c.steps.state.taken < length (before c.steps.state.limit (history (scanner_of c.args.text.now c.steps.state))) = ltb-true _ _ (sym (c.is_settled.ensures c.args.text.now c.steps.invariant.runs) ∙ c.steps-test.false) in record {
      runs = v.runs;
      settled = l;
      made = made_is (scanner_of c.args.text.now c.args.state.now) (scanner_of c.args.text.now c.steps.state) v.runs v.same v.least v.most l;
      same = v.same;
    }

pub steps-init : goal.steps-init
steps-init c = record { runs = c.requires.runs; same = record { text = refl; refusal = refl; near = refl; limit = refl; taken = refl; done = refl }; least = omega arith; most = least_pace (scanner_of c.args.text.now c.args.state.now) }

pub steps-smaller : goal.steps-smaller
steps-smaller c = fewer_left (scanner_of c.args.text.now c.steps.state) (scanner_of c.args.text.now c.advance.new.state) c.steps.invariant.runs c.in_ok-advance.ensures

pub returns-in_err-advance : goal.returns-in_err-advance
returns-in_err-advance c = let v = c.steps.invariant in let p = err_from_is_err_and c.from_residual.result c.from_residual.ensures.1 in let l = ltb-false _ _ (sym (c.is_settled.ensures c.args.text.now c.steps.invariant.runs) ∙ c.steps-test.true) in rw (p.1, p.2)
    (elim c.in_err-advance.ensures.0 [ inl m ↦ inl m | inr i ↦ inr (fails (scanner_of c.args.text.now c.args.state.now) (scanner_of c.args.text.now c.steps.state) v.runs v.same (scanner_of c.args.text.now c.advance.new.state) _ c.in_err-advance.ensures.1 i l) ], stops (scanner_of c.args.text.now c.args.state.now) (scanner_of c.args.text.now c.steps.state) v.runs v.same (scanner_of c.args.text.now c.advance.new.state) c.in_err-advance.ensures.1 v.least v.most l)
