use Rattle.std.proofs.Common.{List, [], ◌∷◌, ◌++◌, map, take, get_or, sym, subst, arith}
use Rattle.yaml_scan.specs.ParserCalls.{call_of}
use Rattle.yaml_scan.specs.Decoded.{decoded_input}
use Rattle.yaml_scan.specs.declared.calls.yaml_call_t.TheVariants.{SCAN}
use Rattle.yaml_scan.specs.declared.calls.yaml_answer_t.{yaml_answer_t}
use Rattle.yaml_scan.specs.Session.{Call}
use Rattle.yaml_scan.specs.Headline.{PutsAnswers}
use Rattle.yaml_scan.proofs.SessionCalls.CallsInTurn.{none_put, one_put, called_more}
use Rattle.yaml_scan.proofs.calls.answer_all.Goals as goal

pub loop-call-init : goal.loop-call-init
loop-call-init c = record { room = omega arith; so_far = none_put c.args.parser.now c.args.out.now.items }

pub loop-call-preserved : goal.loop-call-preserved
loop-call-preserved c =
    let p = c.args.parser.now in
    let xs = c.args.calls.now in
    let n = c.loop-call.call-index in
    let old = c.args.out.now.items in
    let r = c.answer_call-answer.new.parser in
    let k = c.in-Ok.ensures in record {
      room = omega arith;
      so_far = subst (λ (z : List Call). PutsAnswers decoded_input p z old c.push.new.self.items r) (sym (called_more xs n SCAN c.loop-call-test.true))
          (subst (λ (z : List yaml_answer_t). PutsAnswers decoded_input p (map call_of (take n xs) ++ call_of (get_or xs n SCAN) ∷ []) old z r) (sym k.items)
          (one_put p (map call_of (take n xs)) (call_of (get_or xs n SCAN)) old c.loop-call.out.items c.loop-call.parser c.answer_call-answer.result r c.loop-call.invariant.so_far c.answer_call-answer.ensures));
    }
