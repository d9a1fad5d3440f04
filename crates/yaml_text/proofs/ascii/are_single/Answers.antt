use Rattle.std.proofs.Common.{arith, eqb-true}
use Rattle.yaml_text.specs.inside.Singles.{is_single, is_other}
use Rattle.yaml_text.proofs.ManyBytes.VectorRuns.{run_through, twice}
use Rattle.yaml_text.proofs.ascii.are_single.Goals as goal

pub returns-then-rare-eq0 : goal.returns-then-rare-eq0
returns-then-rare-eq0 c = λ _.
    run_through is_other is_single (λ x. twice (is_single x)) c.args.bytes.now 0 64 (omega arith) (c.rare.ensures c.if-rare-eq0.true)

pub returns : goal.returns
returns c = λ none.
    let d = c.args.bytes.now in
    let last = eqb-true c.others-4.result 0 none in
    let one = run_through is_other is_single (λ x. twice (is_single x)) d 0 16 (omega arith) (omega (arith, c.others.ensures)) in
    let two = run_through is_other is_single (λ x. twice (is_single x)) d 16 16 (omega arith) (omega (arith, c.others-2.ensures)) in
    let three = run_through is_other is_single (λ x. twice (is_single x)) d 32 16 (omega arith) (omega (arith, c.others-3.ensures)) in
    let four = run_through is_other is_single (λ x. twice (is_single x)) d 48 16 (omega arith) (omega (arith, c.others-4.ensures, last)) in
    omega (arith, one, two, three, four)
