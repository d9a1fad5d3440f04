use Rattle.std.proofs.Common.{◌<◌, Option, Some, sym, subst, ◌∙◌, arith, ltb-true}
use Rattle.yaml_text.specs.Decode.{front}
use Rattle.yaml_text.specs.Text.{Text}
use Rattle.yaml_scan.specs.inside.Kept.{IsPartOf, scan_of}
use Rattle.yaml_scan.specs.inside.Scanner.{scanner_of}
use Rattle.yaml_scan.specs.inside.Scanning.{IsOpen, IsRunning}
use Rattle.yaml_scan.proofs.RunningCalls.KeptCalls.{begun_before, begun_runs, keeps_now, part_after, settled_now, settled_shown, settles_over}
use Rattle.yaml_scan.proofs.scanner.scanner_t.settle.Goals as goal

pub returns-then-self-clause-settles : goal.returns-then-self-clause-settles
returns-then-self-clause-settles c = settled_shown c.args.input.now c.args.self.now c.requires.is c.if-self.true

-- THE TEXT IS A PART OF THE INPUT
pub settle_head-requires-clause-runs : goal.settle_head-requires-clause-runs
settle_head-requires-clause-runs c =
    let w = (subst (λ (o : Option Text). IsPartOf c.args.input.now c.args.self.now o) c.in-Some.is c.requires.part) in
    subst (λ (z : Text). IsRunning (scanner_of z c.args.self.now.session.state)) (sym w.0) (begun_runs c.args.input.now c.args.self.now c.requires.is c.requires.still_open w.1)

pub settle_head-requires-clause-not_ended : goal.settle_head-requires-clause-not_ended
settle_head-requires-clause-not_ended c =
    let w = (subst (λ (o : Option Text). IsPartOf c.args.input.now c.args.self.now o) c.in-Some.is c.requires.part) in
    let b = (begun_before (scan_of c.args.input.now c.args.self.now) c.requires.is.sound c.requires.still_open w.1).started in
    subst (λ (z : Text). IsOpen (scanner_of z c.args.self.now.session.state)) (sym w.0) b.still_open

pub returns-in-Some-clause-settles : goal.returns-in-Some-clause-settles
returns-in-Some-clause-settles c =
    let w = (subst (λ (o : Option Text). IsPartOf c.args.input.now c.args.self.now o) c.in-Some.is c.requires.part) in
    let k = c.args.self.now in
    settles_over c.args.input.now k k (keeps_now c.args.input.now k c.requires.is c.requires.still_open w.1) (begun_before (scan_of c.args.input.now k) c.requires.is.sound c.requires.still_open w.1) c.if-self.false c.settle_head.new.state _ w.0 c.settle_head.result c.settle_head.ensures

pub returns-in-Some-clause-part : goal.returns-in-Some-clause-part
returns-in-Some-clause-part c =
    let w = (subst (λ (o : Option Text). IsPartOf c.args.input.now c.args.self.now o) c.in-Some.is c.requires.part) in
    let k = c.args.self.now in
    let z = settles_over c.args.input.now k k (keeps_now c.args.input.now k c.requires.is c.requires.still_open w.1) (begun_before (scan_of c.args.input.now k) c.requires.is.sound c.requires.still_open w.1) c.if-self.false c.settle_head.new.state _ w.0 c.settle_head.result c.settle_head.ensures in
    part_after c.args.input.now k _ (Some c.in-Some.text) c.settle_head.result z w

-- THE NEXT TOKEN IS THERE
pub is_settled-requires : goal.is_settled-requires
is_settled-requires c = (front c.args.self.now.setting c.args.input.now, begun_runs c.args.input.now c.args.self.now c.requires.is c.requires.still_open (omega (arith, c.if-self-eq0.false)))

pub returns-then-is_settled-clause-settles : goal.returns-then-is_settled-clause-settles
returns-then-is_settled-clause-settles c =
    let k = c.args.self.now in
    let m : 0 < k.session.state.made = omega (arith, c.if-self-eq0.false) in
    let l = c.is_settled.ensures (front k.setting c.args.input.now) (begun_runs c.args.input.now k c.requires.is c.requires.still_open m) in
    settled_now c.args.input.now k c.requires.is c.requires.still_open m (ltb-true _ _ (sym l ∙ c.if-is_settled.true))

-- ITS OWN BYTES ARE KEPT
pub returns-clause-part : goal.returns-clause-part
returns-clause-part c = part_after c.args.input.now c.args.self.now c.settle_viewed.new.self c.args.part.now c.settle_viewed.result c.settle_viewed.ensures c.requires.part
