use Rattle.std.proofs.Common.{sym, subst}
use Rattle.std.proofs.lemmas.Result.{err_from_is_err_and}
use Rattle.yaml_text.specs.Decode.{front}
use Rattle.yaml_text.specs.Text.{Text}
use Rattle.yaml_scan.specs.declared.scanner.scanner_t.{scanner_t}
use Rattle.yaml_scan.specs.inside.KeptEnds.{Settles}
use Rattle.yaml_scan.specs.inside.Scanner.{scanner_of}
use Rattle.yaml_scan.specs.inside.Scanning.{IsOpen, IsRunning}
use Rattle.yaml_scan.proofs.RunningCalls.KeptCalls.{settles_over, settled_shown}
use Rattle.yaml_scan.proofs.scanner.scanner_t.settle_viewed.Goals as goal
use Rattle.yaml_scan.proofs.scanner.scanner_t.settle_viewed.Goals.{in-Owned-1, in-Borrowed-1}

pub returns-then-self : goal.returns-then-self
returns-then-self c = settled_shown c.args.input.now c.args.self.now c.requires.is c.if-self.true

pub returns-in_err-start : goal.returns-in_err-start
returns-in_err-start c = let p = err_from_is_err_and c.from_residual.result c.from_residual.ensures.1 in rw (p.1, p.2) c.in_err-start.ensures

pub view-text-requires : goal.view-text-requires
view-text-requires c = (front c.args.self.now.setting c.args.input.now, c.in_ok-start.ensures.0.text)

pub settle_head-requires-clause-runs : goal.settle_head-requires-clause-runs
settle_head-requires-clause-runs c = let k = c.in_ok-start.ensures in
    subst (λ (z : Text). IsRunning (scanner_of z c.start.new.self.session.state)) (sym (c.view-text.ensures (front c.args.self.now.setting c.args.input.now) k.0.text)) k.1.started.stands.runs

pub settle_head-requires-clause-not_ended : goal.settle_head-requires-clause-not_ended
settle_head-requires-clause-not_ended c = let k = c.in_ok-start.ensures in
    subst (λ (z : Text). IsOpen (scanner_of z c.start.new.self.session.state)) (sym (c.view-text.ensures (front c.args.self.now.setting c.args.input.now) k.0.text)) k.1.started.still_open

pub returns : goal.returns
returns c = let k = c.in_ok-start.ensures in
    let P : scanner_t → Type 0 = λ l. Settles c.args.input.now c.args.self.now l c.settle_head.result in
    let w = settles_over c.args.input.now c.args.self.now c.start.new.self k.0 k.1 c.if-self.false c.settle_head.new.state c.view-text.result (c.view-text.ensures (front c.args.self.now.setting c.args.input.now) k.0.text) c.settle_head.result c.settle_head.ensures in elim c.match-text.branch [
      | in-Owned-1 z ↦ subst P (sym z.self-is) w
      | in-Borrowed-1 z ↦ subst P (sym z.self-is) w
    ]
