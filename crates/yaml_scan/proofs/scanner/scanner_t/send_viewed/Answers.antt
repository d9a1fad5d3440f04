use Rattle.std.proofs.Common.{List, sym, subst}
use Rattle.std.proofs.lemmas.Result.{err_from_is_err_and}
use Rattle.yaml_text.specs.Decode.{front}
use Rattle.yaml_text.specs.Text.{Text}
use Rattle.yaml_scan.specs.Token.{yaml_token_t}
use Rattle.yaml_scan.specs.declared.scanner.scanner_t.{scanner_t}
use Rattle.yaml_scan.specs.inside.Kept.{scan_of}
use Rattle.yaml_scan.specs.inside.KeptEnds.{Sends}
use Rattle.yaml_scan.specs.inside.KeptParts.{HasBegun, SendsNext}
use Rattle.yaml_scan.proofs.RunningCalls.KeptCalls.{sends_over}
use Rattle.yaml_scan.proofs.scanner.scanner_t.send_viewed.Goals as goal
use Rattle.yaml_scan.proofs.scanner.scanner_t.send_viewed.Goals.{in-Owned-1, in-Borrowed-1}

pub returns-in_err-start-clause-sends : goal.returns-in_err-start-clause-sends
returns-in_err-start-clause-sends g c = let p = err_from_is_err_and c.from_residual.result c.from_residual.ensures.1 in
    rw (p.1, p.2) (c.in_err-start.ensures, g.met.S.yaml_token_sink_t.took_none c.args.sink.now)

pub view-text-requires : goal.view-text-requires
view-text-requires g c = (front c.args.self.now.setting c.args.input.now, c.in_ok-start.ensures.0.text)

pub send_or_wait-requires-clause-at : goal.send_or_wait-requires-clause-at
send_or_wait-requires-clause-at g c = let k = c.in_ok-start.ensures in let i = scan_of c.args.input.now c.args.self.now in
    (i, subst (λ (z : Text). HasBegun i z c.start.new.self.session) (sym (c.view-text.ensures (front c.args.self.now.setting c.args.input.now) k.0.text)) k.1)

pub returns-clause-sends : goal.returns-clause-sends
returns-clause-sends g c = let k = c.in_ok-start.ensures in let i = scan_of c.args.input.now c.args.self.now in
    let e = c.view-text.ensures (front c.args.self.now.setting c.args.input.now) k.0.text in
    let took : List yaml_token_t → Type 0 = λ ts. g.S.yaml_token_sink_t.took c.args.sink.now ts c.send_or_wait.new.sink in
    let P : scanner_t → Type 0 = λ l. Sends c.args.input.now c.args.self.now l took c.send_or_wait.result in
    let w = sends_over c.args.input.now c.args.self.now c.start.new.self k.0 c.send_or_wait.new.session took c.send_or_wait.result (subst (λ (z : Text). SendsNext i z c.send_or_wait.new.session took c.send_or_wait.result) e (c.send_or_wait.ensures.sends i (subst (λ (z : Text). HasBegun i z c.start.new.self.session) (sym e) k.1))) in elim c.match-text.branch [
      | in-Owned-1 z ↦ subst P (sym z.self-is) w
      | in-Borrowed-1 z ↦ subst P (sym z.self-is) w
    ]
