use Rattle.std.proofs.Common.{List, [], ℕ, sym, subst}
use Rattle.std.proofs.lemmas.Result.{err_from_is_err_and}
use Rattle.yaml_text.specs.Decode.{front}
use Rattle.yaml_text.specs.Text.{Text}
use Rattle.yaml_scan.specs.Token.{yaml_token_t}
use Rattle.yaml_scan.specs.declared.scanner.scanner_t.{scanner_t}
use Rattle.yaml_scan.specs.inside.Kept.{scan_of}
use Rattle.yaml_scan.specs.inside.KeptEnds.{Gives}
use Rattle.yaml_scan.specs.inside.KeptParts.{HasBegun}
use Rattle.yaml_scan.proofs.RunningCalls.KeptCalls.{gives_over}
use Rattle.yaml_scan.proofs.RunningCalls.KeptTokens.{stops_after}
use Rattle.yaml_scan.proofs.scanner.scanner_t.give.Goals as goal
use Rattle.yaml_scan.proofs.scanner.scanner_t.give.Goals.{in-Owned-1, in-Borrowed-1}

pub returns-in_err-start-clause-gives : goal.returns-in_err-start-clause-gives
returns-in_err-start-clause-gives g c = let p = err_from_is_err_and c.from_residual.result c.from_residual.ensures.1 in
    let k = c.in_err-start.ensures in
    rw (p.1, p.2) ([], g.met.S.yaml_token_sink_t.took_none c.args.sink.now, record { setting = k.0; stops = stops_after (scan_of c.args.input.now c.args.self.now) c.start.new.self.session _ k.1 })

pub view-text-requires : goal.view-text-requires
view-text-requires g c = (front c.args.self.now.setting c.args.input.now, c.in_ok-start.ensures.0.text)

pub give_while_room-requires-clause-at : goal.give_while_room-requires-clause-at
give_while_room-requires-clause-at g c = let k = c.in_ok-start.ensures in let i = scan_of c.args.input.now c.args.self.now in
    (i, subst (λ (z : Text). HasBegun i z c.start.new.self.session) (sym (c.view-text.ensures (front c.args.self.now.setting c.args.input.now) k.0.text)) k.1)

pub returns-clause-gives : goal.returns-clause-gives
returns-clause-gives g c = let k = c.in_ok-start.ensures in let i = scan_of c.args.input.now c.args.self.now in
    let e = c.view-text.ensures (front c.args.self.now.setting c.args.input.now) k.0.text in
    let took : List yaml_token_t → Type 0 = λ ts. g.S.yaml_token_sink_t.took c.args.sink.now ts c.give_while_room.new.sink in
    let lacks : ℕ → ℕ → Type 0 = g.S.yaml_token_sink_t.lacks c.give_while_room.new.sink in
    let P : scanner_t → Type 0 = λ l. Gives c.args.input.now c.args.self.now l took lacks c.give_while_room.result in
    let w = gives_over c.args.input.now c.args.self.now c.start.new.self k.0 c.give_while_room.new.session took lacks c.give_while_room.result (c.give_while_room.ensures.gives i (subst (λ (z : Text). HasBegun i z c.start.new.self.session) (sym e) k.1)) in elim c.match-text.branch [
      | in-Owned-1 z ↦ subst P (sym z.self-is) w
      | in-Borrowed-1 z ↦ subst P (sym z.self-is) w
    ]
