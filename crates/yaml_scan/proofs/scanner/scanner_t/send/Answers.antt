use Rattle.std.proofs.Common.{List, Option, Some, sym, subst}
use Rattle.yaml_text.specs.Text.{Text}
use Rattle.yaml_scan.specs.Token.{yaml_token_t}
use Rattle.yaml_scan.specs.inside.Kept.{IsPartOf, scan_of}
use Rattle.yaml_scan.specs.inside.KeptEnds.{Sends}
use Rattle.yaml_scan.specs.inside.KeptParts.{HasBegun, SendsNext}
use Rattle.yaml_scan.proofs.RunningCalls.KeptCalls.{begun_before, keeps_now, part_sent, sends_over, with_its}
use Rattle.yaml_scan.proofs.scanner.scanner_t.send.Goals as goal

pub send_or_wait-requires-clause-at : goal.send_or_wait-requires-clause-at
send_or_wait-requires-clause-at g c =
    let k = c.args.self.now in
    let i = scan_of c.args.input.now k in
    let w = (subst (λ (o : Option Text). IsPartOf c.args.input.now k o) c.in-Some.is c.requires.part) in
    (i, subst (λ (z : Text). HasBegun i z k.session) (sym w.0) (begun_before i c.requires.is.sound c.requires.still_open w.1))

pub returns-in-Some-clause-sends : goal.returns-in-Some-clause-sends
returns-in-Some-clause-sends g c =
    let x = c.args.input.now in
    let k = c.args.self.now in
    let i = scan_of x k in
    let w = (subst (λ (o : Option Text). IsPartOf x k o) c.in-Some.is c.requires.part) in
    let took : List yaml_token_t → Type 0 = λ ts. g.S.yaml_token_sink_t.took c.args.sink.now ts c.send_or_wait.new.sink in
    let b = subst (λ (z : Text). HasBegun i z k.session) (sym w.0) (begun_before i c.requires.is.sound c.requires.still_open w.1) in
    sends_over x k k (keeps_now x k c.requires.is c.requires.still_open w.1) c.send_or_wait.new.session took c.send_or_wait.result (subst (λ (z : Text). SendsNext i z c.send_or_wait.new.session took c.send_or_wait.result) w.0 (c.send_or_wait.ensures.sends i b))

pub returns-in-Some-clause-part : goal.returns-in-Some-clause-part
returns-in-Some-clause-part g c =
    let x = c.args.input.now in
    let k = c.args.self.now in
    let i = scan_of x k in
    let w = (subst (λ (o : Option Text). IsPartOf x k o) c.in-Some.is c.requires.part) in
    let took : List yaml_token_t → Type 0 = λ ts. g.S.yaml_token_sink_t.took c.args.sink.now ts c.send_or_wait.new.sink in
    let b = subst (λ (z : Text). HasBegun i z k.session) (sym w.0) (begun_before i c.requires.is.sound c.requires.still_open w.1) in
    let s : Sends x k (with_its k c.send_or_wait.new.session) took c.send_or_wait.result =
    sends_over x k k (keeps_now x k c.requires.is c.requires.still_open w.1) c.send_or_wait.new.session took c.send_or_wait.result (subst (λ (z : Text). SendsNext i z c.send_or_wait.new.session took c.send_or_wait.result) w.0 (c.send_or_wait.ensures.sends i b)) in
    part_sent x k (with_its k c.send_or_wait.new.session) (Some c.in-Some.text) took c.send_or_wait.result s w

pub returns-clause-part : goal.returns-clause-part
returns-clause-part g c =
    let took : List yaml_token_t → Type 0 = λ ts. g.S.yaml_token_sink_t.took c.args.sink.now ts c.send_viewed.new.sink in
    part_sent c.args.input.now c.args.self.now c.send_viewed.new.self c.args.part.now took c.send_viewed.result c.send_viewed.ensures.sends c.requires.part
