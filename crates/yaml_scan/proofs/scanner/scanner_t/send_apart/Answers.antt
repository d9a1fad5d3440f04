use Rattle.std.proofs.Common.{List}
use Rattle.std.proofs.lemmas.Result.{err_from_is_err_and}
use Rattle.yaml_text.specs.Decode.{front}
use Rattle.yaml_scan.specs.Token.{yaml_token_t}
use Rattle.yaml_scan.proofs.RunningCalls.KeptCalls.{part_known, part_stopped, sent_begun}
use Rattle.yaml_scan.proofs.scanner.scanner_t.send_apart.Goals as goal

pub returns-in_err-settled-clause-sends : goal.returns-in_err-settled-clause-sends
returns-in_err-settled-clause-sends g c = let p = err_from_is_err_and c.from_residual.result c.from_residual.ensures.1 in rw (p.1, p.2) c.in_err-settled.ensures.sends

pub returns-in_err-settled-clause-part : goal.returns-in_err-settled-clause-part
returns-in_err-settled-clause-part g c = part_stopped c.args.input.now c.args.self.now c.send_viewed.new.self c.args.part.now _ c.in_err-settled.ensures.sends.0 c.requires.part

pub part-requires : goal.part-requires
part-requires g c = (front c.args.self.now.setting c.args.input.now, c.in_ok-settled.ensures.sends.0.text)

pub returns-clause-sends : goal.returns-clause-sends
returns-clause-sends g c = c.in_ok-settled.ensures.sends

pub returns-clause-part : goal.returns-clause-part
returns-clause-part g c =
    let k = c.in_ok-settled.ensures.sends in
    let took : List yaml_token_t → Type 0 = λ ts. g.S.yaml_token_sink_t.took c.args.sink.now ts c.send_viewed.new.sink in
    part_known c.args.input.now c.args.self.now c.send_viewed.new.self c.part.result k.0 (sent_begun c.args.input.now c.args.self.now c.send_viewed.new.self took _ k) c.part.ensures.again
