use Rattle.std.proofs.Common.{refl}
use Rattle.std.proofs.lemmas.Result.{err_from_is_err_and}
use Rattle.yaml_text.specs.Decode.{front}
use Rattle.yaml_scan.specs.inside.Kept.{scan_of}
use Rattle.yaml_scan.proofs.RunningCalls.KeptCalls.{begins_now, is_new, stops_first}
use Rattle.yaml_scan.proofs.scanner.scanner_t.start_anew.Goals as goal

pub begin-requires : goal.begin-requires
begin-requires c = is_new (scan_of c.args.input.now c.args.self.now) c.requires.is.sound c.requires.still_open c.requires.new

pub returns-in_err-self : goal.returns-in_err-self
returns-in_err-self c =
    let p = err_from_is_err_and c.from_residual.result c.from_residual.ensures.1 in
    let w = c.in_err-self.ensures (front c.args.self.now.setting c.args.input.now) in
    rw (p.1, p.2) (refl, stops_first (scan_of c.args.input.now c.args.self.now) c.requires.is.sound c.requires.still_open c.requires.new c.begin.new.state _ w.0 w.1)

pub returns : goal.returns
returns c =
    let w = c.in_ok-self.ensures (front c.args.self.now.setting c.args.input.now) in
    (record { setting = refl; text = w.0 }, begins_now (scan_of c.args.input.now c.args.self.now) c.requires.is.sound c.requires.still_open c.requires.new c.begin.new.state w.1)
