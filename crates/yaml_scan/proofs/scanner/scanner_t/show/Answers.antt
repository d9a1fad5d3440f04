use Rattle.yaml_text.specs.Decode.{front}
use Rattle.yaml_scan.specs.inside.Kept.{scan_of}
use Rattle.yaml_scan.specs.inside.KeptParts.{ShowsTo}
use Rattle.yaml_scan.proofs.RunningCalls.KeptCalls.{at_setting, ends_so, is_left, part_ended, part_goes_on, stopped_left}
use Rattle.yaml_scan.proofs.scanner.scanner_t.show.Goals as goal

pub returns-in-Ok-clause-is : goal.returns-in-Ok-clause-is
returns-in-Ok-clause-is c = let k = c.in-Ok.ensures.settles in
    let t = c.show.ensures (front c.args.self.now.setting c.args.input.now) (scan_of c.args.input.now c.args.self.now) k.1 in
    is_left c.args.input.now c.args.self.now c.settle.new.self k.0 c.show.new.self t.0.stands.sound

pub returns-in-Ok-clause-shows : goal.returns-in-Ok-clause-shows
returns-in-Ok-clause-shows c = λ r o. let k = c.in-Ok.ensures.settles in
    let i = scan_of c.args.input.now c.args.self.now in
    let t = c.show.ensures (front c.args.self.now.setting c.args.input.now) i k.1 in
    at_setting c.args.input.now c.args.self.now c.settle.new.self k.0.setting c.show.new.self (λ j. ShowsTo i j) t.0

pub returns-in-Err-clause-is : goal.returns-in-Err-clause-is
returns-in-Err-clause-is c = let k = c.in-Err.ensures.settles in stopped_left c.args.input.now c.args.self.now c.settle.new.self k.0 c.args.self.now.session c.close.ensures.0 _ c.close.ensures.1 k.1 c.close.new.self c.close.ensures.2

pub returns-in-Err-clause-fault : goal.returns-in-Err-clause-fault
returns-in-Err-clause-fault c = λ r. let k = c.in-Err.ensures.settles in ends_so c.args.input.now c.args.self.now c.settle.new.self k.0 c.args.self.now.session c.close.ensures.0 _ c.close.ensures.1 k.1 c.close.new.self c.close.ensures.2

pub returns-in-Ok-clause-part : goal.returns-in-Ok-clause-part
returns-in-Ok-clause-part c = let k = c.in-Ok.ensures.settles in
    let t = c.show.ensures (front c.args.self.now.setting c.args.input.now) (scan_of c.args.input.now c.args.self.now) k.1 in
    part_goes_on c.args.input.now c.settle.new.self c.show.new.self c.settle.new.part (λ m. t.0.stands.begun) c.in-Ok.ensures.part

pub returns-in-Err-clause-part : goal.returns-in-Err-clause-part
returns-in-Err-clause-part c = part_ended c.args.input.now c.settle.new.self c.settle.new.part c.close.ensures.0 c.close.new.self c.close.ensures.2 c.in-Err.ensures.part
