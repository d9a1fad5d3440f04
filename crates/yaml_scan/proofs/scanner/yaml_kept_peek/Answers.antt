use Rattle.yaml_text.specs.Decode.{front}
use Rattle.yaml_scan.specs.inside.Kept.{scan_of}
use Rattle.yaml_scan.specs.inside.KeptParts.{ShowsTo}
use Rattle.yaml_scan.proofs.RunningCalls.KeptCalls.{at_setting, ends_so, is_left, over_this, peeks_kept, peeks_none, peeks_to_fault, stopped_left, with_its}
use Rattle.yaml_scan.proofs.scanner.yaml_kept_peek.Goals as goal

pub settle_viewed-requires-clause-is : goal.settle_viewed-requires-clause-is
settle_viewed-requires-clause-is c = let r = c.requires in (over_this r.0 c.args.input.now c.args.kept.now r.1 r.2).0

pub returns-then-kept-clause-shows : goal.returns-then-kept-clause-shows
returns-then-kept-clause-shows c = λ n p e k. peeks_none p c.args.input.now c.args.kept.now e k c.if-kept.true

pub returns-clause-shows : goal.returns-clause-shows
returns-clause-shows c = λ n p e w.
    let x = c.args.input.now in
    let k = c.args.kept.now in
    let l = c.settle_viewed.new.self in
    let i = scan_of x k in
    let z = c.in_default.ensures in
    let t = c.show.ensures (front k.setting x) i z.1 in
    let s = c.show.new.self in
    peeks_kept p x k e w (with_its l s) (is_left x k l z.0 s t.0.stands.sound) c.if-kept.false (at_setting x k l z.0.setting s (λ j. ShowsTo i j) t.0)

pub returns-in-Err-clause-fault : goal.returns-in-Err-clause-fault
returns-in-Err-clause-fault c = λ n p e w.
    let x = c.args.input.now in
    let k = c.args.kept.now in
    let l = c.settle_viewed.new.self in
    let z = c.in-Err.ensures in
    let d = c.close.ensures in
    let s = c.close.new.self in
    peeks_to_fault p x k e w (with_its l s) (stopped_left x k l z.0 k.session d.0 _ d.1 z.1 s d.2) c.if-kept.false (ends_so x k l z.0 k.session d.0 _ d.1 z.1 s d.2)
