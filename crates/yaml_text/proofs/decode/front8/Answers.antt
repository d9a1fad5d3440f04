use Rattle.std.proofs.Common.{◌+◌, arith}
use Rattle.std.proofs.lemmas.List.{length-drop}
use Rattle.yaml_text.proofs.Decodings.DecodeFronts.{front_grows, text_grows, none_at_end}
use Rattle.yaml_text.proofs.decode.front8.Goals as goal

pub loop-at-init : goal.loop-at-init
loop-at-init c =
    let quick = c.quick_len.ensures in
    let more = text_grows c.args.bytes.now c.args.known c.quick_len.result c.requires.part c.requires.known (rw c.rest.ensures at quick.within) (rw c.rest.ensures at quick.text) in
    record { within = more.0; text = more.1 }

pub rest-requires-in-loop-at-2 : goal.rest-requires-in-loop-at-2
rest-requires-in-loop-at-2 c =
    let found = c.in-Ok.ensures.found in
    (front_grows c.args.bytes.now c.loop-at.at c.in-Ok.width found.0 c.loop-at.invariant.within c.loop-at.invariant.text found.1 (rw c.rest-in-loop-at.ensures at found.2) found.3).0

pub loop-at-preserved : goal.loop-at-preserved
loop-at-preserved c =
    let found = c.in-Ok.ensures.found in
    let grown = front_grows c.args.bytes.now c.loop-at.at c.in-Ok.width found.0 c.loop-at.invariant.within c.loop-at.invariant.text found.1 (rw c.rest-in-loop-at.ensures at found.2) found.3 in
    let quick = c.quick_len-at.ensures in
    let more = text_grows c.args.bytes.now (c.loop-at.at + c.in-Ok.width) c.quick_len-at.result grown.0 grown.1 (rw c.rest-in-loop-at-2.ensures at quick.within) (rw c.rest-in-loop-at-2.ensures at quick.text) in
    record { within = more.0; text = more.1 }

pub returns-clause-longest : goal.returns-clause-longest
returns-clause-longest c = none_at_end _ (omega (arith, length-drop c.loop-at.at c.args.bytes.now))
