use Rattle.std.proofs.Common.{arith}
use Rattle.yaml_scan.specs.inside.Scanner.{scanner_of}
use Rattle.yaml_scan.proofs.RunningCalls.NextOfInput.{few_made, history_length}
use Rattle.yaml_scan.proofs.give.is_ready.Goals as goal

pub overflow_add-queue : goal.overflow_add-queue
overflow_add-queue g c =
    let s = (scanner_of c.args._text.now c.args.state.now) in
    let r = c.requires.runs in
    let a = r.holds.queue.count in
    let b = history_length s r in
    let d = few_made s r in
    let e = r.begun in
    omega arith
