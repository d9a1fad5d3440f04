use Rattle.std.proofs.Common.{◌+◌, ℕ, refl, ap, inr, ◌∙◌}
use Rattle.yaml_scan.specs.inside.Scanner.{scanner_of}
use Rattle.yaml_scan.specs.inside.Handed.{group_tokens, group_with, one_done, set_queue}
use Rattle.yaml_scan.proofs.sink.hand_lent.Goals as goal

pub returns-in-Ok : goal.returns-in-Ok
returns-in-Ok g c = λ X waits t W T.
    let s = scanner_of X c.args.state.now in
    let y = group_with c.args.ends c.args.opens c.args.key t in
    (group_tokens y, inr (refl, W, refl, ap (λ (n : ℕ). set_queue s (one_done s.layout.queue) (s.taken + n)) (c.count_with-count.ensures t)), c.in-Ok.ensures t T)

pub returns-in-Err : goal.returns-in-Err
returns-in-Err g c = λ X waits t W T. let e = c.in-Err.ensures t T in (refl, W, c.stopped.ensures ∙ e.0, e.1, e.2)
