use Rattle.std.proofs.Common.{◌≡◌, ◌+◌, ◌-◌, ◌<◌, refl, arith, ltb-true}
use Rattle.std.proofs.lemmas.Bool.{and_parts}
use Rattle.yaml_text.specs.Token.{token_of}
use Rattle.yaml_scan.proofs.RunningQueue.QueueGroups.{early_taken}
use Rattle.yaml_scan.proofs.queue.queue_t.take_early.Goals as goal

pub returns : goal.returns
returns c = let q = c.args.self.now in let l : 0 < q.early = ltb-true _ _ (and_parts _ _ c.requires).0 in
    let k : (q.early - 1) + 1 ≡ q.early = omega (arith, l) in
    early_taken q _ c.requires refl refl k refl (token_of c.token_at.result) (λ e. c.token_at.ensures)
