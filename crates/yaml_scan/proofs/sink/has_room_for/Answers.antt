use Rattle.std.proofs.Common.{arith}
use Rattle.yaml_scan.specs.inside.Handed.{group_tokens}
use Rattle.yaml_scan.proofs.RunningQueue.GroupTexts.{group_len}
use Rattle.yaml_scan.proofs.RunningQueue.GroupTokens.{count_is, keys_few, starts_few}
use Rattle.yaml_scan.proofs.sink.has_room_for.Goals as goal

pub returns : goal.returns
returns g c = λ e w y after E T t.
    let n = count_is y in
    let i = starts_few y.opens in
    let j = keys_few y.key in
    let l = group_len y in
    c.has_room.ensures.room e w (group_tokens y) after (omega arith) (omega arith) t
