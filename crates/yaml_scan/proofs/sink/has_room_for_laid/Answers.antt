use Rattle.std.proofs.Common.{arith, ap}
use Rattle.yaml_scan.specs.inside.Handed.{group_tokens, keys_of, starts_of}
use Rattle.yaml_scan.proofs.RunningQueue.GroupTexts.{group_len}
use Rattle.yaml_scan.proofs.RunningQueue.GroupTokens.{count_is}
use Rattle.yaml_scan.proofs.sink.has_room_for_laid.Goals as goal

pub returns : goal.returns
returns g c = λ e w y after E O K T t.
    let n = count_is y in
    let i = ap starts_of O in
    let j = ap keys_of K in
    let l = group_len y in
    c.has_room.ensures.room e w (group_tokens y) after (omega (arith, n, i, j, E, c.most_without_key.ensures)) (omega (arith, l, T)) t
