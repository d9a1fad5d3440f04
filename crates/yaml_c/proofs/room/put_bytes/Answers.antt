use Rattle.std.proofs.Common.{◌≡◌, ◌+◌, ◌-◌, ◌++◌, ◌∙◌, ℕ, List, ap, take, drop, arith}
use Rattle.yaml_c.proofs.Rooms.{covered_by_copy}
use Rattle.yaml_c.proofs.room.put_bytes.Goals as goal

pub returns-then-at-room : goal.returns-then-at-room
returns-then-at-room c =
    let at = c.args.at in let n = c.min-count.result in let room = c.args.room.now in
    let part : (at + n) - at ≡ n = omega arith in
    ap (λ (ys : List ℕ). take at room ++ (ys ++ drop (at + n - at) (drop at room))) c.copy_from_slice.ensures.after
    ∙ ap (λ (k : ℕ). take at room ++ (take n c.args.bytes.now ++ drop k (drop at room))) part
    ∙ covered_by_copy at n c.args.bytes.now room c.if-at-room.true c.min-count.ensures
