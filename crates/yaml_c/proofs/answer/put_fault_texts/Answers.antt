use Rattle.std.proofs.Common.{rules, ◌<◌, ◌^◌, length}
use Rattle.yaml_c.proofs.Rooms.{both_covered}
use Rattle.yaml_c.proofs.answer.put_fault_texts.Goals as goal

pub returns : goal.returns
returns c =
    let low : length c.args.room.now < 2 ^ 63 = search rules in
    both_covered _ _ _ _ _ _ _ _ _ c.text_or_none-problem.ensures c.text_or_none.ensures
    low c.saturating_add-context_at.ensures c.put_bytes.ensures c.put_bytes-2.ensures
