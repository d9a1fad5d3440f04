use Rattle.std.proofs.Common.{◌≡◌, ◌+◌, ap, arith, drop}
use Rattle.std.proofs.lemmas.List.{drop-drop}
use Rattle.std.specs.List.{prefix_len}
use Rattle.yaml_text.specs.inside.Singles.{is_single}
use Rattle.yaml_text.proofs.ascii.far_len.Goals as goal

pub wide-preserved : goal.wide-preserved
wide-preserved c =
    let d = c.args.bytes.now in
    let i = c.wide.i in
    let run : prefix_len is_single (drop i d) ≡ 64 + prefix_len is_single (drop 64 (drop i d)) =
    rw c.rest.ensures at (c.are_single.ensures c.if-are_single.true) in
    let same : prefix_len is_single (drop 64 (drop i d)) ≡ prefix_len is_single (drop (i + 64) d) = ap (prefix_len is_single) (drop-drop 64 i d) in
    (omega (arith, run, same, c.wide.invariant.0), omega arith)
