use Rattle.std.proofs.Common.{◌≡◌, ◌∙◌, arith, drop}
use Rattle.yaml_text.specs.inside.Cells.{count_of}
use Rattle.yaml_text.proofs.ManyBytes.CellRuns.{count_at, joined_more, after_more}
use Rattle.yaml_text.proofs.utf16.join_cells.Goals as goal

pub put_cell-end-requires-clause-few : goal.put_cell-end-requires-clause-few
put_cell-end-requires-clause-few c =
    rw (count_at c.args.items.now c.loop-k.items c.args.start c.loop-k.k c.loop-k.invariant.after) (c.requires.few c.loop-k.k c.loop-k-test.true)

pub loop-k-preserved : goal.loop-k-preserved
loop-k-preserved c =
    let old = c.args.items.now in
    let items = c.loop-k.items in
    let start = c.args.start in
    let k = c.loop-k.k in
    let after = c.loop-k.invariant.after in
    let is : c.put_cell-end.result ≡ count_of (drop start old) k = c.put_cell-end.ensures.count ∙ count_at old items start k after in
    record {
      bytes = joined_more old items c.put_cell-end.new.items start c.loop-k.end k c.put_cell-end.result c.loop-k.invariant.bytes after is c.put_cell-end.ensures.bytes;
      after = after_more old items c.put_cell-end.new.items start k after c.put_cell-end.ensures.after;
      before = omega (arith, is, c.requires.few k c.loop-k-test.true);
    }
