use Rattle.std.proofs.Common.{◌≡◌, ◌∙◌, ◌++◌, rules, arith, length}
use Rattle.yaml_text.specs.inside.Cells.{packed}
use Rattle.yaml_text.proofs.ManyBytes.CellRuns.{packed_read, kept, joined_on}
use Rattle.yaml_text.proofs.utf16.push_cells.Goals as goal

pub returns : goal.returns
returns c =
    let text = c.args.out.now.items in
    let s = c.cells.result in
    let units = rw c.rest.ensures at c.cells.ensures.units in
    let read = packed_read c.args.big c.args.bytes.now text s c.args.at 16 (λ i. omega (arith, c.type_inv.bytes i)) c.requires.read c.requires.room (omega arith) c.requires.chars units in
    let items = c.join_cells-end.new.items in
    let size : c.len-before.result ≡ length text = search (rules, c.len-before.ensures) in
    let is = c.as_mut_slice.ensures.value ∙ c.in_ok-extend_from_slice.ensures.items in
    let joined = joined_on text s items c.len-before.result c.join_cells-end.result size (rw is at c.join_cells-end.ensures.bytes) in
    let is-kept : c.truncate.new.self.items ≡ text ++ packed 16 s = c.truncate.ensures.items ∙ kept _ _ items _ (omega (arith, c.join_cells-end.auto.items, c.as_mut_slice.ensures.len)) ∙ joined in
    rw is-kept read
