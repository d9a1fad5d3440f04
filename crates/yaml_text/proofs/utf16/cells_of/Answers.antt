use Rattle.std.proofs.Common.{◌≡◌, arith, length, refl, []}
use Rattle.yaml_text.proofs.ManyBytes.CellLanes.{by_turns, by_later_turns, four_cells, more_cells, cell_taken, HasCells}
use Rattle.yaml_text.proofs.utf16.cells_of.Goals as goal

pub returns-clause-cells : goal.returns-clause-cells
returns-clause-cells c = λ k lt.
    let long : length c.lay-4.new.cells ≡ 64 = omega (arith, c.lay.auto.cells, c.lay-2.auto.cells, c.lay-3.auto.cells, c.lay-4.auto.cells) in
    let x = c.args.a in
    let y = c.args.b in
    let z = c.args.c in
    let w = c.args.d in
    let even = by_turns x z c.fits-a.0 in
    let odd = by_turns y w c.fits-b.0 in
    let even-far = by_later_turns x z c.fits-a.0 in
    let odd-far = by_later_turns y w c.fits-b.0 in
    let first = four_cells 0 0 0 x y z w _ _ _ refl (omega arith) (by_turns _ _ even.long) even odd in
    let second = four_cells 8 0 4 x y z w _ _ _ refl (omega arith) (by_later_turns _ _ even.long) even odd in
    let third = four_cells 0 8 0 x y z w _ _ _ refl (omega arith) (by_turns _ _ even-far.long) even-far odd-far in
    let fourth = four_cells 8 8 4 x y z w _ _ _ refl (omega arith) (by_later_turns _ _ even-far.long) even-far odd-far in
    let none : HasCells x y z w [] 0 = λ i no. absurd {0} (omega arith) in
    let four = more_cells x y z w [] c.lay.new.cells _ 0 0 refl none first c.lay.ensures.laid (λ i no. absurd {0} (omega arith)) in
    let eight = more_cells x y z w c.lay.new.cells c.lay-2.new.cells _ 4 16 refl four second c.lay-2.ensures.laid c.lay-2.ensures.before in
    let twelve = more_cells x y z w c.lay-2.new.cells c.lay-3.new.cells _ 8 32 refl eight third c.lay-3.ensures.laid c.lay-3.ensures.before in
    let all = more_cells x y z w c.lay-3.new.cells c.lay-4.new.cells _ 12 48 refl twelve fourth c.lay-4.ensures.laid c.lay-4.ensures.before in
    cell_taken x y z w c.lay-4.new.cells k (omega (arith, long)) (all k lt)
