use Rattle.yaml_text.proofs.ManyBytes.CellRuns.{cell_of}
use Rattle.yaml_text.proofs.utf16.cells.Goals as goal

pub returns-clause-units : goal.returns-clause-units
returns-clause-units c = λ k lt.
    rw (c.halves.ensures.units k lt) (cell_of _ _ _ _ _ c.cells_of.result k (c.spelled.ensures.units k lt) (c.cells_of.ensures.cells k lt))
