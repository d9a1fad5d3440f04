use Rattle.std.proofs.Common.{◌≡◌, ◌+◌, ap, sym, arith, drop, ◌∙◌}
use Rattle.std.specs.List.{count_by}
use Rattle.std.specs.Int.RustNames.{count_ones}
use Rattle.std.proofs.lemmas.List.Sums.{count_by-le-length}
use Rattle.yaml_lexeme.specs.inside.Runs.{begins}
use Rattle.yaml_lexeme.proofs.ManyBytes.VectorMasks.{counted}
use Rattle.yaml_lexeme.proofs.runs.count_chars.Goals as goal
use Rattle.yaml_lexeme.proofs.runs.count_chars.Goals.{After-starts}

goes : (c : After-starts) → count_by begins (drop c.wide.i c.args.text.now) ≡ count_ones c.starts.result + count_by begins (drop (c.wide.i + 16) c.args.text.now)
goes c = counted begins c.args.text.now c.wide.i 16 ∙ ap (λ m. count_ones m + count_by begins (drop (c.wide.i + 16) c.args.text.now)) (sym c.starts.ensures)

pub overflow_add-n : goal.overflow_add-n
overflow_add-n c = omega (arith, goes (goal.at.overflow_add-n c).After-starts, c.wide.invariant.0, count_by-le-length begins c.args.text.now)

pub wide-preserved : goal.wide-preserved
wide-preserved c = (omega (arith, goes (goal.at.wide-preserved c).After-starts, c.wide.invariant.0), omega arith)
