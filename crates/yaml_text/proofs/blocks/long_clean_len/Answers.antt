use Rattle.std.proofs.Common.{drop, sym, subst}
use Rattle.yaml_text.specs.inside.Windows.{AreClean}
use Rattle.yaml_text.proofs.ManyBytes.NarrowRuns.{narrow_clean}
use Rattle.yaml_text.proofs.ManyBytes.WholeRuns.{clean_more}
use Rattle.yaml_text.proofs.blocks.long_clean_len.Goals as goal

pub returns-then-are_ascii-clause-clean : goal.returns-then-are_ascii-clause-clean
returns-then-are_ascii-clause-clean c =
    subst (AreClean c.args.bytes.now) (sym c.saturating_sub-i.ensures) (narrow_clean c.args.bytes.now c.narrow_len-narrow.result c.narrow_len-narrow.ensures.narrow)

pub returns-clause-clean : goal.returns-clause-clean
returns-clause-clean c =
    let xs = c.args.bytes.now in
    let front = subst (AreClean xs) (sym c.saturating_sub-i.ensures) (narrow_clean xs c.narrow_len-narrow.result c.narrow_len-narrow.ensures.narrow) in
    let more : AreClean (drop c.saturating_sub-i.result xs) c.far_clean_len.result = rw c.rest-2.ensures at c.far_clean_len.ensures.clean in
    clean_more xs c.saturating_sub-i.result c.far_clean_len.result front more
