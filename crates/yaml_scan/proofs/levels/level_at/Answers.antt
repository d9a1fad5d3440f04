use Rattle.std.proofs.Common.{◌≡◌, None, reverse, is_some, sym, ap, ◌∙◌}
use Rattle.yaml_scan.specs.Levels.{greatest_level}
use Rattle.yaml_scan.specs.inside.Queue.{closing}
use Rattle.yaml_scan.proofs.RunningStep.LevelStack.{all_kept, closed_top, none_is}
use Rattle.yaml_scan.proofs.levels.level_at.Goals as goal

pub closed-preserved : goal.closed-preserved
closed-preserved c =
    let s = closed_top c.args.in_flow c.args.kind c.args.start c.closed.left.now c.closed.invariant.falls (ap is_some (sym c.closing.ensures) ∙ sym c.is_some.ensures ∙ c.closed-test.true) in
    record { falls = s.falls; same = s.same ∙ c.closed.invariant.same }

pub returns : goal.returns
returns c =
    let n : closing c.args.in_flow c.args.kind c.args.start (reverse c.closed.left.now) ≡ None = none_is _ (ap is_some (sym c.closing.ensures) ∙ sym c.is_some.ensures ∙ c.closed-test.false) in
    c.top_level.ensures ∙ ap greatest_level (sym (all_kept c.args.in_flow c.args.kind c.args.start (reverse c.closed.left.now) c.closed.invariant.falls n) ∙ c.closed.invariant.same)
