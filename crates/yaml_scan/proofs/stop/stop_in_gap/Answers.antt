use Rattle.std.proofs.Common.{◌∙◌, ap, rules, sym, List, Option}
use Rattle.yaml_scan.specs.inside.Scanner.{scanner_of}
use Rattle.yaml_scan.specs.inside.Slots.{Held, lost_held, root_of}
use Rattle.yaml_scan.proofs.RunningStep.StepTests.{lost_in_gap}
use Rattle.yaml_scan.proofs.stop.stop_in_gap.Goals as goal

pub stop_without-requires : goal.stop_without-requires
stop_without-requires g c = let s = (scanner_of c.args.text.now c.args.state.now) in
    (c.requires.0, lost_in_gap g.before s c.requires.0 c.requires.1.0 c.in-Some.held (ap (λ (o : Option Held). lost_held s.limit s.gap_end o) (ap (λ (l : List (Option Held)). root_of l s.slots.top) (sym c.deref.ensures.value) ∙ sym c.root-root.ensures) ∙ sym c.lost_at.ensures ∙ c.in-Some.is))

pub returns : goal.returns
returns g c = search rules
