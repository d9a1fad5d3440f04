use Rattle.yaml_scan.proofs.Texts.TextPlaces.{gap_ends}
use Rattle.yaml_scan.proofs.source.gap_end.Goals as goal

pub returns : goal.returns
returns c = λ p i. gap_ends c.args.text.now.chars c.args.in_flow c.args.allowed p c.args.at c.yaml_gap.result.0 i (c.yaml_gap.ensures.mark p i)
