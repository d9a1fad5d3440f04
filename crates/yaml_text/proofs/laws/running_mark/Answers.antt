use Rattle.yaml_text.proofs.Marks.MarkCounts.{running}
use Rattle.yaml_text.proofs.laws.running_mark.Goals as goal

pub returns : goal.returns
returns c = running
