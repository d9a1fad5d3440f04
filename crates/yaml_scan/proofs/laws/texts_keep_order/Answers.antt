use Rattle.yaml_scan.proofs.Texts.SourceOrder as laws
use Rattle.yaml_scan.proofs.laws.texts_keep_order.Goals as goal

pub returns : goal.returns
returns c = laws.texts_keep_order
