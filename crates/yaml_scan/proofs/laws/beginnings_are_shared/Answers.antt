use Rattle.yaml_scan.proofs.Texts.SharedBeginnings as laws
use Rattle.yaml_scan.proofs.laws.beginnings_are_shared.Goals as goal

pub returns : goal.returns
returns c = record { steps = laws.beginnings_are_shared; rest = laws.all_is_settled_at_rest }
