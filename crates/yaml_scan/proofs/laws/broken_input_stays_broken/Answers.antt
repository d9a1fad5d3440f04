use Rattle.yaml_scan.proofs.Texts.InputPieces as pieces
use Rattle.yaml_scan.proofs.laws.broken_input_stays_broken.Goals as goal

pub returns : goal.returns
returns c = pieces.refused_for_good
