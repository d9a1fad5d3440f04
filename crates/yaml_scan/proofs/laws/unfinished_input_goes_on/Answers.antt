use Rattle.yaml_scan.proofs.Texts.UnfinishedInputs as laws
use Rattle.yaml_scan.proofs.Texts.InputPieces as pieces
use Rattle.yaml_scan.proofs.laws.unfinished_input_goes_on.Goals as goal

pub returns : goal.returns
returns c = record { steps = laws.steps_go_on; tokens = laws.tokens_go_on; fault = laws.fault_goes_on; bytes = pieces.pieces_go_on }
