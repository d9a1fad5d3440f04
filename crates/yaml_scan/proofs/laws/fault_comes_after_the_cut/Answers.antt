use Rattle.yaml_scan.proofs.Course.FaultAfterCut as laws
use Rattle.yaml_scan.proofs.laws.fault_comes_after_the_cut.Goals as goal

pub returns : goal.returns
returns c = record { answered = laws.answers_tell_fault; refused = laws.refused_tell_fault }
