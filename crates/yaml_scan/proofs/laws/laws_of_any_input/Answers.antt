use Rattle.yaml_scan.proofs.Course.InputLaws as laws
use Rattle.yaml_scan.proofs.laws.laws_of_any_input.Goals as goal

pub returns : goal.returns
returns c = record { order = laws.inputs_keep_order; tokens = laws.all_stand_in_order; block_ends = laws.all_end_fewer; whole = laws.all_end_all; keys = laws.all_follow_keys; late = laws.late_faults }
