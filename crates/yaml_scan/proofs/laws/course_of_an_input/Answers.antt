use Rattle.yaml_scan.proofs.Course.CourseSteps as laws
use Rattle.yaml_scan.proofs.laws.course_of_an_input.Goals as goal

pub returns : goal.returns
returns c = record { history = laws.course_is_history; ends = laws.ends_or_faults; near = laws.near_step_is_refused; far = laws.far_step_is_itself; run = laws.course_is_run; refused = laws.refused_has_fault; accepted = laws.accepted_is_cut; front = laws.front_is_cut }
