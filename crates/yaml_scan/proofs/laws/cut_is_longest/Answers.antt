use Rattle.yaml_scan.proofs.Course.LongestCut as laws
use Rattle.yaml_scan.proofs.Course.CourseSteps as courses
use Rattle.yaml_scan.proofs.laws.cut_is_longest.Goals as goal

pub returns : goal.returns
returns c = record { longest = laws.cut_is_longest; beginnings = courses.steps_begin_cut; only = courses.cut_is_only; history = laws.cut_is_history; short = laws.cut_is_short }
