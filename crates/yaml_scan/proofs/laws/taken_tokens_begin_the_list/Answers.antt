use Rattle.yaml_scan.proofs.SessionCalls.SessionTokens as sessions
use Rattle.yaml_scan.proofs.Course.CourseSteps as courses
use Rattle.yaml_scan.proofs.laws.taken_tokens_begin_the_list.Goals as goal

pub returns : goal.returns
returns c = record { beginning = sessions.taken_are_beginning; goes_on = courses.none_is_stuck }
