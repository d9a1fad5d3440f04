use Rattle.yaml_scan.proofs.CountedMarks.TokenMarks.{answers_are_counted, sessions_are_counted, reach_is_counted}
use Rattle.yaml_scan.proofs.laws.marks_are_counted.Goals as goal

pub returns : goal.returns
returns c = record { inputs = answers_are_counted; sessions = sessions_are_counted; reach = reach_is_counted }
