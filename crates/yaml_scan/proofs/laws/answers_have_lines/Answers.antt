use Rattle.yaml_scan.proofs.SessionCalls.AnswerWords as laws
use Rattle.yaml_scan.proofs.laws.answers_have_lines.Goals as goal

pub returns : goal.returns
returns c = record { inputs = laws.all_have_lines; sessions = laws.sessions_have_lines }
