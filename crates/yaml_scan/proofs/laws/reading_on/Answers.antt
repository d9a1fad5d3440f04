use Rattle.yaml_scan.proofs.SessionCalls.ReadingOn as laws
use Rattle.yaml_scan.proofs.laws.reading_on.Goals as goal

pub returns : goal.returns
returns c = record { all = laws.all_is_told; rest = laws.rest_is_told; in_turn = laws.scans_read_on }
