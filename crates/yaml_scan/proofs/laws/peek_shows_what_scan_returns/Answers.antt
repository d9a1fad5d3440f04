use Rattle.yaml_scan.proofs.SessionCalls.PeekThenScan as laws
use Rattle.yaml_scan.proofs.laws.peek_shows_what_scan_returns.Goals as goal

pub returns : goal.returns
returns c = record { shows = laws.peek_shows_next; skips = laws.skip_takes_peeked }
