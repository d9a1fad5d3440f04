use Rattle.std.proofs.Common.{rules}
use Rattle.yaml_scan.proofs.sink.hand_token.Goals as goal

pub returns-then-not-this : goal.returns-then-not-this
returns-then-not-this c = search rules
