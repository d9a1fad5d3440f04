use Rattle.std.proofs.Common.{rules}
use Rattle.yaml_scan.proofs.give.put_or_return.Goals as goal

pub returns-clause-within : goal.returns-clause-within
returns-clause-within c = search rules
