use Rattle.std.proofs.Common.{rules}
use Rattle.yaml_scan.proofs.levels.ends_early.Goals as goal

pub returns-then-is_stream_end : goal.returns-then-is_stream_end
returns-then-is_stream_end c = search rules
