use Rattle.std.proofs.Common.{rules}
use Rattle.yaml_scan.proofs.parser.yaml_parser_t.new.Goals as goal

pub returns : goal.returns
returns c = search rules
