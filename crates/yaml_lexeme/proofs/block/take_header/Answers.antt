use Rattle.std.proofs.Common.{rules}
use Rattle.yaml_lexeme.specs.Block.{header_at}
use Rattle.yaml_lexeme.proofs.block.take_header.Goals as goal

pub returns-clause-value : goal.returns-clause-value
unfolding header_at
returns-clause-value c = search rules
