use Rattle.std.proofs.Common.{rules}
use Rattle.yaml_lexeme.specs.Lex.{lex}
use Rattle.yaml_lexeme.proofs.lex.yaml_read_stream_end.Goals as goal

pub returns : goal.returns
unfolding lex
returns c = search rules
