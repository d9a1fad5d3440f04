use Rattle.std.proofs.Common.{rules}
use Rattle.yaml_lexeme.specs.Lex.{lex}
use Rattle.yaml_lexeme.proofs.reader.Block_reader_tyaml_reader_t.read.Goals as goal

pub returns-in-Ok-clause-value : goal.returns-in-Ok-clause-value
unfolding lex
returns-in-Ok-clause-value g c = search rules

pub returns-in-Err-clause-value : goal.returns-in-Err-clause-value
unfolding lex
returns-in-Err-clause-value g c = search rules
