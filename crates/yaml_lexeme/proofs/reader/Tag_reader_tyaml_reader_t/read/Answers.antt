use Rattle.std.proofs.Common.{rules}
use Rattle.yaml_lexeme.specs.Lex.{lex}
use Rattle.yaml_lexeme.proofs.reader.Tag_reader_tyaml_reader_t.read.Goals as goal

pub returns-in-Ok-clause-value : goal.returns-in-Ok-clause-value
unfolding lex
returns-in-Ok-clause-value c = search rules

pub returns-clause-value : goal.returns-clause-value
unfolding lex
returns-clause-value c = search rules
