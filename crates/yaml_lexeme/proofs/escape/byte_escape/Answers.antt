use Rattle.yaml_lexeme.specs.declared.escape.TheConstants.{BYTES}
use Rattle.yaml_lexeme.specs.inside.CommonEscapes.{byte_escape}
use Rattle.yaml_lexeme.proofs.Places.AsciiTables.{table_is}
use Rattle.yaml_lexeme.proofs.escape.byte_escape.Goals as goal

pub returns : goal.returns
returns c = table_is BYTES byte_escape c.args.c c.if-c-ge128.false tt
