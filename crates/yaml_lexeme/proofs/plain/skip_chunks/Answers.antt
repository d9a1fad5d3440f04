use Rattle.yaml_lexeme.proofs.Readers.PlainLines.{goes_none}
use Rattle.yaml_lexeme.proofs.plain.skip_chunks.Goals as goal

pub returns-else-is_chunk-clause-goes : goal.returns-else-is_chunk-clause-goes
returns-else-is_chunk-clause-goes c = goes_none c.args.in_flow c.args.least c.args.cursor.now
