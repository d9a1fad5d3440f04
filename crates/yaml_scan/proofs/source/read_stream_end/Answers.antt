use Rattle.yaml_lexeme.specs.LexemeOf.{lexeme_of}
use Rattle.yaml_lexeme.specs.declared.kind.yaml_lexeme_kind_t.TheVariants.{STREAM_END}
use Rattle.yaml_scan.proofs.Texts.TextPlaces.{read_there}
use Rattle.yaml_scan.proofs.source.read_stream_end.Goals as goal

pub returns : goal.returns
returns c = λ p depth level i. read_there c.args.text.now.chars STREAM_END depth level p (lexeme_of c.yaml_read_stream_end.result) (c.yaml_read_stream_end.ensures p (record { depth = depth; level = level }) i)
