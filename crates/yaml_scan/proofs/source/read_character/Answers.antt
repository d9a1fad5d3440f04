use Rattle.yaml_lexeme.specs.LexemeOf.{lexeme_of}
use Rattle.yaml_scan.proofs.Texts.TextPlaces.{read_there}
use Rattle.yaml_scan.specs.SourceOf.{source_of}
use Rattle.yaml_scan.proofs.source.read_character.Goals as goal

pub yaml_read_character-requires-clause-place : goal.yaml_read_character-requires-clause-place
unfolding source_of
yaml_read_character-requires-clause-place c = c.requires.place

pub returns : goal.returns
returns c = λ p depth level i. read_there c.args.text.now.chars c.args.kind depth level p (lexeme_of c.yaml_read_character.result) (c.yaml_read_character.ensures p (record { depth = depth; level = level }) i)
