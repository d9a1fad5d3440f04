use Rattle.yaml_lexeme.specs.KindSets.{marker_kind}
use Rattle.yaml_lexeme.specs.LexemeOf.{lexeme_of}
use Rattle.yaml_scan.proofs.Texts.TextPlaces.{read_there}
use Rattle.yaml_scan.specs.SourceOf.{source_of}
use Rattle.yaml_scan.proofs.source.read_marker.Goals as goal

pub yaml_read_marker-requires : goal.yaml_read_marker-requires
unfolding source_of
yaml_read_marker-requires c = c.requires

pub returns : goal.returns
returns c = λ p depth level i. read_there c.args.text.now.chars (marker_kind c.args.start) depth level p (lexeme_of c.yaml_read_marker.result) (c.yaml_read_marker.ensures p (record { depth = depth; level = level }) i)
