use Rattle.yaml_text.proofs.Marks.MarkCounts.{cut}
use Rattle.yaml_text.proofs.laws.cut_between_characters.Goals as goal

pub returns : goal.returns
returns c = record { before = λ front rest each. (cut front rest each).before; after = λ front rest each. (cut front rest each).left }
