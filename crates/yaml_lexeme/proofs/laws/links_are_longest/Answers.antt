use Rattle.yaml_lexeme.proofs.LongestLists.PlainLongest as law
use Rattle.yaml_lexeme.proofs.laws.links_are_longest.Goals as goal

pub returns : goal.returns
returns c = record { chunk = law.chunk_longest; link = law.link_longest; over = law.link_over }
