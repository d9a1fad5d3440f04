use Rattle.yaml_lexeme.proofs.LongestLists.GapLongest as law
use Rattle.yaml_lexeme.proofs.laws.gap_is_longest.Goals as goal

pub returns : goal.returns
returns c = record { gaps = law.gap_longest; runs = law.run_longest }
