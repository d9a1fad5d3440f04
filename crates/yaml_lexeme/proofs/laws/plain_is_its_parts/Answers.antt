use Rattle.yaml_lexeme.proofs.LongestLists.PlainLongest as law
use Rattle.yaml_lexeme.proofs.laws.plain_is_its_parts.Goals as goal

pub returns : goal.returns
returns c = record { parts = law.plain_parts; refused = law.plain_refused; longest = law.links_longest }
