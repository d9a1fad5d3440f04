use Rattle.yaml_lexeme.proofs.LongestLists.QuotedLongest as law
use Rattle.yaml_lexeme.proofs.laws.quoted_is_its_parts.Goals as goal

pub returns : goal.returns
returns c = record { parts = law.quoted_parts; refused = law.quoted_refused; longest = law.quoted_longest }
