use Rattle.yaml_lexeme.proofs.LongestLists.UriLongest as law
use Rattle.yaml_lexeme.proofs.laws.uri_is_its_parts.Goals as goal

pub returns : goal.returns
returns c = record { parts = law.uri_parts; refused = law.uri_refused; longest = law.uri_longest }
