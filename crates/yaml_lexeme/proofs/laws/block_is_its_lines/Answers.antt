use Rattle.yaml_lexeme.proofs.Grammars.BlockGrammar as refusal
use Rattle.yaml_lexeme.proofs.LongestLists.BlockLongest as law
use Rattle.yaml_lexeme.proofs.laws.block_is_its_lines.Goals as goal

pub returns : goal.returns
returns c = record {
  line = law.text_parts;
  line_refused = law.text_refused;
  text = law.block_lines;
  refused = refusal.block_refused;
  empties = law.empties_longest;
  longest = law.lines_longest;
}
