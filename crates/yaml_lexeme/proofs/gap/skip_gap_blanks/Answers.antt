use Rattle.std.proofs.Common.{◌∙◌}
use Rattle.yaml_lexeme.proofs.Readers.GapLines.{blanks_on}
use Rattle.yaml_lexeme.proofs.gap.skip_gap_blanks.Goals as goal

pub returns : goal.returns
returns c = c.skip_rest.ensures ∙ blanks_on c.args.tabs c.args.cursor.now c.skip_all_spaces.new.self c.skip_all_spaces.ensures
