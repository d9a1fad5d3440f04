use Rattle.yaml_lexeme.proofs.CountedMarks.WholeLexemes as law
use Rattle.yaml_lexeme.proofs.laws.ends_are_whole.Goals as goal

pub returns : goal.returns
returns c = record { gaps = law.gap_is_whole; reaches = law.reach_is_whole; ends = law.end_is_whole }
