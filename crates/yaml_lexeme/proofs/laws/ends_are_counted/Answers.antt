use Rattle.yaml_lexeme.proofs.CountedMarks.WholeLexemes as law
use Rattle.yaml_lexeme.proofs.laws.ends_are_counted.Goals as goal

pub returns : goal.returns
returns c = record { gaps = law.gap_is_counted; lexemes = law.lexeme_is_counted; problems = law.problem_is_counted }
