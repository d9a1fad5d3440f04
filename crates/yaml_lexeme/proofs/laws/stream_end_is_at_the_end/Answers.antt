use Rattle.yaml_lexeme.proofs.CountedMarks.LastPlaces as law
use Rattle.yaml_lexeme.proofs.laws.stream_end_is_at_the_end.Goals as goal

pub returns : goal.returns
returns c = record { last = law.stream_end_last; marks = law.stream_end_counted }
