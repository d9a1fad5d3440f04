use Rattle.yaml_lexeme.proofs.CountedMarks.CountedPlaces as law
use Rattle.yaml_lexeme.proofs.laws.marks_are_counted.Goals as goal

pub returns : goal.returns
returns c = record { places = law.places_counted; marks = law.marks_counted }
