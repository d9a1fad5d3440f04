use Rattle.std.proofs.Common.{refl}
use Rattle.yaml_lexeme.proofs.CountedMarks.CountedPlaces.{marks_counted}
use Rattle.testbench.proofs.ask.mark_at.Goals as goal

pub returns : goal.returns
returns c =
    let place = c.if-not-yaml_is_place.ensures.0 refl in
    let counted = marks_counted c.args.text.now.chars c.args.index place.0 c.yaml_mark_at.result place.1 in
    (place.0, counted.0 (c.yaml_mark_at.ensures place.0 place.1))
