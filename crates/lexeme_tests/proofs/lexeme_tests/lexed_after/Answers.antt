use Rattle.std.proofs.Common.{refl, sym}
use Rattle.yaml_lexeme.proofs.CountedMarks.CountedPlaces.{marks_counted}
use Rattle.lexeme_tests.proofs.lexeme_tests.lexed_after.Goals as goal

pub yaml_lexeme_kind-requires : goal.yaml_lexeme_kind-requires
yaml_lexeme_kind-requires c =
    let place = c.if-not-yaml_is_place.ensures.0 refl in
    (place.0, (marks_counted c.in_ok-text.text.chars c.args.index place.0 c.yaml_mark_at-at.result place.1).0 (c.yaml_mark_at-at.ensures place.0 place.1))

pub yaml_lexeme_at-requires-clause-place : goal.yaml_lexeme_at-requires-clause-place
yaml_lexeme_at-requires-clause-place c =
    let place = c.if-not-yaml_is_place.ensures.0 refl in
    let m = (marks_counted c.in_ok-text.text.chars c.args.index place.0 c.yaml_mark_at-at.result place.1).0 (c.yaml_mark_at-at.ensures place.0 place.1) in
    (place.0, m, sym (c.in-Some.ensures place.0 m))
