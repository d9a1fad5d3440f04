use Rattle.std.proofs.Common.{◌≡◌, ◌-◌}
use Rattle.yaml_lexeme.specs.Place.{skip}
use Rattle.yaml_lexeme.proofs.place.cursor_t.skip.Given as goal

abbrev pub invariant-count : goal.invariant-count
invariant-count l = skip (l.n - l.counter) l.self ≡ skip l.n l.initial.self
