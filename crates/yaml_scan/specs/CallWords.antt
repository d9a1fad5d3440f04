-- The answers to a list of calls can be put in words.
use Rattle.std.specs.Prelude.{List, [], ◌∷◌}
use Rattle.yaml_scan.specs.Words.{HasWords, HasLine}
use Rattle.yaml_scan.specs.Seen.{Seen}
use Rattle.yaml_scan.specs.Seen.Seen.{TOKEN, PEEKED, SKIPPED, NOTHING, FAULT}

-- what is seen of an answer
abbrev pub SeenHasLine : Seen → Type 0
SeenHasLine (TOKEN token) = HasWords token.token_data
SeenHasLine (PEEKED kind start end) = Unit {0}
SeenHasLine SKIPPED = Unit {0}
SeenHasLine NOTHING = Unit {0}
SeenHasLine (FAULT fault) = HasLine fault

abbrev pub SeenHaveLines : List Seen → Type 0
SeenHaveLines [] = Unit {0}
SeenHaveLines (a ∷ more) = SeenHasLine a × SeenHaveLines more
