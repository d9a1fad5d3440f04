-- The value of a run of blanks and breaks (YAML 1.1, 6.5 Line Folding).
use Rattle.std.specs.Prelude.{ℕ, ◌==◌, if◌then◌else◌, List, [], ◌∷◌}
use Rattle.yaml_text.specs.MarkOn.{ends_break}
use Rattle.yaml_lexeme.specs.Classes.{is_kept_break, line_feed}

-- a break as it is written in a value (YAML 1.1, 5.4 Line Break Characters)
abbrev pub written : ℕ → ℕ
written c = if is_kept_break c then c else line_feed

-- the breaks of a run as they are written, CR LF being one
abbrev pub breaks : List ℕ → List ℕ
breaks [] = []
breaks (c ∷ cs) = if ends_break c cs then written c ∷ breaks cs else breaks cs

-- a space, if there is no break
abbrev pub or_space : List ℕ → List ℕ
or_space [] = 0x20 ∷ []
or_space (b ∷ bs) = b ∷ bs

-- a run without breaks is its own value; a first break that is written as a line feed is a space if it is the only one,
-- and else gives nothing
abbrev pub fold_as : List ℕ → List ℕ → List ℕ
fold_as run [] = run
fold_as run (b ∷ bs) = if b == line_feed then or_space bs else b ∷ bs

-- a separator's value, from its breaks
unfoldable pub fold : List ℕ → List ℕ
fold run = fold_as run (breaks run)
