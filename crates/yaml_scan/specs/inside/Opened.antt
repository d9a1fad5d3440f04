-- What a step does to the open levels of a running scanner.
use Rattle.std.specs.Prelude.{ℕ, Bool, true, not, ◌&&◌, List, [], ◌∷◌, ◌++◌, Option, Some, None, if◌then◌else◌}
use Rattle.yaml_text.specs.declared.types.yaml_mark_t.{yaml_mark_t}
use Rattle.yaml_scan.specs.Kind.{Kind}
use Rattle.yaml_scan.specs.Levels.{is_above, greatest_level, opens_level}
use Rattle.yaml_scan.specs.inside.Slots.{Held}

-- a column outside flow is above the levels that are open
abbrev pub is_new : Bool → ℕ → List ℕ → Bool
is_new in_flow c cs = not in_flow && is_above c (greatest_level cs)

-- the levels after a lexeme of kind k at m, which completes the candidate that is held
abbrev pub opened : Bool → Option Held → Kind → yaml_mark_t → List ℕ → List ℕ
opened in_flow None k m cs = (if is_new in_flow m.column cs && opens_level k true then m.column ∷ [] else []) ++ cs
opened in_flow (Some h) k m cs = (if is_new in_flow h.start.column cs then h.start.column ∷ [] else []) ++ cs
