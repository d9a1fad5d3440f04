-- Simple keys: the candidate of each depth, and how long it is live (YAML 1.1, 10.2 Mapping Styles).
use Rattle.std.specs.Prelude.{ℕ, ◌+◌, Bool, not, ◌&&◌, List, [], ◌∷◌, find, nat_eq, nat_le, Option, Some, None}
use Rattle.std.specs.Prelude.{if◌then◌else◌}
use Rattle.yaml_text.specs.declared.types.yaml_mark_t.{yaml_mark_t}
use Rattle.yaml_scan.specs.Kind.{Kind, is_flow_start, is_value, is_candidate_kind}
use Rattle.yaml_scan.specs.Laid.{Laid}
use Rattle.yaml_scan.specs.Depth.{depth}

-- it is of a candidate kind
abbrev pub is_candidate : Laid → Bool
is_candidate i = is_candidate_kind i.lexeme.kind

-- a flow start that opens depth k
abbrev pub enters : ℕ → Laid → Bool
enters k i = is_flow_start i.lexeme.kind && nat_eq (i.depth + 1) k

-- a candidate kind with no key allowed leaves the old candidate
abbrev pub changes_candidate : Laid → Bool
changes_candidate i = not (is_candidate i && not i.key_allowed)

-- the lexemes after the last flow start that opened depth k, and all of them at depth 0
abbrev pub since : ℕ → List Laid → List Laid
since k [] = []
since k (i ∷ H) = if enters k i then [] else (i ∷ since k H)

-- the lexeme, if it is of a candidate kind
abbrev pub only_candidate : Option Laid → Option Laid
only_candidate None = None
only_candidate (Some i) = if is_candidate i then Some i else None

-- the candidate of depth k: of the lexemes read at it since it was opened, the last one that does not leave the old
-- candidate, if it is of a candidate kind
unfoldable pub candidate : List Laid → ℕ → Option Laid
candidate H k = only_candidate (find (λ i. nat_eq i.depth k && changes_candidate i) (since k H))

-- at a mark on its line, at most limit bytes from its start
abbrev pub live : ℕ → Laid → yaml_mark_t → Bool
live limit i m = nat_eq m.line i.lexeme.start.line && nat_le m.index (i.lexeme.start.index + limit)

-- the candidate, if it is live at m
abbrev pub only_live : ℕ → yaml_mark_t → Option Laid → Option Laid
only_live limit m None = None
only_live limit m (Some i) = if live limit i m then Some i else None

-- the candidate that a lexeme of kind k completes, which starts at m after H: a `:` that of its depth, while it is live
unfoldable pub completed_by : ℕ → List Laid → Kind → yaml_mark_t → Option Laid
completed_by limit H k m = if is_value k then only_live limit m (candidate H (depth H)) else None
