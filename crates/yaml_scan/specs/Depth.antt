-- Flow depth: how many flow collections are open.
use Rattle.std.specs.Prelude.{ℕ, ◌-◌, List, [], ◌∷◌, map, filter, length}
use Rattle.yaml_lexeme.specs.Greatest.{greatest}
use Rattle.yaml_scan.specs.Kind.{is_flow_start, is_flow_end}
use Rattle.yaml_scan.specs.Laid.{Laid}

-- the latest parts of a list: none of its lexemes, the latest one, the latest two, and so on up to all
abbrev pub latest_parts : List Laid → List (List Laid)
latest_parts [] = [] ∷ []
latest_parts (i ∷ H) = [] ∷ map (λ e. i ∷ e) (latest_parts H)

-- flow starts minus flow ends
abbrev pub unclosed : List Laid → ℕ
unclosed e = length (filter (λ i. is_flow_start i.lexeme.kind) e) - length (filter (λ i. is_flow_end i.lexeme.kind) e)

-- the greatest, over all latest parts, of flow starts minus flow ends: a flow end at depth 0 counts nothing
unfoldable pub depth : List Laid → ℕ
depth H = greatest (map unclosed (latest_parts H))
