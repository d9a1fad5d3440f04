-- The key slots of a running scanner, in the words of the definitions.
use Rattle.std.specs.Prelude.{◌≡◌, ◌≢◌, ℕ, zero, suc, ◌+◌, ◌-◌, ◌<◌, ◌≤◌, take, slice_get, Bool, not, ◌&&◌, List, []}
use Rattle.std.specs.Prelude.{◌∷◌, ◌++◌, length, nat_eq, nat_le, Option, Some, None, option_map, if◌then◌else◌}
use Rattle.yaml_text.specs.declared.types.yaml_mark_t.{yaml_mark_t}
use Rattle.yaml_scan.specs.Kind.{Kind, is_flow_start, is_flow_end, is_value, is_candidate_kind}
use Rattle.yaml_scan.specs.Laid.{Laid, names, reach}
use Rattle.yaml_scan.specs.Keys.{candidate, only_live}
use Rattle.yaml_scan.specs.Levels.{is_required}
-- what is kept of a candidate: the number of its step, its start, and whether it is required
pub use Rattle.yaml_scan.specs.declared.keys.candidate_t.{candidate_t as Held}

-- the first lexeme is step 2, after STREAM-START
abbrev pub held_of : Laid → Held
held_of c = record { step = c.number + 2; start = c.lexeme.start; required = is_required c }

-- the candidate of depth k, while it is live
abbrev pub held : ℕ → List Laid → ℕ → Option Held
held limit H k = option_map held_of (only_live limit (reach H) (candidate H k))

abbrev pub is_live : ℕ → yaml_mark_t → Held → Bool
is_live limit m h = nat_eq m.line h.start.line && nat_le m.index (h.start.index + limit)

-- a stale one is dropped
abbrev pub still_held : ℕ → yaml_mark_t → Option Held → Option Held
still_held limit m None = None
still_held limit m (Some h) = if is_live limit m h then Some h else None

-- a required one that is stale
abbrev pub lost_held : ℕ → yaml_mark_t → Option Held → Option Held
lost_held limit m None = None
lost_held limit m (Some h) = if h.required && not (is_live limit m h) then Some h else None

-- a required one that is live
abbrev pub needed : ℕ → yaml_mark_t → Option Held → Option Held
needed limit m None = None
needed limit m (Some h) = if h.required && is_live limit m h then Some h else None

-- the candidates of the depths below n
abbrev pub outer_to : ℕ → List Laid → ℕ → List (Option Held)
outer_to limit H zero = []
outer_to limit H (suc m) = outer_to limit H m ++ held limit H m ∷ []

-- what is in a slot after a lexeme of kind k read at its depth
abbrev pub slot_after : Kind → Bool → Held → Option Held → Option Held
slot_after k allowed new old = if is_candidate_kind k then (if allowed then Some new else old) else None

-- the candidate of depth 0, by the slots
abbrev pub root_of : List (Option Held) → Option Held → Option Held
root_of [] top = top
root_of (h ∷ hs) top = h

-- how many of the lowest slots are empty
abbrev pub empty_slots : List (Option Held) → ℕ
empty_slots [] = 0
empty_slots (None ∷ hs) = suc (empty_slots hs)
empty_slots (Some h ∷ hs) = 0

-- the candidate of the least depth
abbrev pub lowest : List (Option Held) → Option Held
lowest [] = None
lowest (None ∷ hs) = lowest hs
lowest (Some h ∷ hs) = Some h

-- no slot below n holds a candidate
abbrev pub AreEmptyBelow : ℕ → List (Option Held) → Type 0
AreEmptyBelow n hs = (k : ℕ) (h : Held) → k < n → slice_get hs k ≢ Some (Some h)

-- candidates are on one line, those of greater depths start no earlier
abbrev pub AreNested : List (Option Held) → Type 0
AreNested hs = (k n : ℕ) (h g : Held) → k < n → slice_get hs k ≡ Some (Some h) → slice_get hs n ≡ Some (Some g)
    → (g.start.line ≡ h.start.line) × (h.start.index ≤ g.start.index)

-- the number of its step, or 0
abbrev pub held_step : Option Held → ℕ
held_step None = 0
held_step (Some h) = h.step

-- the candidate that a lexeme of kind k completes at m, of that of its depth
abbrev pub completed_held : Kind → ℕ → yaml_mark_t → Option Held → Option Held
completed_held k limit m top = if is_value k then still_held limit m top else None

-- a column outside flow is the level
abbrev pub is_level : Bool → Option ℕ → ℕ → Bool
is_level in_flow l c = not in_flow && names c l

-- THE NEXT DEPTH
-- the outer slots after a lexeme of kind k
abbrev pub nested_outer : Kind → List (Option Held) → Option Held → List (Option Held)
nested_outer k outer top = if is_flow_start k then outer ++ top ∷ []
    else (if is_flow_end k then take (length outer - 1) outer else outer)

abbrev pub or_top : Option Held → Option (Option Held) → Option Held
or_top top None = top
or_top top (Some h) = h

-- the slot of the new depth after a lexeme of kind k
abbrev pub nested_top : Kind → List (Option Held) → Option Held → Option Held
nested_top k outer top = if is_flow_start k then None
    else (if is_flow_end k then or_top top (slice_get outer (length outer - 1)) else top)
