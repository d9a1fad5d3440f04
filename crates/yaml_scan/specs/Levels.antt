-- Indentation levels: the columns of block collections that are open.
use Rattle.std.specs.Prelude.{ℕ, Bool, true, not, ◌&&◌, ◌||◌, List, [], ◌∷◌, map, filter, length, nat_eq, nat_lt}
use Rattle.std.specs.Prelude.{nat_le, Option, Some, None, max, option_map}
use Rattle.std.specs.List.{list_any, list_all}
use Rattle.yaml_text.specs.declared.types.yaml_mark_t.{yaml_mark_t}
use Rattle.yaml_scan.specs.Kind.{Kind, is_block_entry, is_key, is_value, closes_all}
use Rattle.yaml_scan.specs.Laid.{Laid, column, is_none, names, Lexeme}
use Rattle.yaml_scan.specs.Depth.{depth}
use Rattle.yaml_scan.specs.Allowed.{allowed}
use Rattle.yaml_scan.specs.Keys.{completed_by}

-- a lexeme of kind k that starts at m, in flow or not, keeps a column open
abbrev pub stays : Bool → Kind → yaml_mark_t → ℕ → Bool
stays flow k m c = flow || (not (closes_all k) && nat_le c m.column)

-- a lexeme of kind k that starts at m, at depth d, keeps a column open
abbrev pub keeps : ℕ → Kind → yaml_mark_t → ℕ → Bool
keeps d k m c = stays (nat_lt 0 d) k m c

-- a column is above a level, or there is none
abbrev pub is_above : ℕ → Option ℕ → Bool
is_above c None = true
is_above c (Some l) = nat_lt l c

-- a `-`, a `?`, or a `:` that completes nothing
abbrev pub opens_level : Kind → Bool → Bool
opens_level k lone = is_block_entry k || (is_key k || (is_value k && lone))

-- i opens a level, if its column is above
abbrev pub is_opener : Laid → Bool
is_opener i = opens_level i.lexeme.kind (is_none i.completed)

-- a `:` of H completes i
unfoldable pub is_completed : List Laid → Laid → Bool
is_completed H i = list_any (λ j. names i.number j.completed) H

-- i, read at depth 0, opens its column in H: the column is above the level at i, and i is an opener or its key is
-- completed
unfoldable pub opens : List Laid → Laid → Bool
opens H i = nat_eq i.depth 0 && (is_above (column i) i.level && (is_opener i || is_completed H i))

-- every lexeme of H after i keeps its column
unfoldable pub still_open : List Laid → Laid → Bool
still_open H i = list_all (λ j. nat_le j.number i.number || keeps j.depth j.lexeme.kind j.lexeme.start (column i)) H

-- the columns that are still open in H, the newest first, which is the greatest
unfoldable pub open_columns : List Laid → List ℕ
open_columns H = map column (filter (λ i. opens H i && still_open H i) H)

-- the open columns that a lexeme of kind k keeps, which starts at m after H
unfoldable pub staying_columns : List Laid → Kind → yaml_mark_t → List ℕ
staying_columns H k m = filter (keeps (depth H) k m) (open_columns H)

-- the greater one of a column and a level
abbrev pub greater_of : ℕ → Option ℕ → Option ℕ
greater_of c None = Some c
greater_of c (Some l) = Some (max c l)

-- the greatest of some columns
abbrev pub greatest_level : List ℕ → Option ℕ
greatest_level [] = None
greatest_level (c ∷ cs) = greater_of c (greatest_level cs)

-- the greatest level at a lexeme of kind k that starts at m after H, or none
unfoldable pub level : List Laid → Kind → yaml_mark_t → Option ℕ
level H k m = greatest_level (staying_columns H k m)

-- a candidate of depth 0 whose column is the greatest level is required
abbrev pub is_required : Laid → Bool
is_required i = nat_eq i.depth 0 && names (column i) i.level

-- the lexeme x in its setting after H
unfoldable pub laid : ℕ → List Laid → Lexeme → Laid
laid limit H x = record {
  lexeme = x;
  number = length H;
  depth = depth H;
  key_allowed = allowed H x.gap_end;
  completed = option_map (λ i. i.number) (completed_by limit H x.kind x.start);
  level = level H x.kind x.start;
  closed = filter (λ c. not (keeps (depth H) x.kind x.start c)) (open_columns H);
}
