-- Whether a key is allowed at a lexeme.
use Rattle.std.specs.Prelude.{ℕ, Bool, true, ◌&&◌, ◌||◌, List, [], ◌∷◌, nat_eq, nat_lt}
use Rattle.yaml_text.specs.declared.types.yaml_mark_t.{yaml_mark_t}
use Rattle.yaml_scan.specs.Kind.{Kind, is_key, is_value, is_plain, invites_key}
use Rattle.yaml_scan.specs.Laid.{Laid, is_none, reach}
use Rattle.yaml_scan.specs.Depth.{depth}

-- after a lexeme of kind k, read at depth d; lone: it completed nothing
abbrev pub allows : Kind → ℕ → Bool → Bool → Bool
allows k d lone passed_break = invites_key k
    || ((nat_eq d 0 && (is_key k || (is_value k && lone))) || (is_plain k && passed_break))

-- by the last lexeme, and at the start of the stream
abbrev pub allowed_after : List Laid → Bool
allowed_after [] = true
allowed_after (i ∷ H) = allows i.lexeme.kind i.depth (is_none i.completed) i.lexeme.passed_break

-- by the last lexeme, or at depth 0 by a break in the gap, which ends at g
unfoldable pub allowed : List Laid → yaml_mark_t → Bool
allowed H g = allowed_after H || (nat_eq (depth H) 0 && nat_lt (reach H).line g.line)
