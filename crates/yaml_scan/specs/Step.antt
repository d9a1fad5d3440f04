-- The step after a list of lexemes: the next lexeme, or the fault.
use Rattle.std.specs.Prelude.{ℕ, ◌+◌, Bool, not, ◌&&◌, ◌||◌, List, [], ◌∷◌, nat_eq, nat_lt, Option, Some, None}
use Rattle.std.specs.Prelude.{Ok, Err, codes, if◌then◌else◌}
use Rattle.yaml_text.specs.declared.types.yaml_mark_t.{yaml_mark_t}
use Rattle.yaml_text.specs.Fault.{scanner_fault}
use Rattle.yaml_scan.specs.Kind.{Kind, is_stream_end, is_block_entry, is_key, is_value, is_candidate_kind}
use Rattle.yaml_scan.specs.Laid.{Laid, is_none, Lexeme}
use Rattle.yaml_scan.specs.Depth.{depth}
use Rattle.yaml_scan.specs.Keys.{candidate, live, only_live, completed_by}
use Rattle.yaml_scan.specs.Allowed.{allowed, allowed_after}
use Rattle.yaml_scan.specs.Levels.{level, laid, is_required}
use Rattle.yaml_scan.specs.Source.{Source, Reading, Offence}

-- THE TEXTS OF ITS FAULTS
-- problems
abbrev pub no_token : List ℕ
no_token = codes "found character that cannot start any token"

abbrev pub no_colon : List ℕ
no_colon = codes "could not find expected ':'"

abbrev pub entry_not_allowed : List ℕ
entry_not_allowed = codes "block sequence entries are not allowed in this context"

abbrev pub key_not_allowed : List ℕ
key_not_allowed = codes "mapping keys are not allowed in this context"

abbrev pub value_not_allowed : List ℕ
value_not_allowed = codes "mapping values are not allowed in this context"

-- contexts
abbrev pub in_next_token : List ℕ
in_next_token = codes "while scanning for the next token"

abbrev pub in_simple_key : List ℕ
in_simple_key = codes "while scanning a simple key"

-- WHAT IT GIVES
pub data Outcome : Type 0 where
  Reads : Lexeme → Outcome
  Faults : Offence → Outcome

-- the place up to which H was read
abbrev pub place_after : List Laid → ℕ
place_after [] = 0
place_after (i ∷ H) = i.lexeme.place

-- THE REQUIRED CANDIDATE
-- the candidate, if it is required
abbrev pub only_required : Option Laid → Option Laid
only_required None = None
only_required (Some i) = if is_required i then Some i else None

-- the candidate of depth 0, if it is required
unfoldable pub required : List Laid → Option Laid
required H = only_required (candidate H 0)

-- the candidate, if it is not live at m
abbrev pub only_stale : ℕ → yaml_mark_t → Option Laid → Option Laid
only_stale limit m None = None
only_stale limit m (Some i) = if live limit i m then None else Some i

-- the required candidate, if it is not live at m
unfoldable pub stale : ℕ → List Laid → yaml_mark_t → Option Laid
stale limit H m = only_stale limit m (required H)

-- a candidate that starts at a mark has no `:`, as is found at the mark m of place p
abbrev pub lost : yaml_mark_t → yaml_mark_t → ℕ → Offence
lost start m p = record { fault = scanner_fault no_colon m (Some in_simple_key) start; place = p }

-- a lost candidate comes first
abbrev pub unless : Option Laid → yaml_mark_t → ℕ → Outcome → Outcome
unless None m p o = o
unless (Some i) m p o = Faults (lost i.lexeme.start m p)

-- WHAT IS NOT ALLOWED
-- the problem of a `-`, a `?` or a `:` that completes nothing
abbrev pub problem_of : Kind → Bool → Option (List ℕ)
problem_of k lone = if is_block_entry k then Some entry_not_allowed else if is_key k then Some key_not_allowed
    else if is_value k && lone then Some value_not_allowed else None

-- at depth 0, if no key is allowed
unfoldable pub refused : ℕ → List Laid → Kind → yaml_mark_t → Option (List ℕ)
refused limit H k g = if nat_eq (depth H) 0 && not (allowed H g) then problem_of k (is_none (completed_by limit H k g))
    else None

-- a lexeme is not allowed at the mark m of place p
abbrev pub not_allowed : List ℕ → yaml_mark_t → ℕ → Offence
not_allowed problem m p = record { fault = scanner_fault problem m None m; place = p }

-- a lexeme that is not allowed comes first
abbrev pub refuse : Option (List ℕ) → yaml_mark_t → ℕ → Outcome → Outcome
refuse None m p o = o
refuse (Some problem) m p o = Faults (not_allowed problem m p)

-- THE LEXEME
-- a lexeme of kind k clears or replaces the candidate of its depth
abbrev pub replaces : Kind → Bool → Bool
replaces k allowed = not (is_value k) && (not (is_candidate_kind k) || allowed)

-- the live required candidate that a lexeme of kind k would clear or replace, after the gap that ends at g
unfoldable pub clears : ℕ → List Laid → Kind → yaml_mark_t → Option Laid
clears limit H k g = if replaces k (allowed H g) && nat_eq (depth H) 0 then only_live limit g (required H) else None

-- the mark of a stream end: the text's end, or the start of the line after it
abbrev pub end_of : yaml_mark_t → yaml_mark_t
end_of g = if nat_eq g.column 0 then g else record { index = g.index; line = g.line + 1; column = 0 }

-- the mark at which a lexeme of kind k starts after the gap that ends at g
abbrev pub start_at : Kind → yaml_mark_t → yaml_mark_t
start_at k g = if is_stream_end k then end_of g else g

-- the lexeme of kind k that was read after the gap that ends at g
abbrev pub lexeme_of : Kind → yaml_mark_t → Reading → Lexeme
lexeme_of k g r = record {
  kind = k;
  token_data = r.token_data;
  gap_end = g;
  start = start_at k g;
  end = r.end;
  reach = r.reach;
  place = r.place;
  passed_break = r.passed_break;
}

-- THE STEP
-- no lexeme starts at p, of mark m
abbrev pub no_kind : yaml_mark_t → ℕ → Offence
no_kind m p = record { fault = scanner_fault no_token m (Some in_next_token) m; place = p }

-- the place where the gap after H ends
abbrev pub gap_end_of : Source → List Laid → ℕ
gap_end_of S H = S.gap (nat_lt 0 (depth H)) (allowed_after H) (place_after H)

-- The first that fits of seven rows, after the gap that ends at p, of mark g.
unfoldable pub step : Source → ℕ → List Laid → Outcome
step S limit H =
    let p = gap_end_of S H in
    let g = S.mark p in
    -- 1. the required candidate is stale
    unless (stale limit H g) g p (elim (S.kind (nat_lt 0 (depth H)) p) [
      -- 2. there is no kind
      | None ↦ Faults (no_kind g p)
      -- 3. the kind needs a key to be allowed, and none is
      | Some k ↦ refuse (refused limit H k g) g p
          -- 4. the lexeme would clear or replace the live required candidate
          (unless (clears limit H k g) (start_at k g) p (elim (S.read k (depth H) (level H k (start_at k g)) p) [
            -- 5. it cannot be read
            | Err o ↦ Faults o
            | Ok r ↦
                let x = lexeme_of k g r in
                -- 6. the required candidate, of it and those before it, is stale at its reach
                unless (stale limit (laid limit H x ∷ H) x.reach) x.reach x.place
                -- 7. the lexeme
                (Reads x)
          ]))
    ])
