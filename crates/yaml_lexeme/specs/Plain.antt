-- Plain scalars (YAML 1.1, 9.1.3 Plain).
use Rattle.std.specs.Prelude.{ℕ, ◌+◌, Bool, not, ◌&&◌, ◌||◌, ◌==◌, nat_lt, if◌then◌else◌, List, [], ◌∷◌, ◌++◌}
use Rattle.std.specs.Prelude.{length, take, slice_index, codes, Option, option_map, unwrap_or}
use Rattle.std.specs.List.{list_any, flat_map, find, range_with_len}
use Rattle.yaml_text.specs.Chars.{utf8}
use Rattle.yaml_text.specs.Classes.{is_break}
use Rattle.yaml_lexeme.specs.declared.problem.yaml_problem_t.TheVariants.{COLON_IN_FLOW, TAB_IN_PLAIN}
use Rattle.yaml_lexeme.specs.Lexeme.{Scalar}
use Rattle.yaml_lexeme.specs.Classes.{is_white, ends, is_one_of}
use Rattle.yaml_lexeme.specs.Place.{Place, peek, first, skip, run, run_len, after_run}
use Rattle.yaml_lexeme.specs.Kind.{is_marker}
use Rattle.yaml_lexeme.specs.Fold.{fold}
use Rattle.yaml_lexeme.specs.Reading.{Read, found, refuse, ◌>>=◌, Part, part, over, many}

-- `least` is everywhere the least column of a line that goes on: the greatest open level + 1, or 0.

abbrev pub is_flow_indicator : ℕ → Bool
is_flow_indicator c = is_one_of (codes ",[]{}") c

-- in flow, a `:` that is not allowed in a chunk
abbrev pub is_bad_colon : Bool → ℕ → ℕ → Bool
is_bad_colon flow c next = flow && (c == 0x3A && (next == 0x3F || is_flow_indicator next))

-- c, which `next` follows, belongs to a chunk
abbrev pub is_chunk : Bool → ℕ → ℕ → Bool
is_chunk flow c next =
    (not (ends c || (c == 0x3A && ends next)) && not (flow && is_flow_indicator c)) && not (is_bad_colon flow c next)

-- how many characters belong to a chunk
abbrev pub chunk_len : Bool → List ℕ → ℕ
chunk_len flow [] = 0
chunk_len flow (c ∷ cs) = if is_chunk flow c (slice_index cs 0) then 1 + chunk_len flow cs else 0

-- as many characters of a chunk as possible
unfoldable pub chunk : Bool → Place → Read (List ℕ)
chunk flow p =
    let end = skip (chunk_len flow p.rest) p in
    if is_bad_colon flow (first end) (peek end 1) then refuse COLON_IN_FLOW end
    else found (take (chunk_len flow p.rest) p.rest) end

-- k characters after p, in the separator there, is a tab in indentation: after a break, at a column below `least`
abbrev pub has_bad_tab : ℕ → Place → ℕ → Bool
has_bad_tab least p k =
    let q = skip k p in (first q == 0x09 && list_any is_break (take k p.rest)) && nat_lt q.mark.column least

-- the place of the first tab in indentation, if the separator at p has one
abbrev pub bad_tab : ℕ → Place → Option Place
bad_tab least p = option_map (λ k. skip k p) (find (has_bad_tab least p) (range_with_len 0 (run_len is_white p)))

-- The longest run of blanks and breaks, with its value. A tab in indentation is an offence.
unfoldable pub separator : ℕ → Place → Read (List ℕ)
separator least p =
    let end = after_run is_white p in
    unwrap_or (option_map (refuse TAB_IN_PLAIN) (bad_tab least p)) (found (fold (run is_white p)) end)

-- the scalar is over after a separator
abbrev pub is_over : Bool → ℕ → Place → Bool
is_over flow least p = (not flow && nat_lt p.mark.column least) || (is_marker p || first p == 0x23)

-- a separator and the chunk after it
unfoldable pub link : Bool → ℕ → Place → Part (List ℕ)
link flow least p =
    if not (is_white (first p)) then over
    else separator least p >>= λ gap.
    if is_over flow least gap.end then over
    else chunk flow gap.end >>= λ c.
    if length c.value == 0 then over else part (gap.value ++ c.value) c.end

-- A chunk, then separators and chunks: the value, the mark after the last chunk, and whether a break is in the
-- separator after it, which is read too.
unfoldable pub plain : Bool → ℕ → Place → Read Scalar
plain flow least p = do
  head ← chunk flow p
  links ← many (link flow least) head.end
  found (record {
    value = utf8 head.value ++ flat_map utf8 links.value;
    end = links.end.mark;
    passed_break = list_any is_break (run is_white links.end);
  }) (after_run is_white links.end)
