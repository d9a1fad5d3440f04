-- Quoted scalars (YAML 1.1, 9.1.1 Double Quoted and 9.1.2 Single Quoted).
use Rattle.std.specs.Prelude.{ℕ, Bool, not, ◌&&◌, ◌||◌, ◌==◌, if◌then◌else◌, List, [], ◌∷◌}
use Rattle.std.specs.List.{flat_map}
use Rattle.yaml_text.specs.Chars.{utf8}
use Rattle.yaml_text.specs.Classes.{is_break, is_z}
use Rattle.yaml_lexeme.specs.declared.problem.yaml_problem_t.TheVariants.{DOCUMENT_MARKER, END_OF_TEXT}
use Rattle.yaml_lexeme.specs.Classes.{is_white}
use Rattle.yaml_lexeme.specs.Place.{Place, peek, first, skip, run, after_run, break_len}
use Rattle.yaml_lexeme.specs.Kind.{is_marker}
use Rattle.yaml_lexeme.specs.Fold.{fold, breaks}
use Rattle.yaml_lexeme.specs.Escape.{backslash, escape}
use Rattle.yaml_lexeme.specs.Reading.{Read, found, refuse, ◌>>=◌, Part, part, over, many}

abbrev pub quote : Bool → ℕ
quote single = if single then 0x27 else 0x22

-- no document marker may follow a part that holds a break
abbrev pub unmarked : List ℕ → Place → Part (List ℕ)
unmarked value p = if is_marker p then refuse DOCUMENT_MARKER p else part value p

-- A part of the body, up to the closing quote: a separator, in single quotes a doubled quote, in double quotes
-- a dropped break with the run after it or an escape, or a character that stands for itself.
unfoldable pub body_part : Bool → Place → Part (List ℕ)
body_part single p =
    let c = first p in
    let after_break = skip (break_len (skip 1 p)) (skip 1 p) in
    if is_z c then refuse END_OF_TEXT p
    else if is_white c then unmarked (fold (run is_white p)) (after_run is_white p)
    else if c == quote single && not (single && peek p 1 == c) then over
    else if c == quote single then part (c ∷ []) (skip 2 p)
    else if single || not (c == backslash) then part (c ∷ []) (skip 1 p)
    else if is_break (peek p 1) then unmarked (breaks (run is_white after_break)) (after_run is_white after_break)
    else escape p >>= λ r. part (r.value ∷ []) r.end

-- the bytes of a list of parts
abbrev pub spelled : Read (List (List ℕ)) → Read (List ℕ)
spelled parts = parts >>= λ r. found (flat_map utf8 r.value) r.end

-- the bytes between the quotes, from the opening quote on
unfoldable pub quoted : Bool → Place → Read (List ℕ)
quoted single p = do
  body ← spelled (many (body_part single) (skip 1 p))
  found body.value (skip 1 body.end)
