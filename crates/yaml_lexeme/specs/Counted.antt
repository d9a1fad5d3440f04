-- Places found by walking from the front, and marks that are counted.
use Rattle.std.specs.Prelude.{ℕ, ◌≡◌, ◌↔◌, List, drop, ◌≤◌, length}
use Rattle.yaml_text.specs.declared.types.yaml_mark_t.{yaml_mark_t}
use Rattle.yaml_text.specs.Mark.{IsPlaceAt, mark_at}
use Rattle.yaml_lexeme.specs.Place.{place_at}

-- the mark is that of the place after the first n characters of the text
pub record IsMarkOf (text : List ℕ) (mark : yaml_mark_t) (n : ℕ) : Type 0 where
  pub within : n ≤ length text
  pub mark_is : mark ≡ (place_at text n).mark

-- A place that is not between CR and LF has the mark that is counted from the front of the text, and what
-- follows is left.
abbrev pub PlacesAreCounted : Type 0
PlacesAreCounted = (text : List ℕ) (index n : ℕ) → IsPlaceAt text index n →
    ((place_at text n).mark ≡ mark_at text n) × ((place_at text n).rest ≡ drop n text)

-- So a mark is a counted one exactly if it is the mark of a place.
abbrev pub MarksAreCounted : Type 0
MarksAreCounted = (text : List ℕ) (index n : ℕ) (mark : yaml_mark_t) → IsPlaceAt text index n →
    (mark ≡ mark_at text n) ↔ IsMarkOf text mark n
