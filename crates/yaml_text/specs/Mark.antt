-- Marks and places of a text, counted from its front (YAML 1.1, section 5.4), and where its last characters begin.
use Rattle.std.specs.Prelude.{ℕ, suc, ◌≡◌, ◌-◌, ◌≤◌, Bool, false, not, List, [], ◌∷◌, length, take, drop, reverse}
use Rattle.std.specs.Prelude.{slice_index, if◌then◌else◌}
use Rattle.std.specs.List.{prefix_len}
use Rattle.yaml_text.specs.Chars.{utf8}
use Rattle.yaml_text.specs.Classes.{is_break, is_crlf}
use Rattle.yaml_text.specs.declared.types.yaml_mark_t.{yaml_mark_t}
use Rattle.yaml_text.specs.MarkOn.{ends_break}

abbrev pub one_more_if : Bool → ℕ → ℕ
one_more_if b n = if b then suc n else n

-- how many breaks are in the characters
abbrev pub break_count : List ℕ → ℕ
break_count [] = 0
break_count (c ∷ after) = one_more_if (ends_break c after) (break_count after)

-- how many characters come after the last break
unfoldable pub column : List ℕ → ℕ
column cs = prefix_len (λ c. not (is_break c)) (reverse cs)

-- the mark after these characters
abbrev pub mark_of : List ℕ → yaml_mark_t
mark_of before = record { index = length (utf8 before); line = break_count before; column = column before }

-- CR and LF of one break are on the two sides
abbrev pub cuts_break : List ℕ → List ℕ → Bool
cuts_break before left = is_crlf (slice_index before (length before - 1)) (slice_index left 0)

-- The place p of a text is at this index of its UTF-8, and not between CR and LF.
pub record IsPlaceAt (text : List ℕ) (index p : ℕ) : Type 0 where
  pub within : p ≤ length text
  pub index_is : index ≡ length (utf8 (take p text))
  pub whole : cuts_break (take p text) (drop p text) ≡ false

abbrev pub IsPlace : List ℕ → ℕ → Type 0
IsPlace text index = (p : ℕ) × IsPlaceAt text index p

-- the mark of the place p
abbrev pub mark_at : List ℕ → ℕ → yaml_mark_t
mark_at text p = mark_of (take p text)

-- the mark is that of the place p of the text
pub record IsMarkAt (text : List ℕ) (mark : yaml_mark_t) (p : ℕ) : Type 0 where
  pub place : IsPlaceAt text mark.index p
  pub mark_is : mark ≡ mark_at text p

-- The index at which the last `count` characters of a text begin, or all of them, if it has fewer: how many bytes the
-- characters before them take.
abbrev pub index_from_end : List ℕ → ℕ → ℕ
index_from_end text count = length (utf8 (take (length text - count) text))
