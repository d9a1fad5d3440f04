-- Places where reading ends are not between CR and LF, so that their marks are the counted ones.
use Rattle.std.specs.Prelude.{ℕ, ◌≡◌, ◌≤◌, ◌↔◌, Bool, List, length, Some, Ok, Err}
use Rattle.yaml_text.specs.TextBytes.{AreChars}
use Rattle.yaml_text.specs.Mark.{IsPlaceAt, IsMarkAt, mark_at}
use Rattle.yaml_text.specs.Token.{TokenData as token}
use Rattle.yaml_text.specs.declared.types.yaml_mark_t.{yaml_mark_t}
use Rattle.yaml_lexeme.specs.declared.kind.yaml_lexeme_kind_t.{yaml_lexeme_kind_t}
use Rattle.yaml_lexeme.specs.declared.kind.yaml_lexeme_kind_t.TheVariants as kind
use Rattle.yaml_lexeme.specs.declared.lex.yaml_context_t.{yaml_context_t}
use Rattle.yaml_lexeme.specs.Lexeme.{Lexeme, whole_of}
use Rattle.yaml_lexeme.specs.StreamEnd.{stream_end}
use Rattle.yaml_lexeme.specs.Gap.{gap}
use Rattle.yaml_lexeme.specs.Kind.{kind_at}
use Rattle.yaml_lexeme.specs.Lex.{lex, in_flow}
use Rattle.yaml_lexeme.specs.Locality.{reach}
use Rattle.yaml_lexeme.specs.Place.{Place, place_at}
use Rattle.yaml_lexeme.specs.Reading.{Offence, Found}

-- q is after n of the text's characters or more, and not between CR and LF
pub record IsWhole (text : List ℕ) (n : ℕ) (q : Place) : Type 0 where
  pub count : ℕ
  pub least : n ≤ count
  pub index : ℕ
  pub place : IsPlaceAt text index count
  pub is : q ≡ place_at text count

-- the place after a gap
abbrev pub GapIsWhole : Type 0
GapIsWhole = (flow allowed : Bool) (text : List ℕ) (index n : ℕ) → IsPlaceAt text index n →
    IsWhole text n (gap flow allowed (place_at text n)).0

-- the place that a lexeme of the kind there reaches, or the place of its problem
abbrev pub ReachIsWhole : Type 0
ReachIsWhole = (k : yaml_lexeme_kind_t) (c : yaml_context_t) (text : List ℕ) (index n : ℕ)
    → IsPlaceAt text index n → kind_at (in_flow c) (place_at text n) ≡ Some k
    → IsWhole text n (reach (lex k c (place_at text n)))

-- the mark is that of a place after n characters or more, which is not between CR and LF
pub record EndsWhole (text : List ℕ) (n : ℕ) (mark : yaml_mark_t) : Type 0 where
  pub at : Place
  pub is : mark ≡ at.mark
  pub whole : IsWhole text n at

-- the place where a lexeme ends, other than the stream end
abbrev pub EndIsWhole : Type 0
EndIsWhole = (k : yaml_lexeme_kind_t) (c : yaml_context_t) (text : List ℕ) (index n : ℕ) (f : Found Lexeme)
    → IsPlaceAt text index n → kind_at (in_flow c) (place_at text n) ≡ Some k → (k ≡ kind.STREAM_END → ⊥)
    → lex k c (place_at text n) ≡ Ok f
    → EndsWhole text n f.value.end_mark

-- the mark is counted from the front of the text up to a place n characters on or more
pub record IsCounted (text : List ℕ) (n : ℕ) (mark : yaml_mark_t) : Type 0 where
  pub count : ℕ
  pub least : n ≤ count
  pub at : IsMarkAt text mark count

-- So the mark of a gap's end is counted,
abbrev pub GapIsCounted : Type 0
GapIsCounted = (flow allowed : Bool) (text : List ℕ) (index n : ℕ) → IsPlaceAt text index n →
    IsCounted text n (gap flow allowed (place_at text n)).0.mark

-- and the marks of a lexeme, other than the stream end,
abbrev pub LexemeIsCounted : Type 0
LexemeIsCounted =
    (k : yaml_lexeme_kind_t) (c : yaml_context_t) (text : List ℕ) (index n : ℕ) (f : Found Lexeme)
    → IsPlaceAt text index n → kind_at (in_flow c) (place_at text n) ≡ Some k → (k ≡ kind.STREAM_END → ⊥)
    → lex k c (place_at text n) ≡ Ok f
    → IsCounted text n f.value.start_mark × IsCounted text n f.value.end_mark × IsCounted text n f.value.reach

-- and the mark of a problem.
abbrev pub ProblemIsCounted : Type 0
ProblemIsCounted = (k : yaml_lexeme_kind_t) (c : yaml_context_t) (text : List ℕ) (index n : ℕ) (e : Offence)
    → IsPlaceAt text index n → kind_at (in_flow c) (place_at text n) ≡ Some k
    → lex k c (place_at text n) ≡ Err e
    → IsCounted text n e.at.mark

-- A stream end is at a place of a text exactly if that is the text's end,
abbrev pub StreamEndIsLast : Type 0
StreamEndIsLast = (flow : Bool) (text : List ℕ) (index n : ℕ) → AreChars text → IsPlaceAt text index n →
    (kind_at flow (place_at text n) ≡ Some kind.STREAM_END) ↔ (n ≡ length text)

-- and its three marks are then that of the text's end, or of the next line's start if the column there is not 0.
abbrev pub StreamEndIsCounted : Type 0
StreamEndIsCounted = (c : yaml_context_t) (text : List ℕ) (index : ℕ) (f : Found Lexeme)
    → IsPlaceAt text index (length text) → lex kind.STREAM_END c (place_at text (length text)) ≡ Ok f
    → (let end = stream_end (mark_at text (length text)) in f.value ≡ whole_of token.STREAM_END end end)
