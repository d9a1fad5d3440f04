-- The order of places and of marks.
use Rattle.std.specs.Prelude.{◌≡◌, ℕ, ◌+◌, ◌≤◌, Bool, true, false, length, Some, Ok, Err, ◌-◌}
use Rattle.yaml_text.specs.declared.types.yaml_mark_t.{yaml_mark_t}
use Rattle.yaml_lexeme.specs.declared.kind.yaml_lexeme_kind_t.{yaml_lexeme_kind_t}
use Rattle.yaml_lexeme.specs.declared.kind.yaml_lexeme_kind_t.TheVariants as kind
use Rattle.yaml_lexeme.specs.Place.{Place, skip}
use Rattle.yaml_lexeme.specs.Gap.{gap}
use Rattle.yaml_lexeme.specs.Kind.{kind_at}
use Rattle.yaml_lexeme.specs.declared.lex.yaml_context_t.{yaml_context_t}
use Rattle.yaml_lexeme.specs.Reading.{Offence, Found}
use Rattle.yaml_lexeme.specs.Lex.{lex, in_flow}
use Rattle.yaml_lexeme.specs.Lexeme.{Lexeme}

-- q is n characters or more after p, in the text
pub record IsBeyond (n : ℕ) (p q : Place) : Type 0 where
  pub count : ℕ
  pub least : n ≤ count
  pub within : count ≤ length p.rest
  pub is : q ≡ skip count p

-- b is n characters or more after a
pub record IsAfter (n : ℕ) (a b : yaml_mark_t) : Type 0 where
  pub index : a.index + n ≤ b.index
  pub line : a.line ≤ b.line
  pub column : a.line ≡ b.line → a.column + n ≤ b.column

-- a token from p on takes n characters or more and ends at a mark, and was read up to q
pub record Spans (n : ℕ) (p : Place) (end : yaml_mark_t) (q : Place) : Type 0 where
  pub between : Place
  pub is : end ≡ between.mark
  pub taken : IsBeyond n p between
  pub read : IsBeyond 0 between q

-- A lexeme of a kind that is at p, other than the stream end, starts at p, takes a character or more, and reaches
-- to its end or further: all of these are places of the text.
abbrev pub LexemeSpans : Type 0
LexemeSpans = (k : yaml_lexeme_kind_t) (c : yaml_context_t) (p : Place) (f : Found Lexeme)
    → kind_at (in_flow c) p ≡ Some k → (k ≡ kind.STREAM_END → ⊥) → lex k c p ≡ Ok f
    → (f.value.start_mark ≡ p.mark) × (f.value.reach ≡ f.end.mark) × Spans 1 p f.value.end_mark f.end

-- So its marks are in order, and it takes a byte, and a column if it stays on its line.
abbrev pub LexemeOrder : Type 0
LexemeOrder = (k : yaml_lexeme_kind_t) (c : yaml_context_t) (p : Place) (f : Found Lexeme)
    → kind_at (in_flow c) p ≡ Some k → (k ≡ kind.STREAM_END → ⊥) → lex k c p ≡ Ok f
    → IsAfter 1 f.value.start_mark f.value.end_mark
    × IsAfter 0 f.value.end_mark f.value.reach
    × IsAfter 1 f.value.start_mark f.value.reach

-- A stream end is one mark, not before the place, at column 0.
abbrev pub StreamEndOrder : Type 0
StreamEndOrder = (c : yaml_context_t) (p : Place) (f : Found Lexeme) → lex kind.STREAM_END c p ≡ Ok f
    → (f.value.end_mark ≡ f.value.start_mark)
    × (f.value.reach ≡ f.value.start_mark)
    × IsAfter 0 p.mark f.value.start_mark
    × (f.value.start_mark.column ≡ 0)

-- A problem is where its lexeme would start, or further on: at a place of the text.
abbrev pub OffenceIsBeyond : Type 0
OffenceIsBeyond = (k : yaml_lexeme_kind_t) (c : yaml_context_t) (p : Place) (e : Offence)
    → lex k c p ≡ Err e → IsBeyond 0 p e.at

-- a gap ends where it starts, or further on
abbrev pub GapOrder : Type 0
GapOrder = (flow allowed : Bool) (p : Place)
    → let q = (gap flow allowed p).0 in IsBeyond 0 p q × IsAfter 0 p.mark q.mark

abbrev pub is_stream_end : yaml_lexeme_kind_t → Bool
is_stream_end kind.STREAM_END = true
is_stream_end k = false

-- a lexeme of kind k follows what was read up to `so_far`
pub record Follows (k : yaml_lexeme_kind_t) (so_far : yaml_mark_t) (l : Lexeme) : Type 0 where
  pub start : IsAfter 0 so_far l.start_mark
  pub end : IsAfter 0 l.start_mark l.end_mark
  pub reach : IsAfter 0 l.end_mark l.reach
  pub takes : is_stream_end k ≡ false → IsAfter 1 l.start_mark l.end_mark
  pub last : is_stream_end k ≡ true → (l.end_mark ≡ l.start_mark) × (l.reach ≡ l.start_mark) × (l.start_mark.column ≡ 0)

-- the lexeme after the gap that ends at q
abbrev pub LexemeFollows : Type 0
LexemeFollows = (k : yaml_lexeme_kind_t) (c : yaml_context_t) (allowed : Bool) (q : Place) (f : Found Lexeme)
    → let p = (gap (in_flow c) allowed q).0 in
    kind_at (in_flow c) p ≡ Some k → lex k c p ≡ Ok f → Follows k q.mark f.value

-- how many characters are from p up to q, which is ahead of it
abbrev pub distance : Place → Place → ℕ
distance p q = length p.rest - length q.rest
