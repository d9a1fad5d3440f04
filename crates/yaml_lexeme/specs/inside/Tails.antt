-- What the code keeps of the lines of a block scalar, and what was read of them.
use Rattle.std.specs.Prelude.{◌≡◌, ℕ, ◌<◌, ◌++◌, ◌∷◌, List, [], length, replicate, Result, Ok, Err, Some}
use Rattle.std.specs.Prelude.{Bool, true, not, ◌&&◌, ◌||◌, if◌then◌else◌}
use Rattle.yaml_text.specs.declared.types.yaml_mark_t.{yaml_mark_t}
use Rattle.yaml_text.specs.Chars.{utf8}
use Rattle.yaml_lexeme.specs.declared.block.empties_t.{empties_t}
use Rattle.yaml_lexeme.specs.declared.block.tail_t.{tail_t}
use Rattle.yaml_lexeme.specs.declared.block.chomp_t.{chomp_t}
use Rattle.yaml_lexeme.specs.declared.block.chomp_t.TheVariants.{STRIP, CLIP, KEEP}
use Rattle.yaml_lexeme.specs.declared.problem.yaml_refusal_t.{yaml_refusal_t}
use Rattle.yaml_lexeme.specs.Place.{Place}
use Rattle.yaml_lexeme.specs.Reading.{Read}
use Rattle.yaml_lexeme.specs.inside.Gives.{Refuses}
use Rattle.yaml_lexeme.specs.Block.{or_none, is_line_feed}
use Rattle.yaml_lexeme.specs.Classes.{line_feed}
use Rattle.yaml_lexeme.specs.Fold.{or_space}
use Rattle.yaml_lexeme.specs.inside.BlockAhead.{Blanks, Line, is_more_indented}

-- the breaks of empty lines, in bytes
abbrev pub breaks_in : empties_t → List ℕ
breaks_in e = replicate e.feeds line_feed ++ e.others.items

-- empty lines were read up to a mark: the greatest column of their spaces, and their breaks appended to `old`
abbrev pub TakesBlanks : Result ℕ yaml_refusal_t → List ℕ → List ℕ → yaml_mark_t → Place → Read Blanks → Type 0
TakesBlanks (Ok column) old new end q (Ok f) =
    (column ≡ f.value.column) × (new ≡ old ++ utf8 f.value.breaks) × (end ≡ f.value.end) × (q ≡ f.end)
TakesBlanks (Ok column) old new end q (Err e) = ⊥
TakesBlanks (Err e) old new end q read = Refuses e q read

-- a line feed that was appended with the text before it, or none
abbrev pub feed_if : Bool → List ℕ
feed_if fed = if fed then line_feed ∷ [] else []

-- what is kept of a text line
pub record Keeps (tail : tail_t) (line : Line) : Type 0 where
  pub lead : tail.lead ≡ line.break
  pub fed : tail.fed ≡ true → tail.lead ≡ Some line_feed
  pub empties : breaks_in tail.empties ≡ utf8 line.empties
  pub indented : tail.indented ≡ is_more_indented line
  pub end : tail.end ≡ line.end

-- A break that was appended with its text is a line feed, and what was appended is in the list.
pub record IsFed (tail : tail_t) (out : List ℕ) : Type 0 where
  pub lead : tail.fed ≡ true → tail.lead ≡ Some line_feed
  pub some : tail.fed ≡ true → 0 < length out

-- a text line was read, and its text appended to `old`, perhaps with the line feed that ends it
abbrev pub TakesLine : Result (Unit {0}) yaml_refusal_t → List ℕ → List ℕ → tail_t → Place → Read Line → Type 0
TakesLine (Ok _) old new tail q (Ok f) =
    Keeps tail f.value × (new ≡ (old ++ utf8 f.value.text) ++ feed_if tail.fed) × (q ≡ f.end)
TakesLine (Ok _) old new tail q (Err e) = ⊥
TakesLine (Err e) old new tail q read = Refuses e q read

-- what is between a line and the next, in bytes
abbrev pub between_tail : Bool → tail_t → Bool → List ℕ
between_tail folded t next =
    if (folded && is_line_feed t.lead) && not (t.indented || next) then or_space (breaks_in t.empties)
    else utf8 (or_none t.lead) ++ breaks_in t.empties

-- what comes after the last line, in bytes
abbrev pub chomped_tail : chomp_t → tail_t → List ℕ
chomped_tail STRIP t = []
chomped_tail CLIP t = utf8 (or_none t.lead)
chomped_tail KEEP t = utf8 (or_none t.lead) ++ breaks_in t.empties
