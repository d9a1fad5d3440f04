use Rattle.std.proofs.Common.{◌≡◌, ◌++◌, length, false}
use Rattle.yaml_lexeme.proofs.Readers.FoldSeparators.{breaks_at, CopiesBreaks}
use Rattle.yaml_lexeme.specs.Classes.{is_white}
use Rattle.yaml_lexeme.specs.Place.{first, after_run}
use Rattle.yaml_text.specs.Chars.{utf8}
use Rattle.yaml_text.specs.Classes.{is_blank}
use Rattle.yaml_lexeme.proofs.fold.push_breaks.Given as goal

abbrev pub invariant-breaks : goal.invariant-breaks
invariant-breaks l =
    CopiesBreaks l.cursor (after_run is_white l.fn.cursor) l.out.items (l.fn.out.items ++ utf8 (breaks_at l.fn.cursor)) × (is_blank (first l.cursor) ≡ false)

abbrev pub decreases-breaks : goal.decreases-breaks
decreases-breaks l = length l.cursor.rest
