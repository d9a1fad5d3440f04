use Rattle.std.proofs.Common.{◌≡◌, true, false, not, ◌||◌, ◌==◌, refl}
use Rattle.yaml_lexeme.proofs.Readers.QuotedBody.{at_break, takes_unmarked}
use Rattle.yaml_lexeme.proofs.Readers.FoldSeparators.{breaks_at}
use Rattle.yaml_lexeme.specs.Classes.{is_white}
use Rattle.yaml_lexeme.specs.Place.{first, peek, skip, after_run, break_len}
use Rattle.yaml_lexeme.specs.Quoted.{quote, body_part}
use Rattle.yaml_text.specs.Classes.{is_z, is_break}
use Rattle.yaml_lexeme.proofs.quoted.take_dropped_break.Goals as goal

pub returns : goal.returns
returns c =
    let p = c.args.cursor.now in
    let q = skip (break_len (skip 1 p)) (skip 1 p) in
    let more : is_z (first p) ≡ false = rw c.requires.backslash refl in
    let other : is_white (first p) ≡ false = rw c.requires.backslash refl in
    let inside : (first p == quote false) ≡ false = rw c.requires.backslash refl in
    let plain : (false || not (first p == 0x5C)) ≡ false = rw c.requires.backslash refl in
    let break : is_break (peek p 1) ≡ true = c.requires.line_end in
    let at : c.skip.new.self ≡ q = cc in
    let end = rw at at c.in_ok-push_breaks.ensures.end in
    rw end (takes_unmarked (body_part false p) c.unmarked-more.result (breaks_at q) _ _ p (after_run is_white q) (at_break false p more other inside plain break) (rw end at c.unmarked-more.ensures) (rw at at c.in_ok-push_breaks.ensures.value))
