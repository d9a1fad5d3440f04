use Rattle.std.proofs.Common.{◌≡◌, ◌++◌, refl, arith}
use Rattle.std.specs.Char.{encode_utf8}
use Rattle.yaml_lexeme.proofs.Readers.FoldSeparators.{breaks_blanks, breaks_more, breaks_end, shorter_blanks, stopped}
use Rattle.yaml_lexeme.specs.Classes.{is_white}
use Rattle.yaml_lexeme.specs.Fold.{written}
use Rattle.yaml_lexeme.specs.Place.{first, skip, after_run, break_len}
use Rattle.yaml_text.specs.Classes.{is_blank}
use Rattle.yaml_lexeme.proofs.fold.push_breaks.Goals as goal

pub breaks-init : goal.breaks-init
breaks-init c =
    let p = c.args.cursor.now in
    rw c.skip_run.ensures (breaks_blanks p (after_run is_white p) _ _ (record { value = refl; end = refl }), stopped is_blank p refl)

pub breaks-preserved : goal.breaks-preserved
breaks-preserved c =
    let p = c.breaks.cursor in
    let at : c.skip_run-in-breaks.new.self ≡ after_run is_blank (skip (break_len p) p) = cc in
    let pushed : c.push_char.new.out.items ≡ c.breaks.out.items ++ encode_utf8 (written (first p)) = cc (c.in_ok-push_char.ensures) in
    rw (at, pushed) (breaks_more p (after_run is_white c.args.cursor.now) _ _ (omega arith) c.breaks.invariant.0, stopped is_blank (skip (break_len p) p) refl)

pub breaks-smaller : goal.breaks-smaller
breaks-smaller c =
    let p = c.breaks.cursor in
    let at : c.skip_run-in-breaks.new.self ≡ after_run is_blank (skip (break_len p) p) = cc in
    rw at (shorter_blanks p (omega arith))

pub returns : goal.returns
returns c =
    let done = breaks_end c.breaks.cursor (after_run is_white c.args.cursor.now) _ _ (omega arith) c.breaks.invariant.1 c.breaks.invariant.0 in
    record { value = done.0; end = done.1 }
