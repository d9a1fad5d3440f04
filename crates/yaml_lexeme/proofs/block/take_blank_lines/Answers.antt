use Rattle.std.proofs.Common.{◌≡◌, ◌++◌, ◌<◌, length, max, Ok, ap, arith}
use Rattle.yaml_text.specs.declared.types.yaml_mark_t.{yaml_mark_t}
use Rattle.std.proofs.lemmas.Result.{err_from_is_err_and}
use Rattle.std.specs.Char.{encode_utf8}
use Rattle.yaml_lexeme.proofs.Readers.BlockLines.{Blanking, blanking_begins, first_refused, next_refused, next_line, blanks_taken}
use Rattle.yaml_lexeme.specs.Block.{after_indent}
use Rattle.yaml_lexeme.specs.Fold.{written}
use Rattle.yaml_lexeme.specs.Place.{first, skip, break_len}
use Rattle.yaml_lexeme.specs.inside.Tails.{breaks_in}
use Rattle.yaml_lexeme.proofs.block.take_blank_lines.Goals as goal
use Rattle.yaml_lexeme.proofs.block.take_blank_lines.Goals.{In_ok-take_indent-2}

pub lines-init : goal.lines-init
lines-init c = blanking_begins c.args.limit c.args.cursor.now c.take_indent.new.cursor (breaks_in c.args.breaks.now) c.mark.result c.mark.ensures.value c.in_ok-take_indent.ensures

pub returns-in_err-take_indent : goal.returns-in_err-take_indent
returns-in_err-take_indent c =
    let e = err_from_is_err_and c.from_residual.result c.from_residual.ensures.1 in
    rw (e.1, e.2) (first_refused c.in_err-take_indent.field-0.0 c.args.limit c.args.cursor.now c.take_indent.new.cursor (breaks_in c.args.breaks.now) c.in_err-take_indent.ensures)

next : (c : In_ok-take_indent-2) → (length c.take_indent-in-lines.new.cursor.rest < length c.lines.cursor.rest)
    × Blanking c.args.limit c.args.cursor.now (breaks_in c.args.breaks.now) c.take_indent-in-lines.new.cursor (breaks_in c.push_empty.new.empties) c.max-column.result c.mark-in-lines-2.result
next c =
    let q = c.lines.cursor in
    let at : c.skip.new.self ≡ skip (break_len q) q = cc in
    let pushed : (breaks_in c.push_empty.new.empties) ≡ (breaks_in c.lines.breaks) ++ encode_utf8 (written (first q)) = cc (c.in_ok-push_empty.ensures) in
    let wide : c.max-column.result ≡ max c.lines.column q.mark.column = omega (arith, c.max-column.ensures, ap (λ (m : yaml_mark_t). m.column) c.mark-in-lines.ensures.value) in
    let mark : c.mark-in-lines-2.result ≡ (skip (break_len q) q).mark = rw at at c.mark-in-lines-2.ensures.value in
    let indent : after_indent c.args.limit (skip (break_len q) q) ≡ Ok c.take_indent-in-lines.new.cursor = rw at at c.in_ok-take_indent-2.ensures in
    next_line c.args.limit c.args.cursor.now (breaks_in c.args.breaks.now) q c.take_indent-in-lines.new.cursor (breaks_in c.lines.breaks) (breaks_in c.push_empty.new.empties) c.lines.column c.max-column.result c.lines.end c.mark-in-lines-2.result (omega arith) c.lines.invariant pushed wide mark indent

pub lines-preserved : goal.lines-preserved
lines-preserved c = (next (goal.at.lines-preserved c).In_ok-take_indent-2).1

pub lines-smaller : goal.lines-smaller
lines-smaller c = (next (goal.at.lines-smaller c).In_ok-take_indent-2).0

pub returns-in_err-take_indent-2 : goal.returns-in_err-take_indent-2
returns-in_err-take_indent-2 c =
    let q = c.lines.cursor in
    let at : c.skip.new.self ≡ skip (break_len q) q = cc in
    let e = err_from_is_err_and c.from_residual-in_err-take_indent-2.result c.from_residual-in_err-take_indent-2.ensures.1 in
    rw (e.1, e.2) (next_refused c.in_err-take_indent-2.field-0.0 c.args.limit c.args.cursor.now (breaks_in c.args.breaks.now) q c.take_indent-in-lines.new.cursor (breaks_in c.lines.breaks) c.lines.column c.lines.end (omega arith) c.lines.invariant (rw at at c.in_err-take_indent-2.ensures))

pub returns : goal.returns
returns c = blanks_taken c.args.limit c.args.cursor.now (breaks_in c.args.breaks.now) c.lines.cursor (breaks_in c.lines.breaks) c.lines.column c.lines.end (omega arith) c.lines.invariant
