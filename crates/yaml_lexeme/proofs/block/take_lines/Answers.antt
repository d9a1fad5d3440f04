use Rattle.std.proofs.Common.{◌≡◌, ◌<◌, true, false, length, refl, sym, ap, ◌∙◌}
use Rattle.std.proofs.lemmas.Result.{err_from_is_err_and}
use Rattle.yaml_text.specs.declared.types.yaml_mark_t.{yaml_mark_t}
use Rattle.yaml_lexeme.proofs.Readers.BlockLines.{Blocking, header_refused, start_refused, leading_refused, blocks_begin, blocks_fed, blocks_more, blocks_all, blocks_refused}
use Rattle.yaml_lexeme.specs.Block.{header_at, block_indent, set_indent, is_text}
use Rattle.yaml_lexeme.specs.Place.{first, skip}
use Rattle.yaml_lexeme.specs.Reading.{found}
use Rattle.yaml_text.specs.Classes.{is_blank}
use Rattle.yaml_lexeme.proofs.block.take_lines.Goals as goal
use Rattle.yaml_lexeme.proofs.block.take_lines.Goals.{In_ok-take_line}

pub returns-in_err-header : goal.returns-in_err-header
returns-in_err-header c =
    let e = err_from_is_err_and c.from_residual.result c.from_residual.ensures.1 in
    rw (e.1, e.2) (header_refused c.in_err-header.field-0.0 c.args.folded c.args.level c.args.cursor.now c.take_header.new.cursor (rw c.advance.ensures at c.in_err-header.ensures.value))

pub returns-in_err-take_line_end : goal.returns-in_err-take_line_end
returns-in_err-take_line_end c =
    let e = err_from_is_err_and c.from_residual-in_err-take_line_end.result c.from_residual-in_err-take_line_end.ensures.1 in
    let p = c.args.cursor.now in
    let header : header_at (skip 1 p) ≡ found c.in_ok-header.header c.take_header.new.cursor = rw c.advance.ensures at c.in_ok-header.ensures.value in
    rw (e.1, e.2) (start_refused c.in_err-take_line_end.field-0.0 c.args.folded c.args.level p c.take_line_end.new.cursor c.in_ok-header.header c.take_header.new.cursor header c.in_err-take_line_end.ensures)

pub returns-in_err-column : goal.returns-in_err-column
returns-in_err-column c =
    let e = err_from_is_err_and c.from_residual-in_err-column.result c.from_residual-in_err-column.ensures.1 in
    let p = c.args.cursor.now in
    let header : header_at (skip 1 p) ≡ found c.in_ok-header.header c.take_header.new.cursor = rw c.advance.ensures at c.in_ok-header.ensures.value in
    rw (e.1, e.2) (leading_refused c.in_err-column.field-0.0 c.args.folded c.args.level p c.take_blank_lines.new.cursor c.in_ok-header.header c.take_header.new.cursor c.take_line_end.new.cursor header c.in_ok-take_line_end.ensures (rw c.set_indent-set.ensures at c.in_err-column.ensures))

pub lines-init : goal.lines-init
lines-init c =
    let p = c.args.cursor.now in
    let q = c.take_blank_lines.new.cursor in
    let header : header_at (skip 1 p) ≡ found c.in_ok-header.header c.take_header.new.cursor = rw c.advance.ensures at c.in_ok-header.ensures.value in
    let blanks = rw (c.set_indent-set.ensures, c.new.ensures.items) at c.in_ok-column.ensures in
    let indent : c.block_indent-indent.result ≡ block_indent c.args.level (set_indent c.args.level c.in_ok-header.header.digit) c.in_ok-column.column q.mark.column =
    rw c.set_indent-set.ensures at c.block_indent-indent.ensures ∙ ap (λ (m : yaml_mark_t). block_indent c.args.level (set_indent c.args.level c.in_ok-header.header.digit) c.in_ok-column.column m.column) c.mark-2.ensures.value in
    rw c.in_ok-out.ensures.items (blocks_begin c.args.folded c.args.level p c.in_ok-header.header c.take_header.new.cursor c.take_line_end.new.cursor q c.in_ok-column.column c.block_indent-indent.result _ header c.in_ok-take_line_end.ensures blanks refl refl refl indent)

pub push_between-requires : goal.push_between-requires
push_between-requires c = blocks_fed c.args.folded c.args.level c.args.cursor.now c.in_ok-header.header.chomp c.block_indent-indent.result c.lines.cursor c.lines.out.items c.lines.tail c.lines.invariant

pub push_chomped-requires : goal.push_chomped-requires
push_chomped-requires c = blocks_fed c.args.folded c.args.level c.args.cursor.now c.in_ok-header.header.chomp c.block_indent-indent.result c.lines.cursor c.lines.out.items c.lines.tail c.lines.invariant

pub returns-in_err-take_line : goal.returns-in_err-take_line
returns-in_err-take_line c =
    let e = err_from_is_err_and c.from_residual-in_err-take_line.result c.from_residual-in_err-take_line.ensures.1 in
    let p = c.lines.cursor in
    let there : is_text c.block_indent-indent.result p ≡ true = sym c.is_text.ensures ∙ c.lines-test.true in
    rw (e.1, e.2) (blocks_refused c.in_err-take_line.field-0.0 c.args.folded c.args.level c.args.cursor.now c.in_ok-header.header.chomp c.block_indent-indent.result p c.take_line.new.cursor c.lines.out.items c.lines.tail there c.lines.invariant c.in_err-take_line.ensures)

next : (c : In_ok-take_line) → (length c.take_line.new.cursor.rest < length c.lines.cursor.rest)
    × Blocking c.args.folded c.args.level c.args.cursor.now c.in_ok-header.header.chomp c.block_indent-indent.result c.take_line.new.cursor c.take_line.new.out.items c.take_line.new.tail
next c =
    let p = c.lines.cursor in
    let there : is_text c.block_indent-indent.result p ≡ true = sym c.is_text.ensures ∙ c.lines-test.true in
    let blank : c.is_blank.result ≡ is_blank (first p) = c.is_blank.ensures ∙ ap is_blank c.peek.ensures in
    blocks_more c.args.folded c.args.level c.args.cursor.now c.in_ok-header.header.chomp c.block_indent-indent.result p c.take_line.new.cursor c.lines.out.items c.push_between.new.out.items c.take_line.new.out.items c.lines.tail c.take_line.new.tail c.is_blank.result there c.lines.invariant blank c.in_ok-push_between.ensures c.in_ok-take_line.ensures

pub lines-preserved : goal.lines-preserved
lines-preserved c = (next (goal.at.lines-preserved c).In_ok-take_line).1

pub lines-smaller : goal.lines-smaller
lines-smaller c = (next (goal.at.lines-smaller c).In_ok-take_line).0

pub returns : goal.returns
returns c =
    let p = c.lines.cursor in
    let none : is_text c.block_indent-indent.result p ≡ false = sym c.is_text.ensures ∙ c.lines-test.false in
    blocks_all c.args.folded c.args.level c.args.cursor.now c.in_ok-header.header.chomp c.block_indent-indent.result p c.lines.out.items c.push_chomped.new.out.items c.lines.tail none c.lines.invariant c.in_ok-push_chomped.ensures
