use Rattle.std.proofs.Common.{◌≡◌, ap, ◌∙◌}
use Rattle.std.proofs.lemmas.Result.{err_from_is_err_and}
use Rattle.yaml_lexeme.proofs.Readers.BlockLines.{line_refused, line_taken}
use Rattle.yaml_lexeme.specs.Place.{first}
use Rattle.yaml_text.specs.Classes.{is_blank}
use Rattle.yaml_lexeme.proofs.block.take_line.Goals as goal

pub returns-in_err-take_blank_lines : goal.returns-in_err-take_blank_lines
returns-in_err-take_blank_lines c =
    let p = c.args.cursor.now in
    let e = err_from_is_err_and c.from_residual-in_err-take_blank_lines.result c.from_residual-in_err-take_blank_lines.ensures.1 in
    rw (e.1, e.2) (line_refused c.in_err-take_blank_lines.field-0.0 c.args.indent p c.take_blank_lines.new.cursor (rw c.in_ok-fed.ensures.end at c.in_err-take_blank_lines.ensures))

pub returns : goal.returns
returns c =
    let p = c.args.cursor.now in
    let indented : c.is_blank-tail.result ≡ is_blank (first p) = c.is_blank-tail.ensures ∙ ap is_blank c.peek.ensures in
    let blanks = rw (c.in_ok-fed.ensures.end, c.clear_empties.ensures) at c.in_ok-take_blank_lines.ensures in
    line_taken c.args.indent p c.take_blank_lines.new.cursor c.args.out.now.items c.take_text.new.out.items _ c.in_ok-take_blank_lines.field-0 c.in_ok-fed.ensures.lead c.in_ok-fed.ensures.fed indented c.in_ok-fed.ensures.text blanks
