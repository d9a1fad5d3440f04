use Rattle.std.proofs.Common.{◌∙◌, sym, ap}
use Rattle.yaml_lexeme.proofs.Readers.GapLines.{gap_alone, gap_ends, gap_goes}
use Rattle.yaml_lexeme.specs.Gap.{after_gap_line}
use Rattle.yaml_lexeme.specs.Place.{break_len}
use Rattle.yaml_lexeme.specs.inside.Moves.{past_break}
use Rattle.std.specs.Prelude.{nat_lt}
use Rattle.yaml_lexeme.proofs.gap.take_gap_lines.Goals as goal

pub returns-then-not-take_gap_line : goal.returns-then-not-take_gap_line
returns-then-not-take_gap_line c =
    let e = c.if-not-take_gap_line.ensures in
    let t = c.takes_tabs.ensures in
    gap_alone c.args.in_flow c.args.allowed c.args.cursor.now c.take_gap_line.new.cursor
    (ap (λ b. nat_lt 0 (break_len (after_gap_line b c.args.cursor.now))) (sym t) ∙ sym e.broken)
    (e.end ∙ ap (λ b. past_break (after_gap_line b c.args.cursor.now)) t)

pub lines-smaller : goal.lines-smaller
lines-smaller c =
    let e = c.lines-test.ensures in
    (gap_goes c.args.in_flow c.lines.cursor c.take_gap_line-in-lines.new.cursor (after_gap_line c.args.in_flow c.take_gap_line.new.cursor) (sym e.broken) e.end c.lines.invariant).0

pub lines-preserved : goal.lines-preserved
lines-preserved c =
    let e = c.lines-test.ensures in
    (gap_goes c.args.in_flow c.lines.cursor c.take_gap_line-in-lines.new.cursor (after_gap_line c.args.in_flow c.take_gap_line.new.cursor) (sym e.broken) e.end c.lines.invariant).1

pub returns : goal.returns
returns c =
    let e = c.if-not-take_gap_line.ensures in
    let f = c.lines-test.ensures in
    let t = c.takes_tabs.ensures in
    gap_ends c.args.in_flow c.args.allowed c.args.cursor.now c.take_gap_line.new.cursor c.lines.cursor c.take_gap_line-in-lines.new.cursor
    (ap (λ b. nat_lt 0 (break_len (after_gap_line b c.args.cursor.now))) (sym t) ∙ sym e.broken)
    (e.end ∙ ap (λ b. past_break (after_gap_line b c.args.cursor.now)) t)
    c.lines.invariant (sym f.broken) f.end
