use Rattle.std.proofs.Common.{◌≡◌, true, sym, arith, ◌∙◌}
use Rattle.yaml_lexeme.proofs.Readers.GapLines.{gap_none, gap_space}
use Rattle.yaml_lexeme.specs.inside.Runs.{is_solid}
use Rattle.yaml_lexeme.specs.Place.{first, peek, skip}
use Rattle.yaml_lexeme.proofs.gap.short_gap.Goals as goal

pub returns-then-is_solid : goal.returns-then-is_solid
returns-then-is_solid c =
    let p = c.args.cursor.now in
    rw c.again.ensures (gap_none p (sym c.is_solid.ensures ∙ c.if-is_solid.true))

pub returns-then-is_solid-2 : goal.returns-then-is_solid-2
returns-then-is_solid-2 c =
    let p = c.args.cursor.now in
    let space : first p ≡ 32 = omega (arith, c.peek.ensures) in
    let next : is_solid (peek p 1) ≡ true = cc in
    let end : c.pass.new.self ≡ skip 1 p = cc in
    rw end (gap_space p space next)
