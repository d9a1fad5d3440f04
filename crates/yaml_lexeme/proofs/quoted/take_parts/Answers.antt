use Rattle.std.proofs.Common.{not, ◌∙◌, refl, sym, arith}
use Rattle.std.specs.Prelude.{nat_eq}
use Rattle.std.proofs.lemmas.Result.{err_from_is_err_and}
use Rattle.yaml_lexeme.specs.Place.{skip}
use Rattle.yaml_lexeme.specs.Quoted.{body_part, spelled}
use Rattle.yaml_lexeme.specs.Reading.{many, with_front}
use Rattle.yaml_lexeme.proofs.Readers.PlainLines.{links_go_wrong}
use Rattle.yaml_lexeme.proofs.Readers.QuotedBody.{quoted_all, quoted_none}
use Rattle.yaml_lexeme.proofs.quoted.take_parts.Goals as goal

pub parts-preserved : goal.parts-preserved
parts-preserved g c =
    let same = rw c.if-branch.true at c.in_ok-take_turn.ensures.value in
    sym same ∙ c.parts.invariant

pub parts-smaller : goal.parts-smaller
parts-smaller g c = omega (arith, c.in_ok-take_turn.ensures.shorter c.if-branch.true)

pub returns : goal.returns
returns g c = λ p leads.
    let all = rw c.if-branch.false at c.in_ok-take_turn.ensures.value in
    rw c.advance.ensures (quoted_all (not (nat_eq g.row.SINGLE 0)) p (skip 1 p) c.take_turn.new.cursor c.take_turn.new.out.items refl (sym leads ∙ sym c.parts.invariant ∙ all))

pub returns-in_err-take_turn : goal.returns-in_err-take_turn
returns-in_err-take_turn g c = λ p leads.
    let one = body_part (not (nat_eq g.row.SINGLE 0)) in
    let start = skip 1 p in
    let before = with_front c.parts.out.items (spelled (many one c.parts.cursor)) in
    let error = c.in_err-take_turn.field-0.0 in
    let q = c.take_turn.new.cursor in
    let e = err_from_is_err_and c.from_residual.result c.from_residual.ensures.1 in
    rw (e.1, e.2) (quoted_none error (not (nat_eq g.row.SINGLE 0)) p start q refl (links_go_wrong error (spelled (many one start)) before q (sym leads ∙ sym c.parts.invariant) c.in_err-take_turn.ensures.value))
