use Rattle.std.proofs.Common.{◌≡◌, Some, sym, ap, ◌∙◌, subst, refl, inr}
use Rattle.yaml_text.specs.Fault.{Fault, fault_of}
use Rattle.yaml_scan.specs.declared.fed.yaml_fed_t.{yaml_fed_t}
use Rattle.yaml_scan.specs.declared.fed.yaml_fed_t.TheVariants as code
use Rattle.yaml_c.specs.Ahead.{Ahead, IsAhead}
use Rattle.yaml_c.specs.Ahead.Ahead.{READ_FAULT}
use Rattle.yaml_c.specs.inside.PieceBatch.{EndsPiece, TellsEnd}
use Rattle.yaml_c.proofs.PieceTokens.{fault_ended}
use Rattle.yaml_c.proofs.pieces.end_piece.Goals as goal

-- a fault that comes next is kept
pub unreachable-requires : goal.unreachable-requires
unreachable-requires c =
    let r = c.requires in
    let w = r.4 c.in-FAULT.is in
    let e = fault_ended _ _ w.0 (subst (λ (z : Ahead). IsAhead c.args.ahead.now r.0.session.fault z) w.1 r.3) in
    let n = c.in-None.ensures r.0 r.2 in
    let k = n ∙ e in absurd (cc)

-- a room is full
pub returns-in-ROOM-clause-ends : goal.returns-in-ROOM-clause-ends
returns-in-ROOM-clause-ends c = λ p a is ahead w.
    let n = c.shown_len.ensures p is in
    inr (
      refl,
      refl,
      subst (λ (z : yaml_fed_t). TellsEnd p a c.args.rooms.now c.end_full.new.answer c.end_full.result z) (sym c.in-ROOM.is)
          (n.0, n.1, c.end_full.ensures n.0 n.2),
    )

-- the stream end was given
pub returns-in-OVER-clause-ends : goal.returns-in-OVER-clause-ends
returns-in-OVER-clause-ends c = λ p a is ahead w.
    inr (
      refl,
      refl,
      subst (λ (z : yaml_fed_t). TellsEnd p a c.args.rooms.now c.end_over.new.answer c.end_over.result z) (sym c.in-OVER.is)
          (c.end_over.ensures p a),
    )

-- the fault comes next
pub returns-in-Some-clause-ends : goal.returns-in-Some-clause-ends
returns-in-Some-clause-ends c = λ p a is ahead w.
    let f = w c.in-FAULT.is in
    let e = fault_ended _ _ f.0 (subst (λ (z : Ahead). IsAhead c.args.ahead.now p.session.fault z) f.1 ahead) in
    let k : Some (fault_of c.in-Some.fault.now) ≡ Some f.0 = c.in-Some.ensures p is ∙ e in
    let same : READ_FAULT (fault_of c.in-Some.fault.now) ≡ a = let j : fault_of c.in-Some.fault.now ≡ f.0 = cc (k) in ap (λ (z : Fault). READ_FAULT z) j ∙ sym f.1 in
    subst (λ (z : yaml_fed_t). EndsPiece p a z c.args.rooms.now c.args.ahead.now c.end_by_fault.new.rooms c.end_by_fault.new.ahead c.end_by_fault.new.answer c.end_by_fault.result) (sym c.in-FAULT.is)
    (subst (λ (z : Ahead). EndsPiece p z code.FAULT c.args.rooms.now c.args.ahead.now c.end_by_fault.new.rooms c.end_by_fault.new.ahead c.end_by_fault.new.answer c.end_by_fault.result) same (c.end_by_fault.ensures.ends p))
