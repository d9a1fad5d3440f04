use Rattle.std.proofs.Common.{◌∙◌, ◌++◌, ap, sym, arith, subst, take, ◌+◌, List, ℕ, append_assoc, append-nil}
use Rattle.yaml_text.specs.inside.Units.{Reads16}
use Rattle.yaml_text.proofs.ManyBytes.UnitRuns.{unit_read}
use lib.Utf8.{encode}
use Rattle.yaml_text.proofs.utf16.put_plains.Goals as goal

pub units-init : goal.units-init
units-init c = record {
  read = λ text r. rw (append-nil text) r;
  forward = omega arith;
  more = λ h. omega arith;
  within = omega arith;
  few = omega arith;
}

pub units-preserved : goal.units-preserved
units-preserved c = record {
  read = λ text r.
      let u = c.unit_at-unit.result in
      let before = take c.units.n c.units.buffer in
      let read = unit_read c.args.big c.args.bytes.now (text ++ before) c.units.at u (λ i. omega (arith, c.type_inv.bytes i)) (c.units.invariant.read text r) (omega arith) c.unit_at-unit.ensures.unit (c.is_plain.ensures.char c.if-not-is_plain.false) in
      let is = append_assoc text before (encode u) ∙ ap (λ (x : List ℕ). text ++ x) (sym c.put_plain-n.ensures.bytes) in
      subst (λ (x : List ℕ). Reads16 c.args.big c.args.bytes.now x (c.units.at + 2)) is read;
  forward = omega arith;
  more = λ h. omega arith;
  within = omega arith;
  few = omega (arith, c.put_plain-n.ensures.few);
}
