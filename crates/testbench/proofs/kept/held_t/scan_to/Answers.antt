use Rattle.std.proofs.Common.{◌∙◌, inl, inr}
use Rattle.std.proofs.lemmas.Bool.{cases_Bool}
use Rattle.testbench.proofs.kept.held_t.scan_to.Goals as goal

pub returns : goal.returns
returns c = let r = c.requires in let e = c.yaml_kept_scan_to.ensures in elim (cases_Bool c.yaml_kept_scan_to.result) [
  | inl faulty ↦ (let w = e.fault faulty r.0 r.1 r.2 in (w.0, w.4.input ∙ r.1, w.1))
  | inr given ↦ (let w = e.more given r.0 r.1 r.2 in (w.0, w.2.input ∙ r.1, w.1))
]
