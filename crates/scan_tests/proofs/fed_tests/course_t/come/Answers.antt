use Rattle.std.proofs.Common.{◌≡◌, ◌∙◌, ap, sym, refl, List, ℕ, ◌++◌}
use Rattle.yaml_scan.specs.Fed.{comes}
use Rattle.yaml_scan.proofs.RunningCalls.FedGives.{more_comes}
use Rattle.scan_tests.proofs.fed_tests.course_t.come.Goals as goal

pub returns : goal.returns
returns c = let r = c.requires in (
  comes r.0 c.args.bytes.now c.args.last,
  ap (λ (x : List ℕ). x ++ c.args.bytes.now) r.1 ∙ sym c.in_ok-extend_from_slice.ensures.items,
  refl,
  more_comes r.0 c.args.self.now.fed c.args.bytes.now c.args.last (r.2 ∙ c.if-self.false) r.3,
)
