use Rattle.std.proofs.Common.{◌∙◌, ap, sym}
use Rattle.yaml_scan.specs.Fed.{Fed}
use Rattle.scan_tests.proofs.fed_tests.course_t.call.Goals as goal

pub returns : goal.returns
returns c =
    let r = c.requires in
    let g = c.yaml_fed_scan_to-why.ensures.gives r.0 (r.1 ∙ sym c.as_slice.ensures.value) r.2 r.3 in
    (g.left, ap (λ (x : Fed). x.given) g.gives.same ∙ r.1, ap (λ (x : Fed). x.whole) g.gives.same ∙ r.2, g.is)
