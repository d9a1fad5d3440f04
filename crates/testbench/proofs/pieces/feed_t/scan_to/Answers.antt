use Rattle.std.proofs.Common.{◌≡◌, ap, ◌∙◌}
use Rattle.yaml_scan.specs.Fed.{Fed}
use Rattle.testbench.proofs.pieces.feed_t.scan_to.Goals as goal

pub returns-clause-fed : goal.returns-clause-fed
returns-clause-fed g c = let r = c.requires.fed in let w = c.yaml_fed_scan_to.ensures.gives r.0 r.1 r.2 r.3 in let s = w.gives.same in
    (w.left, ap (λ (p : Fed). p.given) s ∙ r.1, ap (λ (p : Fed). p.whole) s ∙ r.2, w.is)
