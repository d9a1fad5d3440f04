use Rattle.std.proofs.Common.{refl, ap, ◌∙◌}
use Rattle.yaml_scan.specs.KeptCalls.{token_peeked}
use Rattle.yaml_scan.specs.inside.Kept.{scan_of}
use Rattle.yaml_scan.proofs.scanner.scanner_t.peeked.Goals as goal

pub returns : goal.returns
returns c = λ p k. c.shown.ensures (scan_of p.input c.args.self.now) refl k.is.sound ∙ ap token_peeked k.seen_as
