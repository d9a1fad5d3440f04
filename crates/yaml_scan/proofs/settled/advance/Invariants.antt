use Rattle.yaml_scan.specs.inside.Scanner.{scanner_of}
use Rattle.yaml_scan.specs.inside.Scanning.{history}
use Rattle.yaml_scan.proofs.settled.advance.Given as goal

abbrev pub ghost-step : goal.ghost-step
ghost-step a = history (scanner_of a.text.now a.state.now)
