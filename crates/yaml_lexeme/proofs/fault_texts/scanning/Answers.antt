use Rattle.std.proofs.Common.{rules}
use Rattle.yaml_lexeme.proofs.fault_texts.scanning.Goals as goal

pub returns-in-ALIAS : goal.returns-in-ALIAS
returns-in-ALIAS c = search rules

pub returns-in-ANCHOR : goal.returns-in-ANCHOR
returns-in-ANCHOR c = search rules
