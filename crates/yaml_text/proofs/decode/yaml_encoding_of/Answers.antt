use Rattle.std.proofs.Common.{rules}
use Rattle.yaml_text.proofs.decode.yaml_encoding_of.Goals as goal

pub returns : goal.returns
returns c = search rules
