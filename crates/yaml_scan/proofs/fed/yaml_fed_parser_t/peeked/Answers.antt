use Rattle.std.specs.Prelude.{option_map}
use Rattle.yaml_text.specs.Token.{token_of}
use Rattle.yaml_scan.proofs.RunningCalls.FedGives.{peeked_is}
use Rattle.yaml_scan.proofs.fed.yaml_fed_parser_t.peeked.Goals as goal

pub returns : goal.returns
returns c = λ p F. peeked_is p c.args.self.now F (option_map (λ t. token_of t.now) c.shown.result) c.shown.ensures
