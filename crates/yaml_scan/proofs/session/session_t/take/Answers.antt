use Rattle.yaml_text.specs.Token.{token_of}
use Rattle.yaml_scan.proofs.RunningCalls.KeptTokens.{takes_as}
use Rattle.yaml_scan.proofs.session.session_t.take.Goals as goal

pub take_head-token-requires : goal.take_head-token-requires
take_head-token-requires c = let r = c.requires in let k = r.2.settled in (r.0, k.stands.runs, k.settled)

pub returns : goal.returns
returns c = λ text i k.
    let n = k.settled in
    takes_as i text c.args.self.now c.take_head-token.new.state (token_of c.take_head-token.result) _ k (c.take_head-token.ensures text n.stands.runs n.settled) c.is_last-self.ensures
