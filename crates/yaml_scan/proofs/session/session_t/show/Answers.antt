use Rattle.yaml_scan.proofs.RunningCalls.KeptTokens.{shows_as}
use Rattle.yaml_scan.proofs.session.session_t.show.Goals as goal

pub returns : goal.returns
returns c = λ text i k. shows_as i text c.args.self.now _ k c.show_lead.ensures
