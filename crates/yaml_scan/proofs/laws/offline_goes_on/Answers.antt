use Rattle.yaml_scan.proofs.TokenList.OneLexemeMore.{offline_goes_on, candidate_stands_there}
use Rattle.yaml_scan.proofs.laws.offline_goes_on.Goals as goal

pub returns : goal.returns
returns c = record { list = offline_goes_on; candidate = candidate_stands_there }
