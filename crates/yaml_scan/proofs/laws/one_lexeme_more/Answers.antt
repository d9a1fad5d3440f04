use Rattle.yaml_scan.proofs.History.AllowedOneOn.{depth_goes_on, allowed_goes_on}
use Rattle.yaml_scan.proofs.TokenList.OneLexemeMore.{candidates_go_on, candidates_are_nested, columns_go_on, columns_fall, level_is_first, level_stays}
use Rattle.yaml_scan.proofs.laws.one_lexeme_more.Goals as goal

pub returns : goal.returns
returns c = record { depth = depth_goes_on; candidates = candidates_go_on; nested = candidates_are_nested; allowed = allowed_goes_on; columns = columns_go_on; falling = columns_fall; level = level_is_first; required = level_stays }
