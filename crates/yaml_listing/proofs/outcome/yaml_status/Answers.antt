use Rattle.std.proofs.Common.{rules}
use Rattle.yaml_listing.proofs.outcome.yaml_status.Goals as goal

pub returns-in-Err-Args : goal.returns-in-Err-Args
returns-in-Err-Args c = search rules
