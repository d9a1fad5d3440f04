-- What is written of all that is settled.
use Rattle.yaml_listing.proofs.Followed.{wrote_some}
use Rattle.yaml_listing.proofs.following.follower_t.go_on.Goals as goal

pub returns-then-is_due-clause-wrote : goal.returns-then-is_due-clause-wrote
returns-then-is_due-clause-wrote g c s start told at app =
    wrote_some s _ c.args.self.now.input.items c.write.new.self.fed start _ c.write.result (c.write.ensures.wrote s start told at app)
