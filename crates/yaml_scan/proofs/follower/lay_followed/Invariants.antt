use Rattle.yaml_scan.proofs.follower.lay_followed.Given as goal

abbrev pub ghost-lay_both : goal.ghost-lay_both
ghost-lay_both g a = g.before

abbrev pub ghost-lay_both-2 : goal.ghost-lay_both-2
ghost-lay_both-2 g a = g.before
