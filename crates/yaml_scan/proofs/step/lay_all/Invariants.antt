use Rattle.yaml_scan.proofs.step.lay_all.Given as goal

abbrev pub ghost-lay_followed : goal.ghost-lay_followed
ghost-lay_followed g a = g.before

abbrev pub ghost-lay_alone : goal.ghost-lay_alone
ghost-lay_alone g a = g.before
