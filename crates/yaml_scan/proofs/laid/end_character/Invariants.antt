use Rattle.yaml_scan.proofs.laid.end_character.Given as goal

abbrev pub ghost-lay_alone : goal.ghost-lay_alone
ghost-lay_alone g a = g.before
