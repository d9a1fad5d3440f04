use Rattle.yaml_scan.proofs.lend.lay_lent.Given as goal

abbrev pub ghost-lay_followed : goal.ghost-lay_followed
ghost-lay_followed g a = g.before

abbrev pub ghost-lay_lexeme : goal.ghost-lay_lexeme
ghost-lay_lexeme g a = g.before
