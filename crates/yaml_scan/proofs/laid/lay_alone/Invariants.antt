use Rattle.yaml_scan.proofs.laid.lay_alone.Given as goal

abbrev pub ghost-lay_lexeme : goal.ghost-lay_lexeme
ghost-lay_lexeme g a = g.before
