use Rattle.yaml_scan.proofs.step.lay_read.Given as goal

abbrev pub ghost-check_reach : goal.ghost-check_reach
ghost-check_reach g a = g.before

abbrev pub ghost-lay_all : goal.ghost-lay_all
ghost-lay_all g a = g.before

abbrev pub ghost-stop_in_lexeme : goal.ghost-stop_in_lexeme
ghost-stop_in_lexeme g a = g.before
