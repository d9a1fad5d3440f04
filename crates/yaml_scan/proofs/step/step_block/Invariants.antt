use Rattle.yaml_scan.proofs.step.step_block.Given as goal

abbrev pub ghost-pass_gap : goal.ghost-pass_gap
ghost-pass_gap g a = g.before

abbrev pub ghost-step_usual : goal.ghost-step_usual
ghost-step_usual g a = g.before

abbrev pub ghost-step_usual-2 : goal.ghost-step_usual-2
ghost-step_usual-2 g a = g.before

abbrev pub ghost-step_usual-3 : goal.ghost-step_usual-3
ghost-step_usual-3 g a = g.before

abbrev pub ghost-step_character : goal.ghost-step_character
ghost-step_character g a = g.before

abbrev pub ghost-step_lexeme : goal.ghost-step_lexeme
ghost-step_lexeme g a = g.before

abbrev pub ghost-step_lexeme-2 : goal.ghost-step_lexeme-2
ghost-step_lexeme-2 g a = g.before

abbrev pub ghost-step_other : goal.ghost-step_other
ghost-step_other g a = g.before
