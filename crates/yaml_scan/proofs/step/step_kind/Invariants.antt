use Rattle.yaml_scan.proofs.step.step_kind.Given as goal

abbrev pub ghost-step_lexeme : goal.ghost-step_lexeme
ghost-step_lexeme g a = g.before

abbrev pub ghost-step_lexeme-2 : goal.ghost-step_lexeme-2
ghost-step_lexeme-2 g a = g.before

abbrev pub ghost-step_queued : goal.ghost-step_queued
ghost-step_queued g a = g.before

abbrev pub ghost-step_queued-2 : goal.ghost-step_queued-2
ghost-step_queued-2 g a = g.before

abbrev pub ghost-step_queued-3 : goal.ghost-step_queued-3
ghost-step_queued-3 g a = g.before

abbrev pub ghost-step_queued-4 : goal.ghost-step_queued-4
ghost-step_queued-4 g a = g.before

abbrev pub ghost-step_stream_end : goal.ghost-step_stream_end
ghost-step_stream_end g a = g.before

abbrev pub ghost-step_marker : goal.ghost-step_marker
ghost-step_marker g a = g.before

abbrev pub ghost-step_marker-2 : goal.ghost-step_marker-2
ghost-step_marker-2 g a = g.before

abbrev pub ghost-step_character : goal.ghost-step_character
ghost-step_character g a = g.before

abbrev pub ghost-step_scalar : goal.ghost-step_scalar
ghost-step_scalar g a = g.before

abbrev pub ghost-step_scalar-2 : goal.ghost-step_scalar-2
ghost-step_scalar-2 g a = g.before

abbrev pub ghost-step_scalar-3 : goal.ghost-step_scalar-3
ghost-step_scalar-3 g a = g.before
