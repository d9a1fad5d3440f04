use Rattle.yaml_lexeme.proofs.ManyBytes.ClearRuns.{quiet_is_clear}
use Rattle.yaml_lexeme.proofs.runs.quiet_line.Goals as goal

pub past_leads-requires-clause-clear : goal.past_leads-requires-clause-clear
past_leads-requires-clause-clear c = quiet_is_clear c.args.class c.args.text.now c.quiet_bytes-n.result.0 c.requires c.quiet_bytes-n.ensures.bytes

pub returns-clause-clear : goal.returns-clause-clear
returns-clause-clear c = quiet_is_clear c.args.class c.args.text.now c.quiet_bytes-n.result.0 c.requires c.quiet_bytes-n.ensures.bytes
