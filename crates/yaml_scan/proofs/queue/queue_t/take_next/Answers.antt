use Rattle.yaml_text.specs.Token.{token_of}
use Rattle.yaml_scan.proofs.RunningQueue.QueueGroups.{bare_taken}
use Rattle.yaml_scan.proofs.queue.queue_t.take_next.Goals as goal

pub take_bare-requires-clause-some : goal.take_bare-requires-clause-some
take_bare-requires-clause-some c = let b = c.take_lead-lead.ensures.none c.in-NOTHING.is in rw b.groups c.requires.some

pub take_bare-requires-clause-none : goal.take_bare-requires-clause-none
take_bare-requires-clause-none c = let b = c.take_lead-lead.ensures.none c.in-NOTHING.is in b.none

pub take_bare-requires-clause-few : goal.take_bare-requires-clause-few
take_bare-requires-clause-few c = let b = c.take_lead-lead.ensures.none c.in-NOTHING.is in rw b.done c.requires.few

pub returns-in_default : goal.returns-in_default
returns-in_default c = c.take_lead-lead.ensures.lead (token_of c.lead_token.result) c.in_default.not-NOTHING c.lead_token.ensures

pub returns-in-NOTHING : goal.returns-in-NOTHING
returns-in-NOTHING c = let b = c.take_lead-lead.ensures.none c.in-NOTHING.is in bare_taken c.args.self.now c.take_lead-lead.new.self c.take_bare.new.self (token_of c.take_bare.result) b c.take_bare.ensures
