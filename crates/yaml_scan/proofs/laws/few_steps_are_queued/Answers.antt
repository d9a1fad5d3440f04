use Rattle.yaml_scan.proofs.SessionCalls.SessionTokens as laws
use Rattle.yaml_scan.proofs.laws.few_steps_are_queued.Goals as goal

pub returns : goal.returns
returns c = laws.few_steps_queued
