use Rattle.std.proofs.Common.{rules, inr}
use Rattle.yaml_text.proofs.Decodings.DecodeResults.{is_spelled, is_refused, own_text, front_none, front_some}
use Rattle.yaml_text.proofs.decode.yaml_decode.Goals as goal

pub returns-in-Ok-default-None-clause-text : goal.returns-in-Ok-default-None-clause-text
returns-in-Ok-default-None-clause-text c = is_spelled _ _ _ (front_none _ _ _ _ c.in-Ok-default-None.field-0-1-is c.in-Ok-default-None.ensures.front c.in-Ok-default-None.ensures.refusal)

pub returns-in-Ok-default-None-clause-own_text : goal.returns-in-Ok-default-None-clause-own_text
returns-in-Ok-default-None-clause-own_text c = own_text _ _ _ (is_spelled _ _ _ (front_none _ _ _ _ c.in-Ok-default-None.field-0-1-is c.in-Ok-default-None.ensures.front c.in-Ok-default-None.ensures.refusal))

pub returns-in-Ok-default-Some-clause-fault : goal.returns-in-Ok-default-Some-clause-fault
returns-in-Ok-default-Some-clause-fault c = inr (is_refused _ _ _ (front_some _ _ _ _ c.in-Ok-default-Some.field-0-1-is c.in-Ok-default-Some.ensures.refusal))

pub returns-in-Ok-default-Some-clause-text : goal.returns-in-Ok-default-Some-clause-text
returns-in-Ok-default-Some-clause-text c = search rules

pub returns-in-Ok-default-Some-clause-own_text : goal.returns-in-Ok-default-Some-clause-own_text
returns-in-Ok-default-Some-clause-own_text c = search rules

pub returns-in-Ok-default-Some-clause-borrowed : goal.returns-in-Ok-default-Some-clause-borrowed
returns-in-Ok-default-Some-clause-borrowed c = search rules

pub returns-in-Ok-default-Some-clause-exact : goal.returns-in-Ok-default-Some-clause-exact
returns-in-Ok-default-Some-clause-exact c = search rules
