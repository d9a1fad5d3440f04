use Rattle.yaml_scan.proofs.Texts.StepLocality as laws
use Rattle.yaml_scan.proofs.Texts.SourceLocality as texts
use Rattle.yaml_scan.proofs.Texts.TextSteps as both
use Rattle.yaml_scan.proofs.Texts.UnfinishedInputs as unfinished
use Rattle.yaml_scan.proofs.laws.step_is_local.Goals as goal

pub returns : goal.returns
returns c = record { step = laws.step_is_local; tokens = unfinished.tokens_before_refusal; fault = unfinished.fault_before_refusal; texts = texts.texts_are_local; text = both.text_step_is_local }
