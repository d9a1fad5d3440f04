-- A step is the same in two texts that agree a little past its end.
use Rattle.yaml_scan.specs.SourceOf.{source_of}
use Rattle.yaml_scan.specs.Locality.{TextStepIsLocal}
use Rattle.yaml_scan.proofs.Texts.SourceOrder.{texts_keep_order}
use Rattle.yaml_scan.proofs.Texts.SourceLocality.{texts_are_local}
use Rattle.yaml_scan.proofs.Texts.StepLocality.{step_is_local}

pub text_step_is_local : TextStepIsLocal
unfolding source_of
text_step_is_local a b limit H r k l g p = step_is_local (source_of a) (source_of b) limit H r (texts_keep_order a k) l (texts_are_local r a b g) p
