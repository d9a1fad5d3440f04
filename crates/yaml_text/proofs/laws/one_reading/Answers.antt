use Rattle.yaml_text.proofs.Decodings.DecodeReadings.{longest}
use Rattle.yaml_text.proofs.Decodings.DecodeResults.{spells_is, refused_is, is_spelled, is_refused}
use Rattle.yaml_text.proofs.laws.one_reading.Goals as goal

pub returns : goal.returns
returns c = record {
  text = λ setting input text. (is_spelled setting input text, spells_is setting input text);
  fault = λ setting input fault. (is_refused setting input fault, refused_is setting input fault);
  longest = longest;
}
