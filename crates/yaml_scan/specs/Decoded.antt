-- The input that bytes spell in an encoding setting.
use Rattle.std.specs.Prelude.{ℕ, List}
use Rattle.yaml_text.specs.declared.types.yaml_encoding_t.{yaml_encoding_t}
use Rattle.yaml_text.specs.Decode.{front, refusal}
use Rattle.yaml_scan.specs.Course.{Input}
use Rattle.yaml_scan.specs.SourceOf.{source_of}

-- the front of an input, decoded, and the fault of what follows it
unfoldable pub decoded_input : yaml_encoding_t → List ℕ → Input
decoded_input setting input = record {
  encoding = (front setting input).encoding;
  source = source_of (front setting input).chars;
  refusal = refusal setting input;
}
