-- An input that comes in pieces: what is settled by the bytes that came so far.
use Rattle.std.specs.Prelude.{◌≡◌, ◌⊎◌, ℕ, Bool, true, List, [], ◌++◌, Some, if◌then◌else◌}
use Rattle.yaml_text.specs.Fault.{Fault, bare_fault}
use Rattle.yaml_text.specs.declared.types.yaml_encoding_t.{yaml_encoding_t}
use Rattle.yaml_text.specs.declared.types.yaml_error_type_t.TheVariants.{YAML_READER_ERROR}
use Rattle.yaml_text.specs.Decode.{front}
-- whether the encoding is known, and whether something is wrong that no bytes can mend
pub use Rattle.yaml_text.specs.Pieces.{is_broken, is_known}
use Rattle.yaml_scan.specs.Answers.{answers}
use Rattle.yaml_scan.specs.Begins.{Begins}
use Rattle.yaml_scan.specs.Course.{Input}
use Rattle.yaml_scan.specs.Decoded.{decoded_input}
use Rattle.yaml_scan.specs.Inputs.{answers_to}
use Rattle.yaml_scan.specs.SourceOf.{source_of}

-- the fault that stands for what is to come; it is never told
abbrev pub to_come : Fault
to_come = bare_fault YAML_READER_ERROR

-- the characters that came so far, if the encoding is known
abbrev pub chars_so_far : Bool → List ℕ → List ℕ
chars_so_far known cs = if known then cs else []

-- the bytes that came so far, as an unfinished input
unfoldable pub unfinished : yaml_encoding_t → List ℕ → Input
unfinished setting given = record {
  encoding = (front setting given).encoding;
  source = source_of (chars_so_far (is_known setting given) (front setting given).chars);
  refusal = Some to_come;
}

-- The tokens of the bytes so far are the first of the whole input, whatever more comes, and the first of what is
-- settled once more bytes came. A fault of the bytes so far is that of the whole input, after the same tokens.
abbrev pub PiecesGoOn : Type 0
PiecesGoOn = (limit : ℕ) (setting : yaml_encoding_t) (given more : List ℕ)
    → Begins (answers limit (unfinished setting given)).tokens (answers_to limit setting (given ++ more)).tokens
    × Begins (answers limit (unfinished setting given)).tokens
    (answers limit (unfinished setting (given ++ more))).tokens
    × ((f : Fault) → (answers limit (unfinished setting given)).fault ≡ Some f
    → (f ≡ to_come) ⊎ (answers_to limit setting (given ++ more) ≡ answers limit (unfinished setting given)))

-- What is wrong with the bytes so far, if no bytes can mend it, is wrong with the whole input, whatever more comes: it
-- is read as these bytes are.
abbrev pub RefusedForGood : Type 0
RefusedForGood = (setting : yaml_encoding_t) (given more : List ℕ) → is_known setting given ≡ true
    → is_broken setting given ≡ true → decoded_input setting (given ++ more) ≡ decoded_input setting given
