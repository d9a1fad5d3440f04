-- They hold for any bytes and setting.
use Rattle.std.proofs.Common.{◌≡◌, ℕ, List}
use Rattle.yaml_text.specs.Fault.{Fault}
use Rattle.yaml_text.specs.declared.types.yaml_encoding_t.{yaml_encoding_t}
use Rattle.yaml_text.specs.Decode.{front}
use Rattle.yaml_text.specs.TextBytes.{AreChars}
use Rattle.yaml_text.proofs.Decodings.DecodeResults.{front_is}
use Rattle.yaml_scan.specs.SourceOf.{source_of}
use Rattle.yaml_scan.specs.Locality.{AgreesWith}
use Rattle.yaml_scan.specs.Inputs.{answers_to, InputsKeepOrder, AllStandInOrder, AllEndFewer, AllEndAll}
use Rattle.yaml_scan.specs.Decoded.{decoded_input}
use Rattle.yaml_scan.specs.Inputs.{AllFollowKeys, GoesOn, LateFaults}
use Rattle.yaml_scan.proofs.Texts.SourceOrder.{texts_keep_order}
use Rattle.yaml_scan.proofs.Texts.SourceLocality.{begun_text_reads_same}
use Rattle.yaml_scan.proofs.Course.AnswerOrder.{answers_stand_in_order, answers_end_fewer, answers_end_all, answers_follow_keys}
use Rattle.yaml_scan.proofs.Texts.UnfinishedInputs.{agrees_goes_on, answers_begin, answers_end}

front_chars : (setting : yaml_encoding_t) (input : List ℕ) → AreChars (front setting input).chars
front_chars setting input = (front_is setting input).each

pub inputs_keep_order : InputsKeepOrder
unfolding decoded_input
inputs_keep_order setting input = texts_keep_order (front setting input).chars (front_chars setting input)

pub all_stand_in_order : AllStandInOrder
unfolding answers_to
all_stand_in_order limit setting input = answers_stand_in_order limit (decoded_input setting input) (inputs_keep_order setting input)

pub all_end_fewer : AllEndFewer
unfolding answers_to
all_end_fewer limit setting input n = answers_end_fewer limit (decoded_input setting input) n (inputs_keep_order setting input)

pub all_end_all : AllEndAll
unfolding answers_to
all_end_all limit setting input e d = answers_end_all limit (decoded_input setting input) (inputs_keep_order setting input) e d

pub all_follow_keys : AllFollowKeys
unfolding answers_to
all_follow_keys limit setting input = answers_follow_keys limit (decoded_input setting input) (inputs_keep_order setting input)

-- LATE READER FAULTS
pub agree : (s : yaml_encoding_t) (a : List ℕ) (t : yaml_encoding_t) (b : List ℕ) (fault : Fault) → GoesOn s a t b fault → AgreesWith (decoded_input s a) (decoded_input t b) fault
unfolding decoded_input source_of
agree s a t b fault g = record { refused = g.refused; accepted = g.accepted; same = begun_text_reads_same (front s a).chars (front t b).chars g.agrees }

pub encoding_is : (s : yaml_encoding_t) (a : List ℕ) (t : yaml_encoding_t) (b : List ℕ) (fault : Fault) → GoesOn s a t b fault → (decoded_input t b).encoding ≡ (decoded_input s a).encoding
unfolding decoded_input
encoding_is s a t b fault g = g.encoding

pub late_faults : LateFaults
unfolding answers_to
late_faults limit s a t b fault g =
    let j = inputs_keep_order s a in
    let k = inputs_keep_order t b in
    let w = agrees_goes_on (decoded_input s a) (decoded_input t b) fault (agree s a t b fault g) in
    let e = encoding_is s a t b fault g in
    (answers_begin limit (decoded_input s a) (decoded_input t b) fault j k w e, answers_end limit (decoded_input s a) (decoded_input t b) fault j k w e)
