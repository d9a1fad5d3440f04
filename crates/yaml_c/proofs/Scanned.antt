-- If all tokens are put and then the texts of the fault, rooms, answer and status are those of a scanned input.
use Rattle.std.proofs.Common.{◌≡◌, ◌<◌, ◌^◌, ◌+◌, ◌++◌, ℕ, List, Option, length, arith, sym, ap, ◌∙◌, subst}
use Rattle.yaml_text.specs.declared.types.yaml_encoding_t.{yaml_encoding_t}
use Rattle.yaml_text.specs.Fault.{Fault}
use Rattle.yaml_scan.specs.All.{ReadsAll}
use Rattle.yaml_scan.specs.Sink.{IsGivenAll}
use Rattle.yaml_c.specs.declared.answer.bogzhami_answer.{bogzhami_answer}
use Rattle.yaml_c.specs.declared.record.bogzhami_token.{bogzhami_token}
use Rattle.yaml_c.specs.declared.sink.token_rooms_t.{token_rooms_t}
use Rattle.yaml_c.specs.Answer.{IsScanned, answer_with, fault_texts, status_of}
use Rattle.yaml_c.specs.Record.{held, records_of, all_texts}
use Rattle.yaml_c.specs.Room.{covered_from}
use Rattle.yaml_c.specs.Spelled.{Spelled, skipped_of, spelled_in}
use Rattle.yaml_c.specs.declared.spelled.spelled_t.{spelled_t}
use Rattle.yaml_c.specs.inside.Sink.{ArePut}
use Rattle.yaml_c.specs.inside.Spelled.{spelled_of}
use Rattle.yaml_c.proofs.TokensPut.{Fits, have_put}
use Rattle.yaml_c.proofs.Rooms.{covered_held, length-covered_from, more_covered_from}

-- what the code knows of an input, if it skips what comes before the text
pub is_spelled : (s : spelled_t) (setting : yaml_encoding_t) → s.skipped ≡ skipped_of setting s.input.now
    → spelled_of s ≡ spelled_in setting s.input.now
is_spelled s setting e = ap (λ (z : Option ℕ). record { input = s.input.now; skipped = z }) e

-- rooms, answer and status of a call that scanned
pub are_scanned : (setting e : yaml_encoding_t) (limit : ℕ) (input : List ℕ)
    (a b : token_rooms_t) (fault : Option Fault)
    (tokens : List bogzhami_token) (texts last : List ℕ) (answer : bogzhami_answer) (status : ℕ)
    → setting ≡ e → Fits a → spelled_of a.spelled ≡ spelled_in setting input → a.token_count ≡ 0 → a.text_len ≡ 0
    → IsGivenAll (λ list. ArePut a list b) limit setting input fault
    → (a.tokens.ghost_name ≡ b.tokens.ghost_name → tokens ≡ b.tokens.now)
    → (a.texts.ghost_name ≡ b.texts.ghost_name → texts ≡ last)
    → last ≡ covered_from b.text_len (fault_texts fault) b.texts.now
    → answer ≡ answer_with b.token_count b.text_len fault
    → status ≡ status_of fault
    → IsScanned e limit input (record { tokens = a.tokens.now; texts = a.texts.now })
    (record { tokens = tokens; texts = texts }) answer status
are_scanned setting e limit input a b fault tokens texts last answer status
    same fits spelled no_token no_text given is_tokens is_texts is_last is_answer is_status =
    let list = given.tokens in
    let words = all_texts list in
    let put = have_put a b list fits given.given in
    let count : b.token_count ≡ held (length list) = omega (arith, put.token_count) in
    let size : b.text_len ≡ held (length words) = omega (arith, put.text_len) in
    let kept : length b.texts.now ≡ length a.texts.now = ap length put.texts
    ∙ length-covered_from a.text_len words a.texts.now in
    let room : length b.texts.now < 2 ^ 63 = omega (arith, fits.texts, kept) in
    record {
      list = list;
      fault = fault;
      reads = subst (λ (z : yaml_encoding_t). ReadsAll limit z input list fault) same given.reads;
      status_is = is_status;
      answer_is = is_answer ∙ ap (λ (n : ℕ). answer_with n b.text_len fault) count
          ∙ ap (λ (n : ℕ). answer_with (held (length list)) n fault) size;
      records_are = is_tokens (sym put.same_tokens) ∙ put.records
          ∙ ap (λ (n : ℕ). covered_from n (records_of (spelled_of a.spelled) a.text_len list) a.tokens.now) no_token
          ∙ ap (λ (n : ℕ). covered_from 0 (records_of (spelled_of a.spelled) n list) a.tokens.now) no_text
          ∙ ap (λ (z : Spelled). covered_from 0 (records_of z 0 list) a.tokens.now) spelled
          ∙ ap (λ (z : yaml_encoding_t). covered_from 0 (records_of (spelled_in z input) 0 list) a.tokens.now) same;
      texts_are = is_texts (sym put.same_texts) ∙ is_last
          ∙ ap (λ (n : ℕ). covered_from n (fault_texts fault) b.texts.now) put.text_len
          ∙ covered_held (a.text_len + length words) (fault_texts fault) b.texts.now room
          ∙ ap (λ (z : List ℕ). covered_from (a.text_len + length words) (fault_texts fault) z) put.texts
          ∙ more_covered_from a.text_len words (fault_texts fault) a.texts.now
          ∙ ap (λ (n : ℕ). covered_from n (words ++ fault_texts fault) a.texts.now) no_text;
    }
