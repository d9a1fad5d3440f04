-- The beginning of a front is one of what goes on from there, and the front is found from it on.
use Rattle.std.proofs.Common.{◌≡◌, ℕ, ◌+◌, ◌<◌, ◌≤◌, Bool, true, false, not, List, [], ◌∷◌, ◌++◌, length, take, drop, Option, Some, None, refl, sym, ap, ◌∙◌, subst, arith}
use Rattle.std.specs.Prelude.{option_map, IsNone, IfSome, MatchOption}
use Rattle.std.specs.Str.{chars}
use Rattle.std.proofs.lemmas.List.{length-append, length-drop, take-append-le, take-append-drop}
use Rattle.yaml_text.specs.declared.types.yaml_encoding_t.{yaml_encoding_t}
use Rattle.yaml_text.specs.declared.types.yaml_encoding_t.TheVariants.{YAML_UTF8_ENCODING}
use Rattle.yaml_text.specs.declared.fault.yaml_fault_t.{yaml_fault_t}
use Rattle.yaml_text.specs.declared.offence.offence_t.{offence_t}
use Rattle.yaml_text.specs.TextBytes.{IsText}
use Rattle.yaml_text.specs.Utf8.{offence8}
use Rattle.yaml_text.specs.Fault.{Fault, reader_fault}
use Rattle.yaml_text.specs.Decode.{after_bom, bom_len, encoding_of, front, front_len}
use Rattle.yaml_text.specs.Decoding.{BeginsWithNone, IsFront}
use Rattle.yaml_text.specs.Kept.{KeptText}
use Rattle.yaml_text.specs.Pieces.{IsBegunOf, breaks, ends_too_soon, is_broken, is_known}
use Rattle.yaml_text.proofs.Decodings.BrokenBytes.{is_more}
use Rattle.yaml_text.proofs.Decodings.DecodeFronts.{IsText-nil}
use Rattle.yaml_text.proofs.Decodings.DecodeReadings.{one_front}
use Rattle.yaml_text.proofs.Decodings.DecodeResults.{front_is}
use Rattle.yaml_text.proofs.Decodings.KeptTexts.{ToldKept, keeps8, kept_by_encoding}

-- of longer bytes it is the same beginning
pub begun_goes_on : (setting : yaml_encoding_t) (given more : List ℕ) (k : KeptText) → is_known setting given ≡ true → IsBegunOf setting given k → IsBegunOf setting (given ++ more) k
begun_goes_on setting given more k known b =
    let m = is_more setting given more known in
    let bytes : drop k.start (given ++ more) ≡ drop k.start given ++ more = ap (λ (n : ℕ). drop n (given ++ more)) (b.start ∙ sym m.bom) ∙ m.bytes ∙ ap (λ (n : ℕ). drop n given ++ more) (sym b.start) in
    let within : k.len ≤ length (drop k.start given) = omega (arith, b.within, length-drop k.start given) in
    let part : take k.len (drop k.start (given ++ more)) ≡ take k.len (drop k.start given) = ap (λ (x : List ℕ). take k.len x) bytes ∙ rw take-append-le refl in
    record {
      utf8 = m.encoding ∙ b.utf8;
      encoding = b.encoding;
      own = b.own;
      start = b.start ∙ sym m.bom;
      text = subst IsText (sym part) b.text;
      within = omega (arith, b.within, length-append given more);
    }

-- before any byte is decoded
pub begun_empty : (setting : yaml_encoding_t) (given : List ℕ) (k : KeptText) (start : ℕ) → k ≡ record { encoding = YAML_UTF8_ENCODING; own = None; start = start; len = 0 } → start ≡ bom_len setting given → start ≤ length given → encoding_of setting given ≡ YAML_UTF8_ENCODING
    → IsBegunOf setting given k
begun_empty setting given k start is start-is within utf8 =
    subst (IsBegunOf setting given) (sym is) (record { utf8 = utf8; encoding = refl; own = refl; start = start-is; text = IsText-nil; within = omega arith })

-- what is kept, if n bytes are found to be the front
abbrev pub longer : KeptText → ℕ → KeptText
longer k n = record k { len = n }

-- what was found of the bytes after the byte order mark, in UTF-8: the length of their front, and what is wrong after it
pub record Found (bytes : List ℕ) (len : ℕ) (o : Option offence_t) : Type 0 where
  pub within : len ≤ length bytes
  pub text : IsText (take len bytes)
  pub longest : BeginsWithNone YAML_UTF8_ENCODING (drop len bytes)
  pub whole : IsNone o → len ≡ length bytes
  pub offence : IfSome o (λ x. x ≡ offence8 (drop len bytes))
  pub left : IfSome o (λ x. len + x.offset < length bytes)

same_part : (k : KeptText) (setting : yaml_encoding_t) (given : List ℕ) (n : ℕ) → IsBegunOf setting given k → longer k n ≡ record { encoding = YAML_UTF8_ENCODING; own = None; start = k.start; len = n }
same_part k setting given n b = λ i. record { encoding = b.encoding i; own = b.own i; start = k.start; len = n }

module _ (setting : yaml_encoding_t) (given : List ℕ) (k : KeptText) (b : IsBegunOf setting given k) (len : ℕ) (o : Option offence_t) (found : Found (drop k.start given) len o) where
  start_within : k.start ≤ length given
  start_within = omega (arith, b.within)

  pub told_kept : (fault : Option Fault) → fault ≡ option_map (reader_fault (k.start + len)) o → ToldKept setting given (longer k len) fault
  told_kept fault fault-is =
      kept_by_encoding setting given YAML_UTF8_ENCODING YAML_UTF8_ENCODING k.start (longer k len) fault (sym b.utf8) refl b.start
      (keeps8 k.start len given (longer k len) fault o (same_part k setting given len b) start_within found.within found.text found.longest found.whole found.offence found.left fault-is)

  pub still_begun : IsBegunOf setting given (longer k len)
  still_begun = record { utf8 = b.utf8; encoding = b.encoding; own = b.own; start = b.start; text = found.text; within = omega (arith, found.within, length-drop k.start given, start_within) }

  after_is : after_bom setting given ≡ drop k.start given
  after_is = ap (λ (n : ℕ). drop n given) (sym b.start)

  found_front : IsFront YAML_UTF8_ENCODING (drop k.start given) (chars (take len (drop k.start given))) (drop len (drop k.start given))
  found_front = record {
    parts = sym (take-append-drop len (drop k.start given)) ∙ ap (λ (x : List ℕ). x ++ drop len (drop k.start given)) (sym found.text.spelled);
    each = found.text.each;
    longest = found.longest;
  }

  left_is : drop (front_len setting given) given ≡ drop len (drop k.start given)
  left_is =
      let one : IsFront YAML_UTF8_ENCODING (after_bom setting given) (front setting given).chars (drop (front_len setting given) given) = subst (λ (e : yaml_encoding_t). IsFront e (after_bom setting given) (front setting given).chars (drop (front_len setting given) given)) b.utf8 (front_is setting given) in
      let two : IsFront YAML_UTF8_ENCODING (drop k.start given) (front setting given).chars (drop (front_len setting given) given) = subst (λ (x : List ℕ). IsFront YAML_UTF8_ENCODING x (front setting given).chars (drop (front_len setting given) given)) after_is one in
      (one_front _ _ _ _ _ _ two found_front).1

  broken_is : is_broken setting given ≡ breaks YAML_UTF8_ENCODING (drop len (drop k.start given))
  broken_is = ap (λ (e : yaml_encoding_t). breaks e (drop (front_len setting given) given)) b.utf8 ∙ ap (λ (x : List ℕ). breaks YAML_UTF8_ENCODING x) left_is

none_breaks : (rest : List ℕ) → length rest ≡ 0 → breaks YAML_UTF8_ENCODING rest ≡ false
none_breaks [] z = refl
none_breaks (b ∷ rest) z = absurd (omega arith)

some_breaks : (rest : List ℕ) (o : offence_t) → 0 < length rest → o ≡ offence8 rest → not (ends_too_soon o.problem) ≡ breaks YAML_UTF8_ENCODING rest
some_breaks [] o l is = absurd (omega arith)
some_breaks (b ∷ rest) o l is = ap (λ (x : offence_t). not (ends_too_soon x.problem)) is

-- whether bytes to come can mend it
pub told_broken : (setting : yaml_encoding_t) (given : List ℕ) (k : KeptText) → IsBegunOf setting given k → (len : ℕ) (o : Option offence_t) → Found (drop k.start given) len o → (r : Option (yaml_fault_t × Bool)) → option_map (λ x. x.1) r ≡ option_map (λ x. not (ends_too_soon x.problem)) o
    → MatchOption r (is_broken setting given ≡ false) (λ x. x.1 ≡ is_broken setting given)
told_broken setting given k b len None found None same = broken_is setting given k b len None found ∙ none_breaks _ (omega (arith, found.whole refl, length-drop len (drop k.start given)))
told_broken setting given k b len None found (Some r) same = absurd (cc same)
told_broken setting given k b len (Some o) found None same = absurd (cc same)
told_broken setting given k b len (Some o) found (Some r) same =
    let l : 0 < length (drop len (drop k.start given)) = omega (arith, found.left, length-drop len (drop k.start given)) in
    let is : r.1 ≡ not (ends_too_soon o.problem) = cc same in
    is ∙ some_breaks _ o l found.offence ∙ sym (broken_is setting given k b len (Some o) found)
