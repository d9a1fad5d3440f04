-- What is settled of the bytes that came so far is that of every input that goes on from them.
use Rattle.std.proofs.Common.{◌≡◌, ℕ, Bool, true, false, List, [], ◌∷◌, ◌++◌, drop, length, Option, Some, refl, ap, sym, ◌∙◌, subst, arith, inl, inr, append_assoc}
use Rattle.std.specs.Prelude.{◌⊎◌}
use Rattle.std.proofs.lemmas.Bool.{cases_Bool, le-leb, false≢true}
use Rattle.yaml_text.specs.Fault.{Fault}
use Rattle.yaml_text.specs.declared.types.yaml_encoding_t.{yaml_encoding_t}
use Rattle.yaml_text.specs.declared.types.yaml_encoding_t.TheVariants.{YAML_ANY_ENCODING, YAML_UTF8_ENCODING, YAML_UTF16LE_ENCODING, YAML_UTF16BE_ENCODING}
use Rattle.yaml_text.specs.Decode.{front, front_len, encoding_of, after_bom, spelling, spellings}
use Rattle.yaml_text.specs.Decoding.{BeginsWithNone, IsFront}
use Rattle.yaml_text.specs.TextBytes.{AreChars}
use Rattle.yaml_text.proofs.Decodings.BrokenBytes.{is_more, stays_broken}
use Rattle.yaml_text.proofs.Decodings.DecodeReadings.{spellings-cons, spellings-nil, spelling_same}
use Rattle.yaml_text.proofs.Decodings.DecodeResults.{front_is}
use Rattle.yaml_scan.specs.Answers.{answers}
use Rattle.yaml_scan.specs.Begins.{Begins}
use Rattle.yaml_scan.specs.Course.{Input, course}
use Rattle.yaml_scan.specs.Decoded.{decoded_input}
use Rattle.yaml_scan.specs.Inputs.{answers_to}
use Rattle.yaml_scan.specs.Pieces.{PiecesGoOn, RefusedForGood, chars_so_far, is_known, to_come, unfinished}
use Rattle.yaml_scan.specs.SourceOf.{source_of}
use Rattle.yaml_scan.specs.Unfinished.{GoesOnFrom}
use Rattle.yaml_scan.proofs.Texts.SourceLocality.{begun_text_reads_same, no_shorter}
use Rattle.yaml_scan.proofs.Texts.SourceOrder.{texts_keep_order}
use Rattle.yaml_scan.proofs.Texts.UnfinishedInputs.{answers_begin, answers_end, some_fault}

-- BYTES
-- what begins the bytes begins the front
begins_front : (e : yaml_encoding_t) (cs chars rest more : List ℕ) → AreChars cs → AreChars chars → BeginsWithNone e rest → spellings e chars ++ rest ≡ spellings e cs ++ more → (others : List ℕ) × (chars ≡ cs ++ others)
begins_front e [] chars rest more each all none same = (chars, refl)
begins_front e (d ∷ cs) [] rest more each all none same =
    absurd (none d each.0 (spellings e cs ++ more, ap (λ (x : List ℕ). x ++ rest) (sym (spellings-nil e)) ∙ same ∙ ap (λ (x : List ℕ). x ++ more) (spellings-cons e d cs) ∙ append_assoc (spelling e d) (spellings e cs) more))
begins_front e (d ∷ cs) (c ∷ chars) rest more each all none same =
    let left : spelling e c ++ (spellings e chars ++ rest) ≡ spellings e (c ∷ chars) ++ rest = sym (append_assoc (spelling e c) (spellings e chars) rest) ∙ ap (λ (x : List ℕ). x ++ rest) (sym (spellings-cons e c chars)) in
    let right : spellings e (d ∷ cs) ++ more ≡ spelling e d ++ (spellings e cs ++ more) = ap (λ (x : List ℕ). x ++ more) (spellings-cons e d cs) ∙ append_assoc (spelling e d) (spellings e cs) more in
    let s = spelling_same e c d (spellings e chars ++ rest) (spellings e cs ++ more) all.0 each.0 (left ∙ same ∙ right) in
    let r = begins_front e cs chars rest more each.1 all.1 none s.1 in
    (r.0, λ k. s.0 k ∷ r.1 k)

pub front_begins : (setting : yaml_encoding_t) (a more : List ℕ) → is_known setting a ≡ true → Begins (front setting a).chars (front setting (a ++ more)).chars
front_begins setting a more e =
    let m = is_more setting a more e in
    let f = front_is setting a in
    let g : IsFront (encoding_of setting a) (after_bom setting (a ++ more)) (front setting (a ++ more)).chars (drop (front_len setting (a ++ more)) (a ++ more)) = subst (λ (x : yaml_encoding_t). IsFront x (after_bom setting (a ++ more)) (front setting (a ++ more)).chars (drop (front_len setting (a ++ more)) (a ++ more))) m.encoding (front_is setting (a ++ more)) in
    let left = drop (front_len setting a) a in
    let r = begins_front (encoding_of setting a) (front setting a).chars (front setting (a ++ more)).chars (drop (front_len setting (a ++ more)) (a ++ more)) (left ++ more) f.each g.each g.longest
    (sym g.parts ∙ m.bytes ∙ ap (λ (x : List ℕ). x ++ more) f.parts ∙ append_assoc (spellings (encoding_of setting a) (front setting a).chars) left more) in
    record { rest = r.0; is = r.1 }

pub front_encoding : (setting : yaml_encoding_t) (a more : List ℕ) → is_known setting a ≡ true → (front setting (a ++ more)).encoding ≡ (front setting a).encoding
unfolding front
front_encoding setting a more e = (is_more setting a more e).encoding

pub known_more : (setting : yaml_encoding_t) (a more : List ℕ) → is_known setting a ≡ true → is_known setting (a ++ more) ≡ true
known_more YAML_UTF8_ENCODING a more e = refl
known_more YAML_UTF16LE_ENCODING a more e = refl
known_more YAML_UTF16BE_ENCODING a more e = refl
known_more YAML_ANY_ENCODING [] more e = absurd (false≢true e)
known_more YAML_ANY_ENCODING (x ∷ []) more e = absurd (false≢true e)
known_more YAML_ANY_ENCODING (x ∷ y ∷ []) more e = absurd (false≢true e)
known_more YAML_ANY_ENCODING (x ∷ y ∷ z ∷ a) more e = le-leb 3 (length (x ∷ y ∷ z ∷ (a ++ more))) (omega arith)

-- TEXTS
pub goes_on : (e d : yaml_encoding_t) (a b : List ℕ) (f : Fault) (o : Option Fault) → Begins a b
    → GoesOnFrom (record { encoding = e; source = source_of a; refusal = Some f }) (record { encoding = d; source = source_of b; refusal = o }) f
unfolding source_of
goes_on e d a b f o g = record { unfinished = refl; longer = inr (no_shorter a b g); same = begun_text_reads_same a b g }

-- ANSWERS
-- an input of which no character is known says nothing
pub nothing_yet : (limit : ℕ) (e : yaml_encoding_t) → answers limit (record { encoding = e; source = source_of []; refusal = Some to_come }) ≡ record { tokens = []; fault = Some to_come }
unfolding answers course source_of
nothing_yet limit e = refl

module _ (limit : ℕ) (setting : yaml_encoding_t) (given more : List ℕ) where
  abbrev Law : Input → Input → Input → Type 0
  Law a b c = Begins (answers limit a).tokens (answers limit b).tokens × Begins (answers limit a).tokens (answers limit c).tokens
      × ((f : Fault) → (answers limit a).fault ≡ Some f → (f ≡ to_come) ⊎ (answers limit b ≡ answers limit a))

  abbrev so_far : List ℕ → Bool → Input
  so_far bytes known = record { encoding = (front setting bytes).encoding; source = source_of (chars_so_far known (front setting bytes).chars); refusal = Some to_come }

  chars_are : (bytes : List ℕ) → AreChars (front setting bytes).chars
  chars_are bytes = (front_is setting bytes).each

  known_law : is_known setting given ≡ true → Law (so_far given true) (decoded_input setting (given ++ more)) (so_far (given ++ more) true)
  unfolding decoded_input
  known_law e =
      let b = front_begins setting given more e in
      let q = front_encoding setting given more e in
      let j = texts_keep_order (front setting given).chars (chars_are given) in
      let k = texts_keep_order (front setting (given ++ more)).chars (chars_are (given ++ more)) in (
        answers_begin limit (so_far given true) (decoded_input setting (given ++ more)) to_come j k (goes_on _ _ _ _ _ _ b) q,
        answers_begin limit (so_far given true) (so_far (given ++ more) true) to_come j k (goes_on _ _ _ _ _ _ b) q,
        answers_end limit (so_far given true) (decoded_input setting (given ++ more)) to_come j k (goes_on _ _ _ _ _ _ b) q,
      )

  unknown_law : (b c : Input) → Law (so_far given false) b c
  unknown_law b c =
      let n = nothing_yet limit (front setting given).encoding in (
        rw n (record { rest = (answers limit b).tokens; is = refl }),
        rw n (record { rest = (answers limit c).tokens; is = refl }),
        λ f x. inl (some_fault to_come f (rw n at x)),
      )

  law : Law (unfinished setting given) (decoded_input setting (given ++ more)) (unfinished setting (given ++ more))
  unfolding unfinished
  law = elim (cases_Bool (is_known setting given)) [
    | inl e ↦ (let m = known_more setting given more e in
        subst (λ (x : Bool). Law (so_far given x) (decoded_input setting (given ++ more)) (so_far (given ++ more) (is_known setting (given ++ more)))) (sym e)
        (subst (λ (x : Bool). Law (so_far given true) (decoded_input setting (given ++ more)) (so_far (given ++ more) x)) (sym m) (known_law e)))
    | inr e ↦ subst (λ (x : Bool). Law (so_far given x) (decoded_input setting (given ++ more)) (so_far (given ++ more) (is_known setting (given ++ more)))) (sym e) (unknown_law _ _)
  ]

pub pieces_go_on : PiecesGoOn
unfolding answers_to
pieces_go_on limit setting given more = law limit setting given more

-- what is broken stays so
pub refused_for_good : RefusedForGood
unfolding decoded_input
refused_for_good setting given more known broken =
    let b = stays_broken setting given more known broken in
    λ k. record { encoding = (b.0 k).encoding; source = source_of (b.0 k).chars; refusal = b.1 k }
