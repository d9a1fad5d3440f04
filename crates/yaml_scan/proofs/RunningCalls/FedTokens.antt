-- What a scan gives of the bytes that came is what every input has that they may begin.
use Rattle.std.proofs.Common.{◌≡◌, ℕ, zero, suc, ◌-◌, min, Bool, true, false, List, [], ◌∷◌, ◌++◌, map, take, drop, length, append-nil, append_assoc, length-take, length-drop, slice_get, None, Some, refl, ap, sym, ◌∙◌, subst, arith, inl, inr}
use Rattle.std.specs.Prelude.{◌⊎◌}
use Rattle.std.proofs.lemmas.Bool.{false≢true}
use Rattle.std.proofs.lemmas.List.{take-append-le, drop-append-le, drop-map}
use Rattle.yaml_text.specs.Chars.{utf8}
use Rattle.yaml_text.specs.Decode.{encoding_of, front, front_len, refusal, refusal_of}
use Rattle.yaml_text.specs.Fault.{Fault}
use Rattle.yaml_text.specs.Pieces.{breaks, fault_to_come, stand_in}
use Rattle.yaml_text.specs.TextBytes.{AreChars}
use Rattle.yaml_text.specs.declared.types.yaml_encoding_t.{yaml_encoding_t}
use Rattle.yaml_text.specs.declared.types.yaml_encoding_t.TheVariants.{YAML_UTF8_ENCODING}
use Rattle.yaml_text.specs.declared.types.yaml_error_type_t.TheVariants.{YAML_READER_ERROR}
use Rattle.yaml_text.proofs.Decodings.DecodeResults.{front_is}
use Rattle.yaml_text.proofs.Decodings.StandIns.{stands_in}
use Rattle.yaml_scan.specs.Answers.{Answers, answers}
use Rattle.yaml_scan.specs.Begins.{Begins}
use Rattle.yaml_scan.specs.Course.{Input}
use Rattle.yaml_scan.specs.Cut.{KeepsOrder}
use Rattle.yaml_scan.specs.Decoded.{decoded_input}
use Rattle.yaml_scan.specs.Fed.{Fed, MayBe}
use Rattle.yaml_scan.specs.Groups.{Token, handed_out}
use Rattle.yaml_scan.specs.Inputs.{answers_to}
use Rattle.yaml_scan.specs.Pieces.{is_broken, is_known, to_come, unfinished}
use Rattle.yaml_scan.specs.Settled.{tokens_of}
use Rattle.yaml_scan.specs.SourceOf.{source_of}
use Rattle.yaml_scan.specs.Token.{yaml_token_t}
use Rattle.yaml_scan.specs.inside.Feeding.{IsCertain, held_by}
use Rattle.yaml_scan.specs.inside.KeptParts.{HandsOn, tokens_in}
use Rattle.yaml_scan.specs.inside.Ready.{Scan, course_in}
use Rattle.yaml_scan.specs.declared.session.session_t.{session_t}
use Rattle.yaml_scan.proofs.Course.InputLaws.{inputs_keep_order}
use Rattle.yaml_scan.proofs.Course.LexemeTokens.{accepted}
use Rattle.yaml_scan.proofs.RunningCalls.HandedOn.{one_taken}
use Rattle.yaml_scan.proofs.Texts.InputPieces.{front_begins, front_encoding, goes_on, refused_for_good}
use Rattle.yaml_scan.proofs.Texts.SourceOrder.{texts_keep_order}
use Rattle.yaml_scan.proofs.Texts.UnfinishedInputs.{answers_begin, answers_end}

-- LISTS
take-map : (f : Token → yaml_token_t) (n : ℕ) (xs : List Token) → take n (map f xs) ≡ map f (take n xs)
take-map f zero xs = refl
take-map f (suc n) [] = refl
take-map f (suc n) (x ∷ xs) = ap (λ (z : List yaml_token_t). f x ∷ z) (take-map f n xs)

-- what a list has from a place on, a longer list has there
taken_too : (ts A B : List yaml_token_t) (n : ℕ) → Begins A B → ts ≡ take (length ts) (drop n A) → ts ≡ take (length ts) (drop n B)
taken_too [] A B n b e = refl
taken_too (t ∷ ts) A B n b e =
    let m = length (t ∷ ts) in
    let l : m ≡ min m (length A - n) = ap (λ (z : List yaml_token_t). length z) e ∙ length-take m (drop n A) ∙ ap (λ (k : ℕ). min m k) (length-drop n A) in
    let d = length-drop n A in
    e ∙ sym (take-append-le m (drop n A) b.rest (omega arith)) ∙ ap (λ (z : List yaml_token_t). take m z) (sym (drop-append-le n A b.rest (omega arith)) ∙ ap (λ (z : List yaml_token_t). drop n z) (sym b.is))

-- WHAT A SCAN HANDS OUT
-- the answers to its input
abbrev pub told_by : ℕ → Scan → Answers
told_by limit i = answers limit (decoded_input i.setting i.input)

module _ (i j : Scan) (ts : List yaml_token_t) (h : HandsOn i j ts) where
  abbrev limit : ℕ
  limit = i.session.state.limit

  pub next_told : ts ≡ take (length ts) (drop i.session.state.taken (told_by limit i).tokens)
  unfolding answers
  next_told =
      let f = handed_out (decoded_input i.setting i.input).encoding in
      let n = i.session.state.taken in
      h.next ∙ sym (take-map f (length ts) (drop n (tokens_in i))) ∙ ap (λ (z : List yaml_token_t). take (length ts) z) (sym (drop-map f n (tokens_in i)))

-- BYTES IN UTF-8 OF WHICH MORE ARE TO COME
module _ (limit : ℕ) (setting : yaml_encoding_t) (came more : List ℕ) (known : is_known setting came ≡ true) (u : encoding_of setting came ≡ YAML_UTF8_ENCODING) where
  abbrev cs : List ℕ
  cs = (front setting came).chars

  each : AreChars cs
  each = (front_is setting came).each

  abbrev f0 : Fault
  f0 = fault_to_come (length (utf8 cs))

  -- as they are held
  abbrev stood : Input
  stood = record { encoding = YAML_UTF8_ENCODING; source = source_of cs; refusal = Some f0 }

  pub stood_is : decoded_input YAML_UTF8_ENCODING (stand_in cs) ≡ stood
  unfolding decoded_input
  stood_is = let s = stands_in cs each in λ k. record { encoding = (s.0 k).encoding; source = source_of (s.0 k).chars; refusal = s.1 k }

  encoding_same : (front setting came).encoding ≡ YAML_UTF8_ENCODING
  unfolding front
  encoding_same = u

  order : KeepsOrder (source_of cs)
  order = texts_keep_order cs each

  encoding_more : (decoded_input setting (came ++ more)).encoding ≡ stood.encoding
  unfolding decoded_input
  encoding_more = front_encoding setting came more known ∙ encoding_same

  order_more : KeepsOrder (decoded_input setting (came ++ more)).source
  order_more = inputs_keep_order setting (came ++ more)

  begins_more : Begins (answers limit stood).tokens (answers_to limit setting (came ++ more)).tokens
  unfolding answers_to decoded_input
  begins_more = answers_begin limit stood (decoded_input setting (came ++ more)) f0 order order_more (goes_on _ _ _ _ _ _ (front_begins setting came more known)) encoding_more

  ends_more : (f : Fault) → (answers limit stood).fault ≡ Some f → (f ≡ f0) ⊎ (answers_to limit setting (came ++ more) ≡ answers limit stood)
  unfolding answers_to decoded_input
  ends_more f e = answers_end limit stood (decoded_input setting (came ++ more)) f0 order order_more (goes_on _ _ _ _ _ _ (front_begins setting came more known)) encoding_more f e

  abbrev so_far : Input
  so_far = record { encoding = (front setting came).encoding; source = source_of cs; refusal = Some to_come }

  so_far_is : unfinished setting came ≡ so_far
  unfolding unfinished
  so_far_is = rw known refl

  pub none_held_back : Begins (answers limit (unfinished setting came)).tokens (answers limit stood).tokens
  none_held_back = subst (λ (z : Input). Begins (answers limit z).tokens (answers limit stood).tokens) (sym so_far_is)
      (answers_begin limit so_far stood to_come order order (goes_on _ _ _ _ _ _ (record { rest = []; is = sym (append-nil cs) })) (sym encoding_same))

  -- a fault of what came is one of what stands for what is to come, or the same
  pub fault_so_far : (f : Fault) → (answers limit (unfinished setting came)).fault ≡ Some f → (f ≡ to_come) ⊎ (answers limit stood ≡ answers limit (unfinished setting came))
  fault_so_far = subst (λ (z : Input). (f : Fault) → (answers limit z).fault ≡ Some f → (f ≡ to_come) ⊎ (answers limit stood ≡ answers limit z)) (sym so_far_is)
      (answers_end limit so_far stood to_come order order (goes_on _ _ _ _ _ _ (record { rest = []; is = sym (append-nil cs) })) (sym encoding_same))

-- WHAT EVERY INPUT HAS
-- what the scan i gives, every input has that the bytes so far may begin, but for the fault that stands for what is to
-- come
pub record Covers (p : Fed) (certain : Bool) (i : Scan) : Type 0 where
  pub begins : (input : List ℕ) → MayBe p.whole p.given input → Begins (told_by p.limit i).tokens (answers_to p.limit p.setting input).tokens
  pub ends : (input : List ℕ) → MayBe p.whole p.given input → (f : Fault) → (told_by p.limit i).fault ≡ Some f
      → ((certain ≡ false) × (f.error ≡ YAML_READER_ERROR)) ⊎ (answers_to p.limit p.setting input ≡ told_by p.limit i)
  pub ends_well : (told_by p.limit i).fault ≡ None → (p.whole ≡ true) × ((input : List ℕ) → MayBe p.whole p.given input → answers_to p.limit p.setting input ≡ told_by p.limit i)

some_not_none : (f : Fault) → Some f ≡ None → ⊥
some_not_none f e = cc

-- an input that was refused ends with a fault
refused_ends : (limit : ℕ) (input : Input) (f : Fault) → KeepsOrder input.source → input.refusal ≡ Some f → (answers limit input).fault ≡ None → ⊥
unfolding answers
refused_ends limit input f k r e = some_not_none f (sym r ∙ accepted limit input k e input.refusal refl)

-- an input that may be the whole one begins with what came
from_came : (w : Bool) (came given input : List ℕ) → Begins came given → MayBe w given input → (more : List ℕ) × (input ≡ came ++ more)
from_came true came given input b m = (b.rest, m ∙ b.is)
from_came false came given input b m = (b.rest ++ m.rest, m.is ∙ ap (λ (x : List ℕ). x ++ m.rest) b.is ∙ append_assoc came b.rest m.rest)

-- more is to come
pub covers_unfinished : (p : Fed) (came : List ℕ) (s : session_t) → Begins came p.given → is_known p.setting came ≡ true → encoding_of p.setting came ≡ YAML_UTF8_ENCODING → Covers p false (held_by false p.setting came s)
unfolding answers_to
covers_unfinished p came s begins known u = record {
  begins = λ input m. let b = from_came p.whole came p.given input begins m in
      subst (λ (x : List ℕ). Begins (told_by p.limit (held_by false p.setting came s)).tokens (answers_to p.limit p.setting x).tokens) (sym b.1)
      (subst (λ (z : Input). Begins (answers p.limit z).tokens (answers_to p.limit p.setting (came ++ b.0)).tokens) (sym (is b.0)) (begins_more p.limit p.setting came b.0 known u));
  ends = λ input m f e. let b = from_came p.whole came p.given input begins m in
      subst (λ (x : List ℕ). ((false ≡ false) × (f.error ≡ YAML_READER_ERROR)) ⊎ (answers_to p.limit p.setting x ≡ told_by p.limit (held_by false p.setting came s))) (sym b.1)
      (elim (ends_more p.limit p.setting came b.0 known u f (ap (λ (z : Input). (answers p.limit z).fault) (sym (is b.0)) ∙ e)) [
        | inl q ↦ inl (refl, ap (λ (x : Fault). x.error) q)
        | inr q ↦ inr (q ∙ ap (answers p.limit) (sym (is b.0)))
      ]);
  ends_well = λ e. absurd (refused_ends p.limit (stood p.limit p.setting came [] known u) (f0 p.limit p.setting came [] known u) (order p.limit p.setting came [] known u) refl (ap (λ (z : Input). (answers p.limit z).fault) (sym (is [])) ∙ e));
}
  where
    is : (more : List ℕ) → decoded_input YAML_UTF8_ENCODING (stand_in (front p.setting came).chars) ≡ stood p.limit p.setting came more known u
    is more = stood_is p.limit p.setting came more known u

-- nothing is
broken_refused : (setting : yaml_encoding_t) (came : List ℕ) → is_broken setting came ≡ true → (f : Fault) × (refusal setting came ≡ Some f)
unfolding refusal
broken_refused setting came e = go (drop (front_len setting came) came) e
  where
    go : (bytes : List ℕ) → breaks (encoding_of setting came) bytes ≡ true → (f : Fault) × (refusal_of (encoding_of setting came) (front_len setting came) bytes ≡ Some f)
    go [] e = absurd (false≢true e)
    go (b ∷ bytes) e = (_, refl)

refused_as : (setting : yaml_encoding_t) (came : List ℕ) (f : Fault) → refusal setting came ≡ Some f → (decoded_input setting came).refusal ≡ Some f
unfolding decoded_input
refused_as setting came f e = e

pub covers_certain : (p : Fed) (came : List ℕ) (s : session_t) → Begins came p.given → IsCertain p came → Covers p true (held_by true p.setting came s)
unfolding answers_to
covers_certain p came s b (inl c) = record {
  begins = λ input m. record { rest = []; is = ap (λ (x : Answers). x.tokens) (all_of input m) ∙ sym (append-nil (told_by p.limit (held_by true p.setting came s)).tokens) };
  ends = λ input m f e. inr (all_of input m);
  ends_well = λ e. (c.0, all_of);
}
  where
    all_of : (input : List ℕ) → MayBe p.whole p.given input → answers_to p.limit p.setting input ≡ told_by p.limit (held_by true p.setting came s)
    all_of input m = let e : input ≡ p.given = subst (λ (b : Bool). MayBe b p.given input) c.0 m in ap (λ (x : List ℕ). answers p.limit (decoded_input p.setting x)) (e ∙ c.1)
covers_certain p came s b (inr c) = record {
  begins = λ input m. record { rest = []; is = ap (λ (x : Answers). x.tokens) (all_of input m) ∙ sym (append-nil (told_by p.limit (held_by true p.setting came s)).tokens) };
  ends = λ input m f e. inr (all_of input m);
  ends_well = λ e. let r = broken_refused p.setting came c.1 in absurd (refused_ends p.limit (decoded_input p.setting came) r.0 (inputs_keep_order p.setting came) (refused_as p.setting came r.0 r.1) e);
}
  where
    all_of : (input : List ℕ) → MayBe p.whole p.given input → answers_to p.limit p.setting input ≡ told_by p.limit (held_by true p.setting came s)
    all_of input m = let z = from_came p.whole came p.given input b m in ap (λ (x : List ℕ). answers p.limit (decoded_input p.setting x)) z.1 ∙ ap (answers p.limit) (refused_for_good p.setting came z.0 c.0 c.1)

-- THE TOKENS
module _ (p : Fed) (certain : Bool) (i : Scan) (c : Covers p certain i) (l : i.session.state.limit ≡ p.limit) (n : i.session.state.taken ≡ p.session.taken) where
  pub next_given : (j : Scan) (ts : List yaml_token_t) → HandsOn i j ts → (input : List ℕ) → MayBe p.whole p.given input → ts ≡ take (length ts) (drop p.session.taken (answers_to p.limit p.setting input).tokens)
  next_given j ts h input m = taken_too ts (told_by p.limit i).tokens (answers_to p.limit p.setting input).tokens p.session.taken (c.begins input m)
      (subst (λ (k : ℕ). ts ≡ take (length ts) (drop k (told_by p.limit i).tokens)) n (subst (λ (k : ℕ). ts ≡ take (length ts) (drop i.session.state.taken (told_by k i).tokens)) l (next_told i j ts h)))

  -- the token that comes next
  pub next_one : (x : Token) → slice_get (tokens_in i) i.session.state.taken ≡ Some x → (input : List ℕ) → MayBe p.whole p.given input
      → take 1 (drop p.session.taken (answers_to p.limit p.setting input).tokens) ≡ handed_out (decoded_input i.setting i.input).encoding x ∷ []
  unfolding answers
  next_one x e input m =
      let f = handed_out (decoded_input i.setting i.input).encoding in
      let L = tokens_in i in
      let k = i.session.state.taken in
      let a : f x ∷ [] ≡ take 1 (drop k (map f L)) = ap (map f) (sym (one_taken L k x e)) ∙ sym (take-map f 1 (drop k L)) ∙ ap (λ (z : List yaml_token_t). take 1 z) (sym (drop-map f k L)) in
      let b : f x ∷ [] ≡ take 1 (drop p.session.taken (told_by p.limit i).tokens) = a ∙ (λ j. take 1 (drop (n j) (map f (tokens_of (l j) (course_in (l j) i.setting i.input))))) in
      sym (taken_too (f x ∷ []) (told_by p.limit i).tokens (answers_to p.limit p.setting input).tokens p.session.taken (c.begins input m) b)
