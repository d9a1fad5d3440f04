-- What a call gives of the scanner that is fed.
use Rattle.std.proofs.Common.{◌≡◌, ℕ, ◌≤◌, ◌<◌, Bool, true, false, List, [], ◌∷◌, ◌++◌, append_assoc, take, drop, length, length-append, slice_get, Option, None, Some, refl, ap, sym, ◌∙◌, subst, arith, inl, inr}
use Rattle.std.specs.Prelude.{◌⊎◌, if◌then◌else◌}
use Rattle.std.proofs.lemmas.Bool.{false≢true}
use Rattle.std.proofs.lemmas.List.{take-append-le, take_all}
use Rattle.yaml_text.specs.Chars.{utf8}
use Rattle.yaml_text.specs.Decode.{encoding_of, front, refusal}
use Rattle.yaml_text.specs.Decoding.{refusal_seen}
use Rattle.yaml_text.specs.Fault.{Fault, fault_of}
use Rattle.yaml_text.specs.Kept.{IsKeptOf, KeptText}
use Rattle.yaml_text.specs.Pieces.{fault_to_come}
use Rattle.yaml_text.specs.declared.fault.yaml_fault_t.{yaml_fault_t}
use Rattle.yaml_text.specs.declared.types.yaml_encoding_t.{yaml_encoding_t}
use Rattle.yaml_text.specs.declared.types.yaml_encoding_t.TheVariants.{YAML_UTF8_ENCODING}
use Rattle.yaml_text.specs.declared.types.yaml_error_type_t.TheVariants.{YAML_READER_ERROR}
use Rattle.yaml_scan.specs.Answers.{Answers, answers}
use Rattle.yaml_scan.specs.Begins.{Begins}
use Rattle.yaml_scan.specs.Course.{Input}
use Rattle.yaml_scan.specs.Decoded.{decoded_input}
use Rattle.yaml_scan.specs.Fed.{EndsBy, Fed, HasEndedWell, HasTakenAll, MayBe, Why}
use Rattle.yaml_scan.specs.Fed.Why.{NO_ROOM, MORE, WHOLE, OVER, FAULT}
use Rattle.yaml_scan.specs.FedCalls.{FedGoesOn, GivesFed, HasNoRoom, IsPeeked, IsWhy}
use Rattle.yaml_scan.specs.Groups.{Token, handed_out}
use Rattle.yaml_scan.specs.Inputs.{answers_to}
use Rattle.yaml_scan.specs.Parser.{course_by}
use Rattle.yaml_scan.specs.ParserCalls.{token_or_empty, token_shown}
use Rattle.yaml_scan.specs.KeptCalls.{HasNoMoreRoom, token_peeked}
use Rattle.yaml_scan.specs.Pieces.{unfinished}
use Rattle.yaml_scan.specs.Session.{Session}
use Rattle.yaml_scan.specs.Token.{empty, yaml_token_t}
use Rattle.yaml_scan.specs.declared.fed.yaml_fed_parser_t.{yaml_fed_parser_t}
use Rattle.yaml_scan.specs.declared.fed.yaml_fed_t.{yaml_fed_t}
use Rattle.yaml_scan.specs.declared.fed.yaml_fed_t.TheVariants as code
use Rattle.yaml_scan.specs.declared.scanner.scanner_t.{scanner_t}
use Rattle.yaml_scan.specs.declared.session.session_t.{session_t}
use Rattle.yaml_scan.specs.inside.Feeding.{Awaits, GivesOn, GivesOver, IsFed, IsFedBy, IsOver, IsReadyFed, held, held_by}
use Rattle.yaml_scan.specs.inside.Kept.{IsScannerOf, scan_of}
use Rattle.yaml_scan.specs.inside.KeptEnds.{KeepsText}
use Rattle.yaml_scan.specs.inside.KeptParts.{GoesOnTo, HandsOn, StopsAfter, tokens_in}
use Rattle.yaml_scan.specs.inside.Ready.{Scan, Sound, ended_by, parser_of, scanner_in, with_session}
use Rattle.yaml_scan.proofs.RunningCalls.CallAnswers.{shown_settled, token_some}
use Rattle.yaml_scan.proofs.RunningCalls.FedCalls.{all_given, fed_closed, fed_on, fed_waits, gives_closed, gives_on, gives_waits, left_by, q_closed, q_waits, with_fed}
use Rattle.yaml_scan.proofs.Texts.UnfinishedInputs.{some_fault}
use Rattle.yaml_scan.proofs.RunningCalls.FedTokens.{Covers, covers_certain, fault_so_far, covers_unfinished, next_one, none_held_back, stood_is, told_by}
use Rattle.yaml_scan.proofs.RunningCalls.MoreCame.{held_front, refusal_in}

-- THE NEXT TOKEN
-- a token that is shown is the next one
shown_next : (i : Scan) (t : yaml_token_t) → Sound i → token_peeked (parser_of i) ≡ Some t → (x : Token) × (slice_get (tokens_in i) i.session.state.taken ≡ Some x) × (t ≡ handed_out (decoded_input i.setting i.input).encoding x)
unfolding course_by
shown_next i t v e = go i.session.peeked refl e
  where
    go : (b : Bool) → i.session.peeked ≡ b → (if b then Some (token_shown (parser_of i)) else None) ≡ Some t → (x : Token) × (slice_get (tokens_in i) i.session.state.taken ≡ Some x) × (t ≡ handed_out (decoded_input i.setting i.input).encoding x)
    go false q r = absurd (let z : None ≡ Some t = r in cc)
    go true q r =
        let s = scanner_in i in
        let n = token_some i.setting i.input s s (shown_settled i.setting i.input s (v.peeked q).1) in
        let f = λ (o : Option Token). token_or_empty (decoded_input i.setting i.input).encoding o in
        let a : t ≡ token_shown (parser_of i) = let z : Some (token_shown (parser_of i)) ≡ Some t = r in cc in
        let b : token_shown (parser_of i) ≡ f (slice_get (tokens_in i) i.session.state.taken) = ap (λ (b : Bool). if b then f (slice_get (tokens_in i) i.session.state.taken) else empty) q in
        (n.0, n.1, a ∙ b ∙ ap f n.1)

-- what is shown was peeked at
peeked_at : (i : Scan) (t : yaml_token_t) → token_peeked (parser_of i) ≡ Some t → i.session.peeked ≡ true
peeked_at i t e = go i.session.peeked refl e
  where
    go : (b : Bool) → i.session.peeked ≡ b → (if b then Some (token_shown (parser_of i)) else None) ≡ Some t → i.session.peeked ≡ true
    go true q r = q
    go false q r = absurd (let z : None ≡ Some t = r in cc)

-- what a sink lacks room for
no_room : (q : Fed) (i : Scan) → Sound i → (lacks : ℕ → ℕ → Type 0) → q.session.peeked ≡ i.session.peeked → (i.session.over ≡ true → ⊥) → HasNoMoreRoom lacks (parser_of i)
    → ((x : Token) → slice_get (tokens_in i) i.session.state.taken ≡ Some x → (input : List ℕ) → MayBe q.whole q.given input → take 1 (drop q.session.taken (answers_to q.limit q.setting input).tokens) ≡ handed_out (decoded_input i.setting i.input).encoding x ∷ [])
    → HasNoRoom lacks q
no_room q i v lacks p o (inl e) next = absurd (o e)
no_room q i v lacks p o (inr (inl l)) next = inl l
no_room q i v lacks p o (inr (inr w)) next =
    let n = shown_next i w.0 v w.1 in
    inr (w.0, p ∙ peeked_at i w.0 w.1, (λ input m. next n.0 n.1 input m ∙ ap (λ (z : yaml_token_t). z ∷ []) (sym n.2)), w.2)

module _ (p : Fed) (k : yaml_fed_parser_t) (R : IsReadyFed p k p.given) (uncertain : k.certain ≡ false) where
  F : IsFedBy p k p.given
  F = R.is

  known : k.known ≡ true
  known = R.known uncertain

  abbrev s : session_t
  s = k.scanner.session

  abbrev i : Scan
  i = held p.given k

  -- as it is held
  abbrev h : Scan
  h = held_by false p.setting p.given s

  same : i ≡ h
  same = λ j. held_by (uncertain j) (F.setting j) p.given s

  utf8_is : encoding_of p.setting p.given ≡ YAML_UTF8_ENCODING
  utf8_is = (F.part uncertain known).1.utf8

  covers : Covers p k.certain i
  covers = subst (λ (b : Bool). Covers p b (held_by b k.scanner.setting p.given s)) (sym uncertain) (subst (λ (e : yaml_encoding_t). Covers p false (held_by false e p.given s)) (sym F.setting)
      (covers_unfinished p p.given s F.begins (F.part uncertain known).0 utf8_is))

  refused : refusal h.setting h.input ≡ Some (fault_to_come (length (utf8 (front p.setting p.given).chars)))
  refused = sym (refusal_in h.setting h.input) ∙ ap (λ (x : Input). x.refusal) (stood_is p.limit p.setting p.given [] (F.part uncertain known).0 utf8_is)

  pub over_of : IsOver i (front p.setting p.given) s (fault_to_come (length (utf8 (front p.setting p.given).chars)))
  over_of = record {
    sound = F.sound;
    still_open = R.still_open;
    same = refl;
    is_front = sym (ap (λ (x : Scan). front x.setting x.input) same ∙ held_front false p.setting p.given utf8_is);
    is_refused = ap (λ (x : Scan). refusal x.setting x.input) same ∙ refused;
  }

  open_still : (t : session_t) → (t.over ≡ true → ⊥) → t.over ≡ false
  open_still t n = go t.over n
    where
      go : (b : Bool) → (b ≡ true → ⊥) → b ≡ false
      go false f = refl
      go true f = absurd (f refl)

  -- it has no end yet
  still_on : (t : session_t) → Sound (with_session i t) → (ts : List yaml_token_t) → HandsOn i (with_session i t) ts → t.over ≡ true → ⊥
  still_on t v ts h o = false≢true (sym (R.unfinished uncertain).1 ∙ (all_given p k p.given F covers R.still_open t v ts h o).0)

  no_fewer : length (answers p.limit (unfinished p.setting p.given)).tokens ≤ length (told_by p.limit i).tokens
  no_fewer =
      let n = (F.part uncertain known).0 in
      let b = none_held_back p.limit p.setting p.given [] n utf8_is in
      let e = stood_is p.limit p.setting p.given [] n utf8_is in
      let a = ap (λ (x : Input). length (answers p.limit x).tokens) e in
      let d = ap (λ (x : Scan). length (told_by p.limit x).tokens) same in
      let m = ap (λ (z : List yaml_token_t). length z) b.is in
      let r = length-append (answers p.limit (unfinished p.setting p.given)).tokens b.rest in
      omega arith

  -- a fault of what came stands for what is to come, or is that of the scan
  same_fault : (f g : Fault) → (told_by p.limit i).fault ≡ Some f → (answers p.limit (unfinished p.setting p.given)).fault ≡ Some g → (g.error ≡ YAML_READER_ERROR) ⊎ (g ≡ f)
  same_fault f g e x = elim (fault_so_far p.limit p.setting p.given [] (F.part uncertain known).0 utf8_is g x) [
    | inl z ↦ inl (ap (λ (y : Fault). y.error) z)
    | inr z ↦ inr (sym (some_fault g f (sym x ∙ sym (ap (λ (y : Answers). y.fault) z) ∙ sym (ap (λ (y : Input). (answers p.limit y).fault) (stood_is p.limit p.setting p.given [] (F.part uncertain known).0 utf8_is)) ∙ sym (ap (λ (y : Scan). (told_by p.limit y).fault) same) ∙ e)))
  ]

  module _ (took : List yaml_token_t → Type 0) (lacks : ℕ → ℕ → Type 0) where
    abbrev Given : yaml_fed_t → session_t → Type 0
    Given result t = GivesFed p (with_fed k t) result took lacks

    gives_result : (result : yaml_fed_t) (t : session_t) → GivesOn i t took lacks result → Given result t
    gives_result code.ROOM t w = let G = w.2 in record {
      left = left_by p (with_session i t);
      is = record { came = p.given; is = fed_on p k p.given F covers R.still_open t G.sound w.0 G.hands k.scanner.text F.part (λ a. absurd (false≢true (sym uncertain ∙ a))) (λ a. known) };
      tokens = w.0;
      given = w.1;
      why = NO_ROOM;
      is_why = refl;
      gives = gives_on p k p.given F covers R.still_open t G.sound w.0 G.hands NO_ROOM (open_still t (λ o. still_on t G.sound w.0 G.hands o));
      room = λ e. no_room (left_by p (with_session i t)) (with_session i t) G.sound lacks refl (λ o. still_on t G.sound w.0 G.hands o) w.3 (next_one (left_by p (with_session i t)) k.certain (with_session i t) (record { begins = covers.begins; ends = covers.ends; ends_well = covers.ends_well }) (G.hands.limit ∙ F.limit) refl);
    }
    gives_result code.MORE t w =
        let z = w.2 in
        let q = z.4 in
        let same : refusal_seen (Some q.0) ≡ (decoded_input i.setting i.input).refusal = sym q.1 ∙ sym (refusal_in i.setting i.input) in
        subst (Given code.MORE) (sym q.2) (record {
          left = q_waits p k p.given F covers R.still_open z.0 w.0 z.1 z.2 (Some q.0) same z.3 uncertain known;
          is = record { came = p.given; is = fed_waits p k p.given F covers R.still_open z.0 w.0 z.1 z.2 (Some q.0) same z.3 uncertain known };
          tokens = w.0;
          given = w.1;
          why = MORE;
          is_why = refl;
          gives = gives_waits p k p.given F covers R.still_open z.0 w.0 z.1 z.2 (Some q.0) same z.3 uncertain known (R.unfinished uncertain).1 no_fewer (same_fault z.1) (R.unfinished uncertain).3;
          room = λ e. absurd (cc);
        })
    gives_result code.FAULT t w =
        let z = w.2 in
        subst (Given code.FAULT) (sym z.4) (record {
          left = q_closed p k p.given F covers R.still_open z.0 w.0 (fault_of z.1) z.2 z.1 refl;
          is = record { came = p.given; is = fed_closed p k p.given F covers R.still_open z.0 w.0 (fault_of z.1) z.2 z.1 refl (λ a. known) };
          tokens = w.0;
          given = w.1;
          why = FAULT (fault_of z.1);
          is_why = (fault_of z.1, refl, refl);
          gives = gives_closed p k p.given F covers R.still_open z.0 w.0 (fault_of z.1) z.2 z.1 refl (λ a. z.3);
          room = λ e. absurd (cc);
        })
    gives_result code.OVER t w = absurd w
    gives_result code.WHOLE t w = absurd w

    pub gives_over : (l : scanner_t) (result : yaml_fed_t) → GivesOver i k.scanner l took lacks result → GivesFed p (record { scanner = l; came = k.came; known = k.known; certain = k.certain }) result took lacks
    gives_over l result w = subst (λ (x : scanner_t). GivesFed p (record { scanner = x; came = k.came; known = k.known; certain = k.certain }) result took lacks) (sym w.1) (gives_result result w.0 w.2)

-- NOTHING TO COME CAN CHANGE IT
-- the same with another text
retext : (q : Fed) (k : yaml_fed_parser_t) (came : List ℕ) → k.certain ≡ true → IsFedBy q k came → (text : KeptText) → (k.scanner.session.over ≡ false → 0 < k.scanner.session.state.made → IsKeptOf (front q.setting came) came text)
    → IsFedBy q (record { scanner = record { setting = k.scanner.setting; text = text; session = k.scanner.session }; came = k.came; known = k.known; certain = k.certain }) came
retext q k came c F text kept = record {
  begins = F.begins;
  came_is = F.came_is;
  setting = F.setting;
  limit = F.limit;
  session = F.session;
  sound = F.sound;
  certain = F.certain;
  part = λ a b. absurd (false≢true (sym a ∙ c));
  unknown = λ a b. absurd (false≢true (sym a ∙ c));
  text = λ a o m. kept o m;
  all = F.all;
}

-- the bytes that had come are the first of the input
pub came_first : (came given : List ℕ) (n : ℕ) → Begins came given → n ≡ length came → take n given ≡ came
came_first came given n b e = ap (λ (m : ℕ). take m given) e ∙ ap (take (length came)) b.is ∙ take-append-le (length came) came b.rest (omega arith) ∙ take_all (length came) came (omega arith)

module _ (p : Fed) (k : yaml_fed_parser_t) (came : List ℕ) (R : IsReadyFed p k came) (certain : k.certain ≡ true) where
  G : IsFedBy p k came
  G = R.is

  abbrev ks : session_t
  ks = k.scanner.session

  abbrev e0 : Scan
  e0 = scan_of came k.scanner

  pub scan_same : held came k ≡ e0
  scan_same = λ j. held_by (certain j) k.scanner.setting came ks

  pub is_scanner : IsScannerOf came k.scanner
  is_scanner = record {
    sound = subst (λ (x : Scan). Sound x) scan_same G.sound;
    text = λ o m. subst (λ (e : yaml_encoding_t). IsKeptOf (front e came) came k.scanner.text) (sym G.setting) (G.text certain o m);
  }

  cover : Covers p k.certain (held came k)
  cover = subst (λ (b : Bool). Covers p b (held_by b k.scanner.setting came ks)) (sym certain) (subst (λ (e : yaml_encoding_t). Covers p true (held_by true e came ks)) (sym G.setting)
      (covers_certain p came ks G.begins (G.certain certain)))

  module _ (took : List yaml_token_t → Type 0) (lacks : ℕ → ℕ → Type 0) (l : scanner_t) where
    abbrev fed_with : scanner_t → yaml_fed_parser_t
    fed_with x = record { scanner = x; came = k.came; known = k.known; certain = k.certain }

    abbrev as_was : scanner_t
    as_was = record { setting = k.scanner.setting; text = l.text; session = l.session }

    -- its calls gave tokens
    module _ (z : KeepsText came k.scanner l) (ts : List yaml_token_t) (given : took ts) (g : GoesOnTo e0 (scan_of came l) ts) (why : HasNoMoreRoom lacks (parser_of (scan_of came l))) where
      same_scan : scan_of came l ≡ with_session (held came k) l.session
      same_scan = (λ j. record { setting = z.setting j; input = came; session = l.session }) ∙ sym (ap (λ (x : Scan). with_session x l.session) scan_same)

      goes : GoesOnTo (held came k) (with_session (held came k) l.session) ts
      goes = subst (λ (x : Scan). GoesOnTo x (with_session (held came k) l.session) ts) (sym scan_same) (subst (λ (x : Scan). GoesOnTo e0 x ts) same_scan g)

      is_now : IsFedBy (left_by p (with_session (held came k) l.session)) (fed_with l) came
      is_now = subst (λ (x : scanner_t). IsFedBy (left_by p (with_session (held came k) l.session)) (fed_with x) came) (λ j. record { setting = (sym z.setting) j; text = l.text; session = l.session })
          (fed_on p k came G cover R.still_open l.session goes.sound ts goes.hands l.text (λ a b. absurd (false≢true (sym a ∙ certain)))
          (λ a o m. subst (λ (e : yaml_encoding_t). IsKeptOf (front e came) came l.text) G.setting z.text) (λ a. absurd (false≢true (sym a ∙ certain))))

      pub gives_room : l.session.over ≡ false → GivesFed p (fed_with l) code.ROOM took lacks
      gives_room o = record {
        left = left_by p (with_session (held came k) l.session);
        is = record { came = came; is = is_now };
        tokens = ts;
        given = given;
        why = NO_ROOM;
        is_why = refl;
        gives = gives_on p k came G cover R.still_open l.session goes.sound ts goes.hands NO_ROOM o;
        room = λ e. no_room (left_by p (with_session (held came k) l.session)) (with_session (held came k) l.session) goes.sound lacks refl (λ n. false≢true (sym o ∙ n)) (subst (λ (x : Scan). HasNoMoreRoom lacks (parser_of x)) same_scan why)
            (next_one (left_by p (with_session (held came k) l.session)) k.certain (with_session (held came k) l.session) (record { begins = cover.begins; ends = cover.ends; ends_well = cover.ends_well }) (goes.hands.limit ∙ G.limit) refl);
      }

      pub gives_over_end : l.session.over ≡ true → GivesFed p (fed_with l) code.OVER took lacks
      gives_over_end o = record {
        left = left_by p (with_session (held came k) l.session);
        is = record { came = came; is = is_now };
        tokens = ts;
        given = given;
        why = OVER;
        is_why = refl;
        gives = gives_on p k came G cover R.still_open l.session goes.sound ts goes.hands OVER (o, λ n. all_given p k came G cover R.still_open l.session goes.sound ts goes.hands o);
        room = λ e. absurd (cc);
      }

    -- it has stopped, and the fault w closes it
    module _ (same : l.setting ≡ k.scanner.setting) (ts : List yaml_token_t) (given : took ts) (f : Fault) (e : StopsAfter e0 l.session ts f) (w : yaml_fault_t) (d : fault_of w ≡ f) where
      e_held : StopsAfter (held came k) l.session ts f
      e_held = subst (λ (x : Scan). StopsAfter x l.session ts f) (sym scan_same) e

      pub gives_fault : (s : session_t) → s ≡ ended_by l.session w → GivesFed p (fed_with (record { setting = l.setting; text = l.text; session = s })) code.FAULT took lacks
      gives_fault s left = record {
        left = q_closed p k came G cover R.still_open l.session ts f e_held w d;
        is = record {
          came = came;
          is = subst (λ (x : scanner_t). IsFedBy (q_closed p k came G cover R.still_open l.session ts f e_held w d) (fed_with x) came) (λ j. record { setting = (sym same) j; text = l.text; session = (sym left) j })
              (retext (q_closed p k came G cover R.still_open l.session ts f e_held w d) (with_fed k (ended_by l.session w)) came certain
              (fed_closed p k came G cover R.still_open l.session ts f e_held w d (λ a. absurd (false≢true (sym a ∙ certain)))) l.text (λ o m. absurd (false≢true (sym o))));
        };
        tokens = ts;
        given = given;
        why = FAULT f;
        is_why = (f, ap Some d, refl);
        gives = gives_closed p k came G cover R.still_open l.session ts f e_held w d (λ a. absurd (false≢true (sym a ∙ certain)));
        room = λ e. absurd (cc);
      }

-- NO TOKEN IS GIVEN
pub gives_nothing : (p : Fed) (k : yaml_fed_parser_t) (result : yaml_fed_t) (w : Why) (took : List yaml_token_t → Type 0) (lacks : ℕ → ℕ → Type 0) → IsFed p k → IsWhy result p w → EndsBy p p w → (p.session.over ≡ true → w ≡ OVER) → took [] → (result ≡ code.ROOM → HasNoRoom lacks p)
    → GivesFed p k result took lacks
gives_nothing p k result w took lacks F why e end given room = record {
  left = p;
  is = F;
  tokens = [];
  given = given;
  why = w;
  is_why = why;
  gives = record { same = refl; taken = omega arith; next = λ input m. refl; ends = e; at_end = λ o. (refl, end o, refl) };
  room = room;
}

-- before more comes
pub gives_later : (p : Fed) (k : yaml_fed_parser_t) (result : yaml_fed_t) (took : List yaml_token_t → Type 0) (lacks : ℕ → ℕ → Type 0) → IsFed p k → Awaits p result → took [] → GivesFed p k result took lacks
gives_later p k result took lacks F (inl w) given = subst (λ (r : yaml_fed_t). GivesFed p k r took lacks) (sym w.0) (gives_nothing p k code.MORE MORE took lacks F refl w.1 (λ o. absurd (false≢true (sym w.1.0 ∙ o))) given (λ e. absurd (cc)))
gives_later p k result took lacks F (inr w) given = subst (λ (r : yaml_fed_t). GivesFed p k r took lacks) (sym w.0) (gives_nothing p k code.WHOLE WHOLE took lacks F refl w.1 (λ o. absurd (false≢true (sym w.1.0 ∙ o))) given (λ e. absurd (cc)))

-- after the end
pub gives_no_more : (p : Fed) (k : yaml_fed_parser_t) (took : List yaml_token_t → Type 0) (lacks : ℕ → ℕ → Type 0) → IsFed p k → k.scanner.session.over ≡ true → took [] → GivesFed p k code.OVER took lacks
gives_no_more p k took lacks F o given =
    let over : p.session.over ≡ true = sym (ap (λ (x : Session). x.over) F.is.session) ∙ o in
    let all : HasEndedWell p p → (p.whole ≡ true) × HasTakenAll p None = (λ n. elim n [
      | inl goes ↦ absurd (false≢true (sym goes ∙ over))
      | inr none ↦ F.is.all over none
    ]) in
    gives_nothing p k code.OVER OVER took lacks F refl (over, all) (λ o. refl) given (λ e. absurd (cc))

-- nothing to come can change what came before
pub ready_still : (p : Fed) (k : yaml_fed_parser_t) (F : IsFed p k) → k.scanner.session.over ≡ false → k.certain ≡ true → IsReadyFed p k F.came
ready_still p k F o c = record { is = F.is; still_open = o; known = λ a. absurd (false≢true (sym a ∙ c)); unfinished = λ a. absurd (false≢true (sym a ∙ c)) }

-- THE TOKEN THAT IS SHOWN
module _ (p : Fed) (k : yaml_fed_parser_t) (came : List ℕ) (F : IsFedBy p k came) where
  -- its first step was made
  made_so : k.scanner.session.peeked ≡ true → 0 < k.scanner.session.state.made
  made_so e = let n = (F.sound.peeked e).1 in n.stands.runs.begun

  covers_so : k.scanner.session.peeked ≡ true → (b : Bool) → k.certain ≡ b → Covers p k.certain (held came k)
  covers_so e true c = subst (λ (x : yaml_encoding_t). Covers p k.certain (held_by k.certain x came k.scanner.session)) (sym F.setting) (subst (λ (b : Bool). Covers p b (held_by b p.setting came k.scanner.session)) (sym c) (covers_certain p came k.scanner.session F.begins (F.certain c)))
  covers_so e false c = go k.known refl
    where
      go : (b : Bool) → k.known ≡ b → Covers p k.certain (held came k)
      go false n = absurd (let z = F.unknown c n in let m = made_so e in omega arith)
      go true n = let t = F.part c n in subst (λ (x : yaml_encoding_t). Covers p k.certain (held_by k.certain x came k.scanner.session)) (sym F.setting) (subst (λ (b : Bool). Covers p b (held_by b p.setting came k.scanner.session)) (sym c) (covers_unfinished p came k.scanner.session F.begins t.0 t.1.utf8))

  shown_is : (o : Option yaml_token_t) → o ≡ token_peeked (parser_of (held came k)) → IsPeeked p o
  shown_is None e = ap (λ (x : Session). x.peeked) (sym F.session) ∙ go k.scanner.session.peeked refl e
    where
      go : (b : Bool) → k.scanner.session.peeked ≡ b → None ≡ (if b then Some (token_shown (parser_of (held came k))) else None) → k.scanner.session.peeked ≡ false
      go false q r = q
      go true q r = absurd (cc)
  shown_is (Some t) e = (peeked, λ input m. next_one p k.certain (held came k) (covers_so there k.certain refl) F.limit (ap (λ (x : Session). x.taken) F.session) n.0 n.1 input m ∙ ap (λ (z : yaml_token_t). z ∷ []) (sym n.2))
    where
      there : k.scanner.session.peeked ≡ true
      there = go k.scanner.session.peeked refl e
        where
          go : (b : Bool) → k.scanner.session.peeked ≡ b → Some t ≡ (if b then Some (token_shown (parser_of (held came k))) else None) → k.scanner.session.peeked ≡ true
          go true q r = q
          go false q r = absurd (cc)

      peeked : p.session.peeked ≡ true
      peeked = ap (λ (x : Session). x.peeked) (sym F.session) ∙ there

      n : (x : Token) × (slice_get (tokens_in (held came k)) (held came k).session.state.taken ≡ Some x) × (t ≡ handed_out (decoded_input (held came k).setting (held came k).input).encoding x)
      n = shown_next (held came k) t F.sound (sym e)

pub peeked_is : (p : Fed) (k : yaml_fed_parser_t) → IsFed p k → (o : Option yaml_token_t) → ((i : Scan) → i.session ≡ k.scanner.session → Sound i → o ≡ token_peeked (parser_of i)) → IsPeeked p o
peeked_is p k F o f = shown_is p k F.came F.is o (f (held F.came k) refl F.is.sound)

-- MORE CAME
pub more_comes : FedGoesOn
more_comes p k bytes last w F = record {
  came = F.came;
  is = let I = F.is in record {
    begins = record { rest = I.begins.rest ++ bytes; is = ap (λ (x : List ℕ). x ++ bytes) I.begins.is ∙ append_assoc F.came I.begins.rest bytes };
    came_is = I.came_is;
    setting = I.setting;
    limit = I.limit;
    session = I.session;
    sound = I.sound;
    certain = λ e. elim (I.certain e) [ inl c ↦ absurd (false≢true (sym w ∙ c.0)) | inr c ↦ inr c ];
    part = I.part;
    unknown = I.unknown;
    text = I.text;
    all = λ o n. absurd (false≢true (sym w ∙ (I.all o n).0));
  };
}
