-- More bytes came: the scan goes on over the longer text.
use Rattle.std.proofs.Common.{◌≡◌, ◌≢◌, ℕ, ◌<◌, ◌^◌, Bool, true, false, List, [], append-nil, length, Option, None, Some, refl, ap, sym, ◌∙◌, subst, arith, inl, inr}
use Rattle.std.specs.Prelude.{◌⊎◌, IfSome, MatchOption, option_map}
use Rattle.std.proofs.lemmas.Bool.{cases_lt, false≢true}
use Rattle.std.proofs.lemmas.Str.{length-le-encodes}
use Rattle.yaml_text.specs.Chars.{utf8}
use Rattle.yaml_text.specs.Decode.{encoding_of, front, refusal as refusal_of}
use Rattle.yaml_text.specs.Fault.{Fault}
use Rattle.yaml_text.specs.Kept.{IsKeptOf, KeptText}
use Rattle.yaml_text.specs.Decoding.{refusal_seen}
use Rattle.yaml_text.specs.Pieces.{IsBegunOf, fault_to_come, is_broken}
use Rattle.yaml_text.specs.Text.{Text}
use Rattle.yaml_text.specs.TextBytes.{AreChars}
use Rattle.yaml_text.specs.declared.fault.yaml_fault_t.{yaml_fault_t}
use Rattle.yaml_text.specs.declared.types.yaml_encoding_t.{yaml_encoding_t}
use Rattle.yaml_text.specs.declared.types.yaml_encoding_t.TheVariants.{YAML_UTF8_ENCODING}
use Rattle.yaml_text.proofs.Decodings.FrontGoesOn.{begun_goes_on}
use Rattle.yaml_text.proofs.Decodings.DecodeResults.{front_is}
use Rattle.yaml_text.proofs.Decodings.StandIns.{stands_in}
use Rattle.yaml_scan.specs.Answers.{Answers, answers}
use Rattle.yaml_scan.specs.Begins.{Begins}
use Rattle.yaml_scan.specs.Course.{Input}
use Rattle.yaml_scan.specs.Decoded.{decoded_input}
use Rattle.yaml_scan.specs.Fed.{Fed}
use Rattle.yaml_scan.specs.Pieces.{is_known, to_come, unfinished}
use Rattle.yaml_scan.specs.declared.fed.yaml_fed_parser_t.{yaml_fed_parser_t}
use Rattle.yaml_scan.specs.declared.fed.yaml_fed_t.{yaml_fed_t}
use Rattle.yaml_scan.specs.declared.fed.yaml_fed_t.TheVariants as code
use Rattle.yaml_scan.specs.Session.{Session}
use Rattle.yaml_scan.specs.declared.scanner.scanner_t.{scanner_t}
use Rattle.yaml_scan.specs.declared.session.session_t.{session_t}
use Rattle.yaml_scan.specs.declared.state.state_t.{state_t}
use Rattle.yaml_scan.specs.inside.Feeding.{Awaits, BeginsText, CanDecode, GoesOnOver, IsCertain, IsFedBy, IsReadyFed, held, held_by, held_input, held_setting}
use Rattle.yaml_scan.specs.inside.Ready.{IsIn, IsReady, Scan, Sound, course_in, fault_in, parser_of, scanner_in}
use Rattle.yaml_scan.specs.inside.Scanner.{scanner_of}
use Rattle.yaml_scan.specs.inside.Scanning.{IsNearOf}
use Rattle.yaml_scan.specs.inside.TextGoesOn.{TextGoesOn}
use Rattle.yaml_scan.proofs.RunningCalls.CallAnswers.{none_failed}
use Rattle.yaml_scan.proofs.RunningCalls.FedText.{fed_session, fed_state, sound_over}
use Rattle.yaml_scan.proofs.RunningCalls.FedTokens.{stood_is}
use Rattle.yaml_scan.proofs.RunningCalls.KeptCalls.{is_new}
use Rattle.yaml_scan.proofs.RunningStep.FirstStep.{new_reach}
use Rattle.yaml_scan.proofs.Texts.InputPieces.{front_begins, known_more, nothing_yet}
use Rattle.yaml_scan.proofs.Texts.UnfinishedInputs.{some_fault}

-- a scan that has made no step is one of every input
pub sound_new : (i : Scan) (setting : yaml_encoding_t) (input : List ℕ) → Sound i → i.session.over ≡ false → i.session.state.made ≡ 0 → Sound (record { setting = setting; input = input; session = i.session })
sound_new i setting input v o m =
    let n = is_new i v o m (front setting input) in
    let idle : i.session.peeked ≡ true → ⊥ = λ e. let b = (v.peeked e).1.stands.runs.begun in absurd (omega arith) in
    record {
      ready = λ e. inl n;
      peeked = λ e. absurd (idle e);
      failed = v.failed;
      reach = new_reach (scanner_of (front setting input) i.session.state) n (course_in i.session.state.limit setting input).read;
      lead = λ e. absurd (idle e);
      limit = v.limit;
      queued = (let d = n.done in rw m (rw d refl));
      few = rw m (omega arith);
    }

-- WHAT IS HELD
pub refusal_in : (setting : yaml_encoding_t) (given : List ℕ) → (decoded_input setting given).refusal ≡ refusal_of setting given
unfolding decoded_input
refusal_in setting given = refl

encoding_front : (setting : yaml_encoding_t) (came : List ℕ) → (front setting came).encoding ≡ encoding_of setting came
unfolding front
encoding_front setting came = refl

-- its text is that of the bytes that came
pub held_front : (certain : Bool) (setting : yaml_encoding_t) (came : List ℕ) → encoding_of setting came ≡ YAML_UTF8_ENCODING → front (held_setting certain setting) (held_input certain setting came) ≡ front setting came
held_front true setting came u = refl
held_front false setting came u = (stands_in (front setting came).chars (front_is setting came).each).0 ∙ (λ k. record { encoding = (sym (encoding_front setting came ∙ u)) k; chars = (front setting came).chars })

-- what is known of an input whose text was begun
pub can_decode : (p : Fed) (k : yaml_fed_parser_t) (came : List ℕ) → IsFedBy p k came → k.scanner.session.over ≡ false → k.certain ≡ false → k.known ≡ true → CanDecode p k
can_decode p k came F o uncertain known =
    let part = F.part uncertain known in
    record {
      came = came;
      begins = F.begins;
      setting = F.setting;
      limit = F.limit;
      session = F.session;
      sound = subst (λ (e : yaml_encoding_t). Sound (held_by false e came k.scanner.session)) F.setting (subst (λ (b : Bool). Sound (held_by b k.scanner.setting came k.scanner.session)) uncertain F.sound);
      still_open = o;
      known = subst (λ (x : List ℕ). is_known p.setting x ≡ true) (sym F.begins.is) (known_more p.setting came F.begins.rest part.0);
      part = subst (λ (x : List ℕ). IsBegunOf p.setting x k.scanner.text) (sym F.begins.is) (begun_goes_on p.setting came F.begins.rest k.scanner.text part.0 part.1);
      before = λ m. (part.0, part.1.utf8);
    }

-- of one whose text is begun now
pub can_begin : (p : Fed) (k : yaml_fed_parser_t) (came : List ℕ) → IsFedBy p k came → k.scanner.session.over ≡ false → k.certain ≡ false → k.known ≡ false → is_known p.setting p.given ≡ true → (text : KeptText) → IsBegunOf p.setting p.given text
    → CanDecode p (record { scanner = record { setting = k.scanner.setting; text = text; session = k.scanner.session }; came = k.came; known = true; certain = k.certain })
can_begin p k came F o uncertain unknown known text begun = record {
  came = came;
  begins = F.begins;
  setting = F.setting;
  limit = F.limit;
  session = F.session;
  sound = subst (λ (e : yaml_encoding_t). Sound (held_by false e came k.scanner.session)) F.setting (subst (λ (b : Bool). Sound (held_by b k.scanner.setting came k.scanner.session)) uncertain F.sound);
  still_open = o;
  known = known;
  part = begun;
  before = λ m. absurd (let n = F.unknown uncertain unknown in omega arith);
}

module _ (p : Fed) (k : yaml_fed_parser_t) (C : CanDecode p k) where
  abbrev s : session_t
  s = k.scanner.session

  abbrev i : Scan
  i = held_by false p.setting C.came s

  abbrev cs : List ℕ
  cs = (front p.setting C.came).chars

  v : Sound i
  v = C.sound

  utf8_too : encoding_of p.setting p.given ≡ YAML_UTF8_ENCODING
  utf8_too = C.part.utf8

  module _ (certain : Bool) where
    abbrev hs : yaml_encoding_t
    hs = held_setting certain p.setting

    abbrev hi : List ℕ
    hi = held_input certain p.setting p.given

    -- before the first step
    sound_before : s.state.made ≡ 0 → Sound (held_by certain p.setting p.given s)
    sound_before m = sound_new i hs hi v C.still_open m

    -- after it
    module _ (m : 0 < s.state.made) (refusal : Option yaml_fault_t) (near : ℕ) (reads : refusal_seen refusal ≡ (decoded_input hs hi).refusal) (chars : AreChars (front p.setting p.given).chars) (small : length (front p.setting p.given).chars < 2 ^ 63) (near_from : IsNearOf (refusal_seen refusal) (front p.setting p.given).chars near) where
      is_in : IsReady i.setting i.input (scanner_in i) → IsIn i.setting i.input (scanner_in i)
      is_in (inl n) = absurd (let z = n.made in omega arith)
      is_in (inr r) = r.0

      first : front i.setting i.input ≡ record { encoding = YAML_UTF8_ENCODING; chars = cs }
      first = (stands_in cs (front_is p.setting C.came).each).0

      second : front hs hi ≡ front p.setting p.given
      second = held_front certain p.setting p.given utf8_too

      goes : TextGoesOn (scanner_in i) (front hs hi) refusal near
      goes = let b = C.before m in record {
        to_come = fault_to_come (length (utf8 cs));
        unfinished = ap (λ (x : Input). x.refusal) ((is_in (v.ready C.still_open)).reads ∙ stood_is s.state.limit p.setting C.came [] b.0 b.1);
        encoding = ap (λ (x : Text). x.encoding) second ∙ encoding_front p.setting p.given ∙ utf8_too ∙ sym (ap (λ (x : Text). x.encoding) first);
        begins = subst (λ (x : Text). Begins x.chars (front hs hi).chars) (sym first) (subst (λ (x : Text). Begins cs x.chars) (sym second)
            (subst (λ (x : List ℕ). Begins cs (front p.setting x).chars) (sym C.begins.is) (front_begins p.setting C.came C.begins.rest b.0)));
        chars = subst (λ (x : Text). AreChars x.chars) (sym second) chars;
        small = subst (λ (x : Text). length x.chars < 2 ^ 63) (sym second) small;
        near_from = subst (λ (x : Text). IsNearOf (refusal_seen refusal) x.chars near) (sym second) near_from;
      }

      sound_after : Sound (held_by certain p.setting p.given (fed_session s refusal near))
      sound_after = sound_over i hs hi refusal near goes reads v C.still_open m

  -- THE SCANNER THEN
  module _ (known : k.known ≡ true) (text : KeptText) (kept : IsKeptOf (front p.setting p.given) p.given text) (begun : IsBegunOf p.setting p.given text) (refused : Option (yaml_fault_t × Bool)) (refused_is : refusal_seen (option_map (λ r. r.0) refused) ≡ refusal_of p.setting p.given)
      (broken : MatchOption refused (is_broken p.setting p.given ≡ false) (λ r. r.1 ≡ is_broken p.setting p.given)) (certain : Bool) where
    abbrev then : state_t → yaml_fed_parser_t
    then t = record { scanner = record { setting = k.scanner.setting; text = text; session = record s { state = t } }; came = length p.given; known = k.known; certain = certain }

    is_so : (o : Option (yaml_fault_t × Bool)) → MatchOption o (is_broken p.setting p.given ≡ false) (λ r. r.1 ≡ is_broken p.setting p.given) → MatchOption o ⊥ (λ r. r.1 ≡ true) → is_broken p.setting p.given ≡ true
    is_so None b e = absurd e
    is_so (Some r) b e = sym b ∙ e

    not_broken : (o : Option (yaml_fault_t × Bool)) → MatchOption o (is_broken p.setting p.given ≡ false) (λ r. r.1 ≡ is_broken p.setting p.given) → IfSome o (λ r. r.1 ≡ false) → is_broken p.setting p.given ≡ false
    not_broken None b e = b
    not_broken (Some r) b e = sym b ∙ e

    certain_so : (p.whole ≡ true) ⊎ MatchOption refused ⊥ (λ r. r.1 ≡ true) → IsCertain p p.given
    certain_so (inl w) = inl (w, refl)
    certain_so (inr b) = inr (C.known, is_so refused broken b)

    ready_then : (t : state_t) → t.limit ≡ s.state.limit → (parser_of (held_by certain p.setting p.given (record s { state = t }))).session ≡ (parser_of i).session → Sound (held_by certain p.setting p.given (record s { state = t }))
        → (certain ≡ true → (p.whole ≡ true) ⊎ MatchOption refused ⊥ (λ r. r.1 ≡ true)) → (certain ≡ false → (p.whole ≡ false) × IfSome refused (λ r. r.1 ≡ false)) → IsReadyFed p (then t) p.given
    ready_then t l e w sure unsure = record {
      is = record {
        begins = record { rest = []; is = sym (append-nil p.given) };
        came_is = refl;
        setting = C.setting;
        limit = l ∙ C.limit;
        session = e ∙ C.session;
        sound = subst (λ (x : yaml_encoding_t). Sound (held_by certain x p.given (record s { state = t }))) (sym C.setting) w;
        certain = λ z. certain_so (sure z);
        part = λ a b. (C.known, begun);
        unknown = λ a b. absurd (false≢true (sym b ∙ known));
        text = λ a b m. kept;
        all = λ o n. absurd (false≢true (sym C.still_open ∙ ap (λ (x : Session). x.over) C.session ∙ o));
      };
      still_open = C.still_open;
      known = λ a. known;
      unfinished = λ a. (refl, (unsure a).0, kept, not_broken refused broken (unsure a).1);
    }

    reads_so : (b : Bool) → (r : Option yaml_fault_t) → (b ≡ true → refusal_seen r ≡ refusal_seen (option_map (λ x. x.0) refused)) → (b ≡ false → refusal_seen r ≡ Some (fault_to_come (length (utf8 (front p.setting p.given).chars))))
        → refusal_seen r ≡ (decoded_input (held_setting b p.setting) (held_input b p.setting p.given)).refusal
    reads_so true r f g = f refl ∙ refused_is ∙ sym (refusal_in p.setting p.given)
    reads_so false r f g = g refl ∙ sym (ap (λ (x : Input). x.refusal) (stood_is s.state.limit p.setting p.given [] C.known utf8_too))

    pub ready_fed : (l : scanner_t) → GoesOnOver (front p.setting p.given) (record { setting = k.scanner.setting; text = text; session = s }) refused p.whole l certain
        → IsReadyFed p (record { scanner = l; came = length p.given; known = k.known; certain = certain }) p.given
    ready_fed l g =
        let n = g.renewed in
        let sure : certain ≡ true → (p.whole ≡ true) ⊎ MatchOption refused ⊥ (λ r. r.1 ≡ true) = λ z. (g.sure z).0 in
        let unsure : certain ≡ false → (p.whole ≡ false) × IfSome refused (λ r. r.1 ≡ false) = λ z. ((g.unsure z).0, (g.unsure z).1) in
        let same : fault_in s.failed g.refusal ≡ fault_in s.failed s.state.fault = none_failed s.failed g.refusal s.state.fault (v.failed C.still_open) in
        subst (λ (x : scanner_t). IsReadyFed p (record { scanner = x; came = length p.given; known = k.known; certain = certain }) p.given) (sym g.is) (elim (cases_lt 0 s.state.made) [
          | inl m ↦ subst (λ (t : state_t). IsReadyFed p (then t) p.given) (sym (n.on m))
              (ready_then (fed_state s.state g.refusal n.near) refl (λ j. record { taken = s.state.taken; steps = s.state.made; peeked = s.peeked; over = s.over; fault = same j })
              (sound_after certain m g.refusal n.near (reads_so certain g.refusal (λ z. (g.sure z).1) (λ z. (g.unsure z).2)) g.chars (omega (arith, length-le-encodes (front p.setting p.given).chars, n.small m)) (n.near_from m)) sure unsure)
          | inr m ↦ (let z : s.state.made ≡ 0 = omega arith in subst (λ (t : state_t). IsReadyFed p (then t) p.given) (sym (n.stays z)) (ready_then s.state refl refl (sound_before certain z) sure unsure))
        ])

-- WHAT CAME IS TAKEN INTO ACCOUNT
-- if the encoding is not known, nothing is settled
nothing_known : (limit : ℕ) (setting : yaml_encoding_t) (given : List ℕ) → is_known setting given ≡ false → answers limit (unfinished setting given) ≡ record { tokens = []; fault = Some to_come }
unfolding unfinished
nothing_known limit setting given n = rw n (nothing_yet limit (front setting given).encoding)

-- all of it came before the first step
pub ready_whole : (p : Fed) (k : yaml_fed_parser_t) (came : List ℕ) → IsFedBy p k came → k.scanner.session.over ≡ false → k.scanner.session.state.made ≡ 0 → p.whole ≡ true
    → IsReadyFed p (record { scanner = k.scanner; came = length p.given; known = k.known; certain = true }) p.given
ready_whole p k came F o m w = record {
  is = record {
    begins = record { rest = []; is = sym (append-nil p.given) };
    came_is = refl;
    setting = F.setting;
    limit = F.limit;
    session = F.session;
    sound = sound_new (held came k) k.scanner.setting p.given F.sound o m;
    certain = λ e. inl (w, refl);
    part = λ a b. absurd (false≢true (sym a));
    unknown = λ a b. absurd (false≢true (sym a));
    text = λ a b n. absurd (omega arith);
    all = λ a b. absurd (false≢true (sym o ∙ ap (λ (x : Session). x.over) F.session ∙ a));
  };
  still_open = o;
  known = λ a. absurd (false≢true (sym a));
  unfinished = λ a. absurd (false≢true (sym a));
}

-- more can be decoded
pub can_feed : (p : Fed) (k : yaml_fed_parser_t) (came : List ℕ) → IsFedBy p k came → k.scanner.session.over ≡ false → k.certain ≡ false → (l : yaml_fed_parser_t)
    → ((k.known ≡ false) × BeginsText k p.given l None) ⊎ ((k.known ≡ true) × (l ≡ k)) → CanDecode p l × (l.known ≡ true)
can_feed p k came F o u l (inr w) = (subst (λ (x : yaml_fed_parser_t). CanDecode p x) (sym w.1) (can_decode p k came F o u w.0), ap (λ (x : yaml_fed_parser_t). x.known) w.1 ∙ w.0)
can_feed p k came F o u l (inl w) =
    let b = w.1 in
    let known : is_known p.setting p.given ≡ true = subst (λ (x : yaml_encoding_t). is_known x p.given ≡ true) F.setting b.0 in
    let begun : IsBegunOf p.setting p.given b.1.0 = subst (λ (x : yaml_encoding_t). IsBegunOf x p.given b.1.0) F.setting b.1.1 in
    (subst (λ (x : yaml_fed_parser_t). CanDecode p x) (sym b.1.2) (can_begin p k came F o u w.0 known b.1.0 begun), ap (λ (x : yaml_fed_parser_t). x.known) b.1.2)

-- nothing can be, before more comes
pub awaits_more : (p : Fed) (why : yaml_fed_t) (setting : yaml_encoding_t) → setting ≡ p.setting → p.session.over ≡ false → p.whole ≡ false
    → ((why ≡ code.MORE) × (is_known setting p.given ≡ false)) ⊎ ((why ≡ code.WHOLE) × (is_known setting p.given ≡ true) × (encoding_of setting p.given ≢ YAML_UTF8_ENCODING)) → Awaits p why
awaits_more p why setting e o w (inr z) = inr (z.0, (o, w, subst (λ (x : yaml_encoding_t). is_known x p.given ≡ true) e z.1, subst (λ (x : yaml_encoding_t). encoding_of x p.given ≢ YAML_UTF8_ENCODING) e z.2))
awaits_more p why setting e o w (inl z) = inl (
  z.0,
  (
    o,
    w,
    record {
      tokens = (let a = ap (λ (x : Answers). length x.tokens) nothing in omega arith);
      fault = λ f x. ap (λ (y : Fault). y.error) (sym (some_fault f to_come (sym x ∙ ap (λ (y : Answers). y.fault) nothing)));
      bytes = λ k. absurd (false≢true (sym n ∙ k));
    },
  ),
)
  where
    n : is_known p.setting p.given ≡ false
    n = subst (λ (x : yaml_encoding_t). is_known x p.given ≡ false) e z.1

    nothing : answers p.limit (unfinished p.setting p.given) ≡ record { tokens = []; fault = Some to_come }
    nothing = nothing_known p.limit p.setting p.given n
