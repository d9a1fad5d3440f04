-- The calls of a scanner that is given its input in pieces, by what the scan of what came has done.
use Rattle.std.proofs.Common.{◌≡◌, ◌≢◌, ℕ, ◌+◌, ◌≤◌, ◌<◌, true, false, List, [], take, drop, length, Option, None, Some, refl, ap, sym, ◌∙◌, subst, arith, inl, inr}
use Rattle.std.specs.Prelude.{◌⊎◌}
use Rattle.std.proofs.lemmas.Bool.{false≢true}
use Rattle.std.proofs.lemmas.List.{take_all, length-map}
use Rattle.yaml_text.specs.Decode.{front}
use Rattle.yaml_text.specs.Decoding.{refusal_seen}
use Rattle.yaml_text.specs.Fault.{Fault, fault_of, memory_fault}
use Rattle.yaml_text.specs.Kept.{IsKeptOf, KeptText}
use Rattle.yaml_text.specs.Pieces.{IsBegunOf}
use Rattle.yaml_text.specs.declared.fault.yaml_fault_t.{yaml_fault_t}
use Rattle.yaml_text.specs.declared.types.yaml_error_type_t.TheVariants.{YAML_READER_ERROR}
use Rattle.yaml_scan.specs.All.{AllOf}
use Rattle.yaml_scan.specs.Answers.{Answers, answers}
use Rattle.yaml_scan.specs.Decoded.{decoded_input}
use Rattle.yaml_scan.specs.Fed.{EndsBy, Fed, GivesOf, HasTakenAll, MayBe, Why}
use Rattle.yaml_scan.specs.Fed.Why.{FAULT, MORE, OVER}
use Rattle.yaml_scan.specs.Groups.{handed_out}
use Rattle.yaml_scan.specs.Inputs.{answers_to}
use Rattle.yaml_scan.specs.Pieces.{is_broken, is_known, unfinished}
use Rattle.yaml_scan.specs.Session.{Session}
use Rattle.yaml_scan.specs.Settled.{tokens_of}
use Rattle.yaml_scan.specs.Token.{yaml_token_t}
use Rattle.yaml_scan.specs.declared.fed.yaml_fed_parser_t.{yaml_fed_parser_t}
use Rattle.yaml_scan.specs.declared.session.session_t.{session_t}
use Rattle.yaml_scan.specs.inside.Feeding.{IsFedBy, held}
use Rattle.yaml_scan.specs.inside.KeptParts.{HandsOn, StopsAfter}
use Rattle.yaml_scan.specs.inside.Ready.{Scan, Sound, course_in, ended_by, parser_of, with_session}
use Rattle.yaml_scan.proofs.RunningCalls.FedText.{sound_stopped, then}
use Rattle.yaml_scan.proofs.RunningCalls.FedTokens.{Covers, next_given, told_by}
use Rattle.yaml_scan.proofs.RunningCalls.KeptCalls.{ended_sound}

-- how many tokens an input has
told_long : (limit : ℕ) (i : Scan) → length (told_by limit i).tokens ≡ length (tokens_of limit (course_in limit i.setting i.input))
unfolding answers
told_long limit i = length-map (tokens_of limit (course_in limit i.setting i.input)) (handed_out (decoded_input i.setting i.input).encoding)

told_fault : (limit : ℕ) (i : Scan) → (told_by limit i).fault ≡ (course_in limit i.setting i.input).fault
unfolding answers
told_fault limit i = refl

-- what is left of a scanner in this session
abbrev pub with_fed : yaml_fed_parser_t → session_t → yaml_fed_parser_t
with_fed k s = record k { scanner = record k.scanner { session = s } }

abbrev pub left_by : Fed → Scan → Fed
left_by p j = record p { session = (parser_of j).session }

module _ (p : Fed) (k : yaml_fed_parser_t) (came : List ℕ) (F : IsFedBy p k came) (c : Covers p k.certain (held came k)) (open_so : k.scanner.session.over ≡ false) where
  abbrev i : Scan
  i = held came k

  taken_is : i.session.state.taken ≡ p.session.taken
  taken_is = ap (λ (z : Session). z.taken) F.session

  p_open : p.session.over ≡ false
  p_open = ap (λ (z : Session). z.over) (sym F.session) ∙ open_so

  not_ended : (tokens : List yaml_token_t) (w : Why) (r : Fed) → p.session.over ≡ true → (tokens ≡ []) × (w ≡ OVER) × (r ≡ p)
  not_ended tokens w r o = absurd (false≢true (sym p_open ∙ o))

  -- all tokens were taken, whatever else comes
  taken_all : (n : ℕ) (f : Option Fault) → ((input : List ℕ) → MayBe p.whole p.given input → answers_to p.limit p.setting input ≡ told_by p.limit i) → length (tokens_of p.limit (course_in p.limit i.setting i.input)) ≤ n → (course_in p.limit i.setting i.input).fault ≡ f
      → (input : List ℕ) → MayBe p.whole p.given input → AllOf (answers_to p.limit p.setting input) (take n (answers_to p.limit p.setting input).tokens) f
  taken_all n f same l e input m =
      let q = same input m in (
        take_all n (answers_to p.limit p.setting input).tokens (let a = ap (λ (x : Answers). length x.tokens) q in let b = told_long p.limit i in omega arith),
        sym (ap (λ (x : Answers). x.fault) q ∙ told_fault p.limit i ∙ e),
      )

  -- IT HAS GONE ON
  module _ (s : session_t) (v : Sound (with_session i s)) (ts : List yaml_token_t) (h : HandsOn i (with_session i s) ts) where
    abbrev j : Scan
    j = with_session i s

    abbrev q : Fed
    q = left_by p j

    -- the end
    pub all_given : s.over ≡ true → (p.whole ≡ true) × HasTakenAll q None
    all_given o =
        let a = h.all o in
        let w = c.ends_well (told_fault p.limit i ∙ subst (λ (n : ℕ). (course_in n i.setting i.input).fault ≡ None) F.limit a.1) in
        let n = ap (λ (n : ℕ). length (tokens_of n (course_in n i.setting i.input))) F.limit in (
          w.0,
          taken_all s.state.taken None w.1 (let b = a.0 in omega arith) (subst (λ (n : ℕ). (course_in n i.setting i.input).fault ≡ None) F.limit a.1),
        )

    pub fed_on : (T : KeptText) → (k.certain ≡ false → k.known ≡ true → (is_known p.setting came ≡ true) × IsBegunOf p.setting came T) → (k.certain ≡ true → s.over ≡ false → 0 < s.state.made → IsKeptOf (front p.setting came) came T) → (k.certain ≡ false → k.known ≡ true)
        → IsFedBy q (record { scanner = record { setting = k.scanner.setting; text = T; session = s }; came = k.came; known = k.known; certain = k.certain }) came
    fed_on T part text known = record {
      begins = F.begins;
      came_is = F.came_is;
      setting = F.setting;
      limit = h.limit ∙ F.limit;
      session = refl;
      sound = v;
      certain = F.certain;
      part = part;
      unknown = λ a b. absurd (false≢true (sym b ∙ known a));
      text = text;
      all = λ o n. all_given o;
    }

    pub gives_on : (w : Why) → EndsBy p q w → GivesOf p ts w q
    gives_on w e = record {
      same = refl;
      taken = h.taken ∙ ap (λ (n : ℕ). n + length ts) taken_is;
      next = next_given p k.certain i c F.limit taken_is j ts h;
      ends = e;
      at_end = not_ended ts w q;
    }

  -- IT HAS STOPPED
  module _ (s : session_t) (ts : List yaml_token_t) (f : Fault) (e : StopsAfter i s ts f) where
    abbrev u : Scan
    u = with_session i e.last

    next_so : (input : List ℕ) → MayBe p.whole p.given input → ts ≡ take (length ts) (drop p.session.taken (answers_to p.limit p.setting input).tokens)
    next_so = next_given p k.certain i c F.limit taken_is u ts e.hands

    taken_so : s.state.taken ≡ p.session.taken + length ts
    taken_so = let n = e.stops in n.stopped.taken ∙ e.hands.taken ∙ ap (λ (n : ℕ). n + length ts) taken_is

    limit_so : s.state.limit ≡ p.limit
    limit_so = let n = e.stops in n.stopped.limit ∙ e.hands.limit ∙ F.limit

    -- a fault has ended it
    module _ (x : yaml_fault_t) (d : fault_of x ≡ f) where
      abbrev closed : Scan
      closed = with_session i (ended_by s x)

      abbrev pub q_closed : Fed
      q_closed = left_by p closed

      pub fed_closed : (k.certain ≡ false → k.known ≡ true) → IsFedBy q_closed (with_fed k (ended_by s x)) came
      fed_closed known = record {
        begins = F.begins;
        came_is = F.came_is;
        setting = F.setting;
        limit = limit_so;
        session = refl;
        sound = ended_sound u s x f d e.stops;
        certain = F.certain;
        part = F.part;
        unknown = λ a b. absurd (false≢true (sym b ∙ known a));
        text = λ a o m. absurd (false≢true (sym o));
        all = λ o n. absurd (let z : Some (fault_of x) ≡ None = n in cc);
      }

      why_closed : (k.certain ≡ false → f.error ≢ YAML_READER_ERROR) → (f ≡ memory_fault) ⊎ HasTakenAll q_closed (Some f)
      why_closed other = let n = e.stops in elim n.why [
        | inl z ↦ inl z.fault
        | inr z ↦ inr (
            let L = e.hands.limit ∙ F.limit in
            let fault : (course_in p.limit i.setting i.input).fault ≡ Some f = subst (λ (m : ℕ). (course_in m i.setting i.input).fault ≡ Some f) L z.fault in
            let none = ap (λ (m : ℕ). length (tokens_of m (course_in m i.setting i.input))) L in
            let same : (input : List ℕ) → MayBe p.whole p.given input → answers_to p.limit p.setting input ≡ told_by p.limit i = λ input m. elim (c.ends input m f (told_fault p.limit i ∙ fault)) [
              | inl w ↦ absurd (other w.0 w.1)
              | inr w ↦ w
            ] in
            taken_all s.state.taken (Some f) same (let a = z.none in let b = n.stopped.taken in omega arith) fault)
      ]

      pub gives_closed : (k.certain ≡ false → f.error ≢ YAML_READER_ERROR) → GivesOf p ts (FAULT f) q_closed
      gives_closed other = record { same = refl; taken = taken_so; next = next_so; ends = (p_open, refl, ap Some d, why_closed other); at_end = not_ended ts (FAULT f) q_closed }

    -- more has to come
    module _ (refusal : Option yaml_fault_t) (same : refusal_seen refusal ≡ (decoded_input i.setting i.input).refusal) (reader : f.error ≡ YAML_READER_ERROR) (certain : k.certain ≡ false) (known : k.known ≡ true) where
      abbrev waits : session_t
      waits = then u s f e.stops refusal same

      abbrev pub q_waits : Fed
      q_waits = left_by p (with_session i waits)

      over_so : s.over ≡ false
      over_so = let n = e.stops in ap (λ (z : session_t). z.over) n.rest ∙ n.still_open

      pub fed_waits : IsFedBy q_waits (with_fed k waits) came
      fed_waits = record {
        begins = F.begins;
        came_is = F.came_is;
        setting = F.setting;
        limit = limit_so;
        session = refl;
        sound = sound_stopped u s f e.stops refusal same;
        certain = F.certain;
        part = F.part;
        unknown = λ a b. absurd (false≢true (sym b ∙ known));
        text = λ a o m. absurd (false≢true (sym certain ∙ a));
        all = λ o n. absurd (false≢true (sym over_so ∙ o));
      }

      no_memory : f ≡ memory_fault → ⊥
      no_memory z = absurd (let a = sym reader ∙ ap (λ (y : Fault). y.error) z in cc)

      none_left : length (told_by p.limit i).tokens ≤ s.state.taken
      none_left = let n = e.stops in elim n.why [
        | inl z ↦ absurd (no_memory z.fault)
        | inr z ↦ (let a = z.none in let b = n.stopped.taken in let d = ap (λ (m : ℕ). length (tokens_of m (course_in m i.setting i.input))) (e.hands.limit ∙ F.limit) in let g = told_long p.limit i in omega arith)
      ]

      told_so : (told_by p.limit i).fault ≡ Some f
      told_so = let n = e.stops in elim n.why [
        | inl z ↦ absurd (no_memory z.fault)
        | inr z ↦ told_fault p.limit i ∙ subst (λ (m : ℕ). (course_in m i.setting i.input).fault ≡ Some f) (e.hands.limit ∙ F.limit) z.fault
      ]

      pub gives_waits : p.whole ≡ false → length (answers p.limit (unfinished p.setting p.given)).tokens ≤ length (told_by p.limit i).tokens
          → ((g : Fault) → (told_by p.limit i).fault ≡ Some f → (answers p.limit (unfinished p.setting p.given)).fault ≡ Some g → (g.error ≡ YAML_READER_ERROR) ⊎ (g ≡ f)) → is_broken p.setting p.given ≡ false → GivesOf p ts MORE q_waits
      gives_waits w l same_fault whole = record {
        same = refl;
        taken = taken_so;
        next = next_so;
        ends = (
          over_so,
          w,
          record {
            tokens = (let a = none_left in omega arith);
            fault = λ g x. elim (same_fault g told_so x) [ inl z ↦ z | inr z ↦ ap (λ (y : Fault). y.error) z ∙ reader ];
            bytes = λ n. whole;
          },
        );
        at_end = not_ended ts MORE q_waits;
      }
