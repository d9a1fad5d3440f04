-- Scan after scan to the end of an input gives the whole list.
use Rattle.std.proofs.Common.{◌≡◌, ℕ, zero, suc, ◌+◌, ◌≤◌, ◌||◌, Bool, true, false, List, [], ◌∷◌, ◌++◌, map, take, length, slice_get, Option, Some, None, refl, ap, sym, ◌∙◌, subst, arith, inl, inr}
use Rattle.std.specs.Prelude.{if◌then◌else◌, Err}
use Rattle.std.specs.List.{list_any}
use Rattle.std.proofs.lemmas.Bool.{false≢true}
use Rattle.std.proofs.lemmas.List.Folds.{list_any-append}
use Rattle.yaml_text.specs.declared.types.yaml_encoding_t.{yaml_encoding_t}
use Rattle.yaml_text.specs.declared.fault.yaml_fault_t.{yaml_fault_t}
use Rattle.yaml_scan.specs.Course.{Input, Course, course}
use Rattle.yaml_text.specs.Fault.{fault_of, Fault, memory_fault}
use Rattle.yaml_scan.specs.Token.{yaml_token_t, type_of}
use Rattle.yaml_scan.specs.TokenTypes.{is_last_type}
use Rattle.yaml_scan.specs.Begins.{Begins}
use Rattle.yaml_scan.specs.Groups.{Token, handed_out}
use Rattle.yaml_scan.specs.Answers.{answers}
use Rattle.yaml_scan.specs.Inputs.{answers_to}
use Rattle.yaml_scan.specs.Decoded.{decoded_input}
use Rattle.yaml_scan.specs.Session.{Session, Call, Answer, all_steps, is_last, next_token}
use Rattle.yaml_scan.specs.Sessions.{settled_tokens, new_session}
use Rattle.yaml_scan.specs.Session.{why, after}
use Rattle.yaml_scan.specs.Sessions.{after_all}
use Rattle.yaml_scan.specs.Settled.{settled, pace, tokens_of}
use Rattle.yaml_scan.specs.Session.Call.{SCAN}
use Rattle.yaml_scan.specs.Session.Answer.{TOKEN, FAULT}
use Rattle.yaml_scan.specs.Parser.{Parser, course_by}
use Rattle.yaml_scan.specs.ParserCalls.{scan_result, input_read, course_read, answered, after_call}
use Rattle.yaml_scan.specs.Headline.{WantsMemory, Calls}
use Rattle.yaml_scan.specs.Scanned.{Scanned}
use Rattle.yaml_scan.specs.All.{AllOf, AreSettled, ReadsAll}
use Rattle.yaml_scan.proofs.SessionCalls.CallCases.{scan_answer, after_scan, paced, took}
use Rattle.yaml_scan.proofs.Course.AnswerOrder.{fit_course}
use Rattle.yaml_scan.proofs.Course.CourseSteps.{none_is_stuck}
use Rattle.yaml_scan.proofs.Course.InputLaws.{inputs_keep_order}
use Rattle.yaml_scan.proofs.Course.LastToken.{stream_end_is_last}
use Rattle.yaml_scan.proofs.RunningCalls.CallAnswers.{get_fits, last_told}
use Rattle.yaml_scan.proofs.RunningCalls.MemoryRefused.{asked_settled, asked_within, all_taken}

-- calls one after the other
after_more : (limit : ℕ) (c : Course) (calls : List Call) (call : Call) (s : Session) → after_all limit c (calls ++ call ∷ []) s ≡ after limit c call (after_all limit c calls s)
unfolding after_all
after_more limit c [] call s = refl
after_more limit c (k ∷ calls) call s = after_more limit c calls call (after limit c k s)

pub take_one : (xs : List Token) (n : ℕ) (x : Token) → slice_get xs n ≡ Some x → take (n + 1) xs ≡ take n xs ++ x ∷ []
take_one [] n x e = absurd (cc)
take_one (y ∷ xs) zero x e = let q : y ≡ x = cc in rw q refl
take_one (y ∷ xs) (suc n) x e = let m : suc n + 1 ≡ suc (n + 1) = omega arith in rw m (ap (λ (l : List Token). y ∷ l) (take_one xs n x e))

pub get_within : (xs : List Token) (n : ℕ) (x : Token) → slice_get xs n ≡ Some x → n + 1 ≤ length xs
get_within [] n x e = absurd (cc)
get_within (y ∷ xs) zero x e = omega arith
get_within (y ∷ xs) (suc n) x e = let r = get_within xs n x e in omega arith

get_none : (xs : List Token) (n : ℕ) → slice_get xs n ≡ None → length xs ≤ n
get_none [] n e = omega arith
get_none (x ∷ xs) zero e = absurd (cc)
get_none (x ∷ xs) (suc n) e = let r = get_none xs n e in omega arith

take_whole : (xs : List Token) (n : ℕ) → length xs ≤ n → take n xs ≡ xs
take_whole [] zero l = refl
take_whole [] (suc n) l = refl
take_whole (x ∷ xs) zero l = absurd (omega arith)
take_whole (x ∷ xs) (suc n) l = ap (λ (z : List Token). x ∷ z) (take_whole xs n (omega arith))

pub map_more : (f : Token → yaml_token_t) (xs : List Token) (x : Token) → map f (xs ++ x ∷ []) ≡ map f xs ++ f x ∷ []
map_more f [] x = refl
map_more f (y ∷ xs) x = ap (λ (z : List yaml_token_t). f y ∷ z) (map_more f xs x)

pub begins_take : (f : Token → yaml_token_t) (xs : List Token) (n : ℕ) → Begins (map f (take n xs)) (map f xs)
begins_take f [] zero = record { rest = []; is = refl }
begins_take f [] (suc n) = record { rest = []; is = refl }
begins_take f (x ∷ xs) zero = record { rest = f x ∷ map f xs; is = refl }
begins_take f (x ∷ xs) (suc n) = let r = begins_take f xs n in record { rest = r.rest; is = ap (λ (z : List yaml_token_t). f x ∷ z) r.is }

if_open : {A : Type 0} (b : Bool) (x y : A) → b ≡ false → (if b then x else y) ≡ y
if_open true x y e = absurd (false≢true (sym e))
if_open false x y e = refl

abbrev is_end : yaml_token_t → Bool
is_end t = is_last_type (type_of t.token_data)

neither : (a b : Bool) → a ≡ false → b ≡ false → (a || (b || false)) ≡ false
neither a b p q = rw (p, q) refl

-- of an input of this setting and limit
module _ (limit : ℕ) (setting : yaml_encoding_t) (input : List ℕ) where
  abbrev I : Input
  I = decoded_input setting input

  abbrev C : Course
  C = course limit I

  abbrev L : List Token
  L = tokens_of limit C

  -- a parser that returned these tokens, and nothing else
  abbrev pub HasScanned : Parser → List yaml_token_t → Bool → Type 0
  HasScanned q tokens last = Scanned limit setting input q tokens last

  pub has_begun : (q : Parser) → q.input ≡ input → q.setting ≡ setting → q.limit ≡ limit → q.session ≡ new_session → HasScanned q [] false
  unfolding after_all
  has_begun q a b c s = record {
    input_is = a;
    setting_is = b;
    limit_is = c;
    calls = [];
    calls_are = s;
    over = ap (λ (z : Session). z.over) s;
    tokens_are = rw s refl;
    within = (let t = ap (λ (z : Session). z.taken) s in omega arith);
    steps_within = (let t = ap (λ (z : Session). z.steps) s in omega arith);
    are_settled = (let t = ap (λ (z : Session). z.taken) s in omega arith);
    no_end = λ e. refl;
    whole = λ e. absurd (false≢true e);
  }

  -- what was returned is a beginning of the whole list
  pub scans_begin : (q : Parser) (tokens : List yaml_token_t) (last : Bool) → HasScanned q tokens last → Begins tokens (answers_to limit setting input).tokens
  unfolding answers_to answers
  scans_begin q tokens last h = subst (λ (z : List yaml_token_t). Begins z (map (handed_out I.encoding) L)) (sym h.tokens_are) (begins_take (handed_out I.encoding) L q.session.taken)

  module _ (q : Parser) (tokens : List yaml_token_t) (h : HasScanned q tokens false) where
    abbrev S : Session
    S = q.session

    input_same : input_read q ≡ I
    input_same = rw (h.input_is, h.setting_is) refl

    course_same : course_read q ≡ C
    unfolding course_by
    course_same = rw (h.input_is, h.setting_is, h.limit_is) refl

    -- the answer, with the parser's own words
    abbrev told_by : Answer
    told_by = scan_answer I.encoding C (next_token limit C S)

    answer_same : answered q SCAN ≡ told_by
    answer_same = if_open S.over _ _ h.over ∙ ap (λ (i : Input). scan_answer i.encoding (course_read q) (next_token q.limit (course_read q) S)) input_same
        ∙ ap (λ (c : Course). scan_answer I.encoding c (next_token q.limit c S)) course_same ∙ ap (λ (n : ℕ). scan_answer I.encoding C (next_token n C S)) h.limit_is

    left_same : (after_call q SCAN).session ≡ after_scan limit C S (next_token limit C S)
    left_same = if_open S.over _ _ h.over ∙ ap (λ (c : Course). after_scan q.limit c S (next_token q.limit c S)) course_same ∙ ap (λ (n : ℕ). after_scan n C S (next_token n C S)) h.limit_is

    stuck : next_token limit C S ≡ None → (f : Fault) × (C.fault ≡ Some f)
    stuck e = none_is_stuck limit I h.calls (inputs_keep_order setting input) (sym (ap (λ (z : Session). z.over) h.calls_are) ∙ h.over)
        (subst (λ (z : Session). next_token limit C z ≡ None) h.calls_are e)

    token_same : (x y : yaml_token_t) → TOKEN x ≡ TOKEN y → x ≡ y
    token_same x y e = cc

    no_fault : (x : yaml_token_t) (f : Fault) → TOKEN x ≡ FAULT f → ⊥
    no_fault x f e = cc

    -- what a scan's token is
    record IsNextToken (x : yaml_token_t) (r : Parser) : Type 0 where
      token : Token
      next : next_token limit C S ≡ Some token
      is : x ≡ handed_out I.encoding token
      left : r ≡ after_call q SCAN

    next_is : (x : yaml_token_t) (r : Parser) → Calls decoded_input SCAN q (TOKEN x) r → IsNextToken x r
    next_is x r (inr w) = absurd (no_fault x memory_fault w.0)
    next_is x r (inl w) = go (next_token limit C S) refl (w.0 ∙ answer_same)
      where
        go : (o : Option Token) → next_token limit C S ≡ o → TOKEN x ≡ scan_answer I.encoding C o → IsNextToken x r
        go (Some t) e k = record { token = t; next = e; is = token_same x (handed_out I.encoding t) k; left = w.1 }
        go None e k = let f = stuck e in absurd (no_fault x f.0 (k ∙ ap why f.1))

    -- one token more
    pub scans_on : (x : yaml_token_t) (r : Parser) (last : Bool) → last ≡ is_last_type (type_of x.token_data) → Calls decoded_input SCAN q (TOKEN x) r → HasScanned r (tokens ++ x ∷ []) last × (r.session.taken ≡ S.taken + 1)
    scans_on x r last l w = (
      record {
        input_is = ap (λ (z : Parser). z.input) n.left ∙ h.input_is;
        setting_is = ap (λ (z : Parser). z.setting) n.left ∙ h.setting_is;
        limit_is = ap (λ (z : Parser). z.limit) n.left ∙ h.limit_is;
        calls = h.calls ++ SCAN ∷ [];
        calls_are = left_is ∙ sym (after_more limit C h.calls SCAN new_session ∙ ap (λ (z : Session). after limit C SCAN z) (sym h.calls_are) ∙ after_open);
        over = ap (λ (z : Session). z.over) left_is ∙ sym last_is;
        tokens_are = ap (λ (z : List yaml_token_t). z ++ x ∷ []) h.tokens_are ∙ ap (λ (z : yaml_token_t). map (handed_out I.encoding) (take S.taken L) ++ z ∷ []) n.is
            ∙ sym (map_more (handed_out I.encoding) (take S.taken L) n.token) ∙ ap (λ (z : List Token). map (handed_out I.encoding) z) (sym (take_one L S.taken n.token n.next))
            ∙ ap (λ (z : ℕ). map (handed_out I.encoding) (take z L)) (sym taken_is);
        within = (let a = get_within L S.taken n.token n.next in let b = taken_is in omega arith);
        steps_within = subst (λ (z : ℕ). z ≤ all_steps C) (sym steps_is) (asked_within limit I (inputs_keep_order setting input) S.taken S.steps n.token n.next h.steps_within);
        are_settled = (let a = asked_settled limit I (inputs_keep_order setting input) S.taken S.steps n.token n.next in let b = taken_is in subst (λ (z : ℕ). r.session.taken ≤ length (settled_tokens limit C z)) (sym steps_is) (omega arith));
        no_end = λ e. list_any-append is_end tokens (x ∷ []) ∙ neither (list_any is_end tokens) (is_end x) (h.no_end refl) (sym l ∙ e);
        whole = λ e. let z = stream_end_is_last limit I (inputs_keep_order setting input) S.taken n.token n.next (sym last_is ∙ e) in (taken_is ∙ z.0, z.1);
      },
      taken_is,
    )
      where
        n : IsNextToken x r
        n = next_is x r w

        left_is : r.session ≡ took n.token (paced limit C S)
        left_is = ap (λ (z : Parser). z.session) n.left ∙ left_same ∙ ap (λ (o : Option Token). after_scan limit C S o) n.next

        after_open : after limit C SCAN S ≡ took n.token (paced limit C S)
        after_open = if_open S.over _ _ h.over ∙ ap (λ (o : Option Token). after_scan limit C S o) n.next

        taken_is : r.session.taken ≡ S.taken + 1
        taken_is = ap (λ (z : Session). z.taken) left_is

        steps_is : r.session.steps ≡ pace limit C.read S.taken S.steps
        steps_is = ap (λ (z : Session). z.steps) left_is

        last_is : last ≡ is_last n.token
        last_is = l ∙ ap (λ (z : yaml_token_t). is_last_type (type_of z.token_data)) n.is ∙ last_told I.encoding n.token (get_fits L S.taken n.token (fit_course limit I (inputs_keep_order setting input)) n.next)

    fault_same : (x y : Fault) → FAULT x ≡ FAULT y → x ≡ y
    fault_same x y e = cc

    no_token : (x : yaml_token_t) (f : Fault) → FAULT f ≡ TOKEN x → ⊥
    no_token x f e = cc

    -- a growth was refused
    scans_short : (r : Parser) → WantsMemory decoded_input q r → AreSettled limit setting input tokens
    unfolding answers_to answers
    scans_short r w = record {
      steps = S.steps;
      within = h.steps_within;
      tokens_are = h.tokens_are ∙ ap (λ (z : List Token). map (handed_out I.encoding) z) (all_taken limit I (inputs_keep_order setting input) S.taken S.steps w.steps h.steps_within w.least h.are_settled unsettled);
      beginning = scans_begin q tokens false h;
      in_utf8 = λ u. sym (ap (λ (c : Course). c.begun) course_same) ∙ w.in_utf8 (ap (λ (i : Input). i.encoding) input_same ∙ u);
      no_end = h.no_end refl;
    }
      where
        unsettled : settled limit C.read S.taken w.steps ≡ false
        unsettled = sym (ap (λ (c : Course). settled q.limit c.read S.taken w.steps) course_same ∙ ap (λ (n : ℕ). settled n C.read S.taken w.steps) h.limit_is) ∙ w.unsettled

    -- a fault
    pub scans_fault : (f : yaml_fault_t) (r : Parser) → Calls decoded_input SCAN q (scan_result (Err f)) r → ReadsAll limit setting input tokens (Some (fault_of f))
    unfolding answers_to answers
    scans_fault f r (inr w) = inr (scans_short r w.1, ap Some (fault_same (fault_of f) memory_fault w.0))
    scans_fault f r (inl w) = inl (go (next_token limit C S) refl (w.0 ∙ answer_same))
      where
        because : (o : Option Fault) → C.fault ≡ o → FAULT (fault_of f) ≡ why o → Some (fault_of f) ≡ o
        because None e k = absurd (no_token _ (fault_of f) k)
        because (Some g) e k = ap Some (fault_same (fault_of f) g k)

        go : (o : Option Token) → next_token limit C S ≡ o → FAULT (fault_of f) ≡ scan_answer I.encoding C o → AllOf (answers limit I) tokens (Some (fault_of f))
        go (Some t) e k = absurd (no_token (handed_out I.encoding t) (fault_of f) k)
        go None e k = (h.tokens_are ∙ ap (λ (z : List Token). map (handed_out I.encoding) z) (take_whole L S.taken (get_none L S.taken e)), because C.fault refl k)

  -- the stream end
  pub scans_end : (q : Parser) (tokens : List yaml_token_t) → HasScanned q tokens true → ReadsAll limit setting input tokens None
  unfolding answers_to answers
  scans_end q tokens h = let w = h.whole refl in
      inl (h.tokens_are ∙ ap (λ (z : List Token). map (handed_out I.encoding) z) (take_whole L q.session.taken (let a = w.0 in omega arith)), sym w.1)
