-- What a parser shows is the next token of its input, and a fault ends the tokens.
use Rattle.std.proofs.Common.{◌≡◌, ◌++◌, ◌∷◌, [], ℕ, zero, suc, ◌+◌, ◌≤◌, ◌<◌, Bool, true, false, List, Option, Some, None, map, take, length, slice_get, refl, ap, sym, ◌∙◌, subst, arith, inl, inr, length-append}
use Rattle.std.specs.Prelude.{if◌then◌else◌}
use Rattle.std.proofs.lemmas.Bool.{cases_lt, false≢true}
use Rattle.std.proofs.lemmas.List.{length-map, length-take-le}
use Rattle.yaml_text.specs.declared.types.yaml_encoding_t.{yaml_encoding_t}
use Rattle.yaml_text.specs.Fault.{Fault}
use Rattle.yaml_text.specs.Token.{Token}
use Rattle.yaml_scan.specs.All.{course_to}
use Rattle.yaml_scan.specs.Answers.{answers}
use Rattle.yaml_scan.specs.Begins.{Begins}
use Rattle.yaml_scan.specs.Course.{Course}
use Rattle.yaml_scan.specs.Decoded.{decoded_input}
use Rattle.yaml_scan.specs.Groups.{handed_out, Token as ListToken}
use Rattle.yaml_scan.specs.Headline.{Calls}
use Rattle.yaml_scan.specs.Inputs.{answers_to}
use Rattle.yaml_scan.specs.KeptCalls.{token_peeked}
use Rattle.yaml_scan.specs.Parser.{Parser, course_by}
use Rattle.yaml_scan.specs.ParserCalls.{course_read, input_read, token_or_empty, token_shown}
use Rattle.yaml_scan.specs.Scanned.{Scanned}
use Rattle.yaml_scan.specs.Session.{Session, Call, after, next_token}
use Rattle.yaml_scan.specs.Session.Answer.{PEEKED, FAULT}
use Rattle.yaml_scan.specs.Session.Call.{SCAN, PEEK}
use Rattle.yaml_scan.specs.Sessions.{after_all, new_session}
use Rattle.yaml_scan.specs.Settled.{tokens_of}
use Rattle.yaml_scan.specs.Token.{empty}
use Rattle.yaml_scan.specs.Session.{why}
use Rattle.yaml_scan.proofs.Course.CourseSteps.{none_is_stuck}
use Rattle.yaml_scan.proofs.Course.InputLaws.{inputs_keep_order}
use Rattle.yaml_scan.proofs.RunningCalls.ScansToTheEnd.{begins_take, map_more, take_one}
use Rattle.yaml_scan.proofs.SessionCalls.CallCases.{after_scan, peek_answer}
use Rattle.yaml_scan.proofs.SessionCalls.TokensTaken.{IsShowing, showing_after}

if_true : {A : Type 0} (b : Bool) (x y : A) → b ≡ true → (if b then x else y) ≡ x
if_true b x y e = rw e refl

if_false : {A : Type 0} (b : Bool) (x y : A) → b ≡ false → (if b then x else y) ≡ y
if_false b x y e = rw e refl

-- WHAT IS SHOWN
some_same : (t u : Token) → Some t ≡ Some u → t ≡ u
some_same t u e = cc

is_shown : (b : Bool) (x t : Token) → (if b then Some x else None) ≡ Some t → (b ≡ true) × (x ≡ t)
is_shown true x t e = (refl, some_same x t e)
is_shown false x t e = absurd (cc)

-- a token is shown after a peek
pub is_peeked_token : (p : Parser) → p.session.peeked ≡ true → token_peeked p ≡ Some (token_shown p)
is_peeked_token p e = if_true p.session.peeked (Some (token_shown p)) None e

-- and none before it
pub hides : (p : Parser) → p.session.peeked ≡ false → token_peeked p ≡ None
hides p e = if_false p.session.peeked (Some (token_shown p)) None e

-- no token is shown after a fault
scan_hides : (limit : ℕ) (c : Course) (s : Session) (o : Option ListToken) → (after_scan limit c s o).peeked ≡ false
scan_hides limit c s None = refl
scan_hides limit c s (Some x) = refl

fault_not_peeked : (p q : Parser) (f : Fault) → p.session.over ≡ false → Calls decoded_input SCAN p (FAULT f) q → q.session.peeked ≡ false
fault_not_peeked p q f o (inr a) = ap (λ (z : Parser). z.session.peeked) a.1.is
fault_not_peeked p q f o (inl a) =
    let next = next_token p.limit (course_read p) p.session in
    ap (λ (z : Parser). z.session.peeked) a.1
    ∙ ap (λ (z : Session). z.peeked) (if_false p.session.over p.session (after_scan p.limit (course_read p) p.session next) o)
    ∙ scan_hides p.limit (course_read p) p.session next

pub fault_hides : (p q : Parser) (f : Fault) → p.session.over ≡ false → Calls decoded_input SCAN p (FAULT f) q → token_peeked q ≡ None
fault_hides p q f o calls = hides q (fault_not_peeked p q f o calls)

-- a second peek shows the same
no_peek : (o : Option Fault) (x : Token) → PEEKED x ≡ why o → ⊥
no_peek None x e = absurd (cc)
no_peek (Some f) x e = absurd (cc)

peeked_same : (e : yaml_encoding_t) (c : Course) (o : Option ListToken) (x : Token) → PEEKED x ≡ peek_answer e c o → x ≡ token_or_empty e o
peeked_same e c None x q = absurd (no_peek c.fault x q)
peeked_same e c (Some y) x q = cc

pub shows_same : (p q : Parser) (x : Token) → p.session.over ≡ false → p.session.peeked ≡ true → Calls decoded_input PEEK p (PEEKED x) q → x ≡ token_shown p
shows_same p q x o e (inr a) = absurd (let n = a.0 in cc)
shows_same p q x o e (inl a) =
    let next = next_token p.limit (course_read p) p.session in
    let i = (input_read p).encoding in
    peeked_same i (course_read p) next x (a.0 ∙ if_false p.session.over (PEEKED empty) (peek_answer i (course_read p) next) o)
    ∙ sym (if_true p.session.peeked (token_or_empty i next) empty e)

-- THE TOKENS
get_none : (xs : List ListToken) (n : ℕ) → length xs ≤ n → slice_get xs n ≡ None
get_none [] n l = refl
get_none (x ∷ xs) zero l = absurd (omega arith)
get_none (x ∷ xs) (suc n) l = get_none xs n (omega arith)

no_fault : (f : Fault) (o : Option Fault) → o ≡ Some f → o ≡ None → ⊥
no_fault f o e n = let k = sym e ∙ n in absurd (cc)

module _ (limit : ℕ) (setting : yaml_encoding_t) (input : List ℕ) (p : Parser) (given : List Token) (h : Scanned limit setting input p given false) where
  abbrev C : Course
  C = course_to limit setting input

  abbrev L : List ListToken
  L = tokens_of limit C

  count : (q : Parser) (tokens : List Token) (last : Bool) → Scanned limit setting input q tokens last → length tokens ≡ q.session.taken
  count q tokens last w =
      ap length w.tokens_are ∙ length-map (take q.session.taken L) (handed_out (decoded_input setting input).encoding)
      ∙ length-take-le q.session.taken L w.within

  -- the stream end comes with a token
  pub ends_with_token : (q : Parser) (tokens : List Token) → Scanned limit setting input q (given ++ tokens) true → 0 < length tokens
  ends_with_token q tokens w = elim (cases_lt 0 (length tokens)) [
    | inl some ↦ some
    | inr none ↦ absurd (
        let all = w.whole refl in
        let a = count p given false h in
        let b = count q (given ++ tokens) true w in
        let l = length-append given tokens in
        let e : next_token limit C p.session ≡ None = get_none L p.session.taken (omega (arith, a, b, l, none, all.0)) in
        let f = none_is_stuck limit (decoded_input setting input) h.calls (inputs_keep_order setting input) (sym (ap (λ (z : Session). z.over) h.calls_are) ∙ h.over)
        (subst (λ (z : Session). next_token limit C z ≡ None) h.calls_are e) in
        no_fault f.0 C.fault f.1 all.1)
  ]

  -- a token that was peeked is there
  showing_all : (calls : List Call) (s : Session) → IsShowing limit C s → IsShowing limit C (after_all limit C calls s)
  unfolding after_all
  showing_all [] s w = w
  showing_all (k ∷ calls) s w = showing_all calls (after limit C k s) (showing_after limit C k s w)

  showing : IsShowing limit C p.session
  showing = subst (λ (z : Session). IsShowing limit C z) (sym h.calls_are) (showing_all h.calls new_session (λ q. absurd (false≢true q)))

  shown_or_empty : Token
  shown_or_empty = token_or_empty (decoded_input setting input).encoding (next_token limit C p.session)

  -- so with what was given it is a beginning of all tokens
  one_more : (t : Token) (x : ListToken) → next_token limit C p.session ≡ Some x → t ≡ handed_out (decoded_input setting input).encoding x → Begins (given ++ t ∷ []) (answers_to limit setting input).tokens
  unfolding answers_to answers
  one_more t x n e =
      let f = handed_out (decoded_input setting input).encoding in
      let taken = p.session.taken in
      let same : given ++ t ∷ [] ≡ map f (take (taken + 1) L) = ap (λ (z : List Token). z ++ t ∷ []) h.tokens_are ∙ ap (λ (z : Token). map f (take taken L) ++ z ∷ []) e
      ∙ sym (map_more f (take taken L) x) ∙ ap (λ (z : List ListToken). map f z) (sym (take_one L taken x n)) in
      subst (λ (z : List Token). Begins z (map f L)) (sym same) (begins_take f L (taken + 1))

  course_same : course_read p ≡ C
  unfolding course_by
  course_same = rw (h.input_is, h.setting_is, h.limit_is) refl

  input_same : input_read p ≡ decoded_input setting input
  input_same = rw (h.input_is, h.setting_is) refl

  pub shown_begins : (t : Token) → token_peeked p ≡ Some t → Begins (given ++ t ∷ []) (answers_to limit setting input).tokens
  shown_begins t e =
      let k = is_shown p.session.peeked (token_shown p) t e in
      let x = (showing k.0).1 in
      let i = (decoded_input setting input).encoding in
      let next_same : next_token p.limit (course_read p) p.session ≡ Some x.0 =
      ap (λ (c : Course). next_token p.limit c p.session) course_same ∙ ap (λ (n : ℕ). next_token n C p.session) h.limit_is ∙ x.1 in
      one_more t x.0 x.1 (sym k.1 ∙ if_true p.session.peeked (token_or_empty (input_read p).encoding (next_token p.limit (course_read p) p.session)) empty k.0
      ∙ ap (λ (o : Option ListToken). token_or_empty (input_read p).encoding o) next_same
      ∙ ap (λ (z : _). handed_out z.encoding x.0) input_same)
