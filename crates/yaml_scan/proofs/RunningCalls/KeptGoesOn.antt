-- A parser that has gone on by some tokens, and then by more, or has shown its next token.
use Rattle.std.proofs.Common.{◌≡◌, ℕ, ◌≤◌, Bool, true, false, List, [], ◌∷◌, ◌++◌, map, take, length, slice_get, Option, Some, None, append_assoc, append-nil, refl, ap, sym, ◌∙◌, subst, arith, inl, inr}
use Rattle.std.specs.List.{list_any}
use Rattle.std.specs.Prelude.{if◌then◌else◌}
use Rattle.std.proofs.lemmas.Bool.{false≢true}
use Rattle.yaml_text.specs.declared.types.yaml_encoding_t.{yaml_encoding_t}
use Rattle.yaml_scan.specs.Course.{Course, Input}
use Rattle.yaml_scan.specs.All.{course_to}
use Rattle.yaml_scan.specs.Decoded.{decoded_input}
use Rattle.yaml_scan.specs.Groups.{Token, handed_out}
use Rattle.yaml_scan.specs.Headline.{Calls}
use Rattle.yaml_scan.specs.KeptCalls.{ComesFirst, token_peeked}
use Rattle.yaml_scan.specs.Parser.{Parser, course_by}
use Rattle.yaml_scan.specs.ParserCalls.{after_call, course_read, token_shown}
use Rattle.yaml_scan.specs.Scanned.{GoesOnBy, Scanned}
use Rattle.yaml_scan.specs.Session.{Call, Session, after, all_steps}
use Rattle.yaml_scan.specs.Session.Call.{PEEK}
use Rattle.yaml_scan.specs.Session.Answer.{PEEKED}
use Rattle.yaml_scan.specs.Sessions.{after_all, new_session, settled_tokens}
use Rattle.yaml_scan.specs.Settled.{pace, tokens_of}
use Rattle.yaml_scan.specs.Token.{yaml_token_t, empty, type_of}
use Rattle.yaml_scan.specs.TokenTypes.{is_last_type}
use Rattle.yaml_scan.proofs.Course.InputLaws.{inputs_keep_order}
use Rattle.yaml_scan.proofs.RunningCalls.MemoryRefused.{asked_settled, asked_within}

-- ONE AFTER THE OTHER
moved : (l m : ℕ) (s t : yaml_encoding_t) (i j : List ℕ) (q : Parser) (tokens : List yaml_token_t) (last : Bool) → l ≡ m → s ≡ t → i ≡ j → Scanned l s i q tokens last → Scanned m t j q tokens last
moved l m s t i j q tokens last a b c h =
    subst (λ (z : ℕ). Scanned z t j q tokens last) a (subst (λ (z : yaml_encoding_t). Scanned l z j q tokens last) b (subst (λ (z : List ℕ). Scanned l s z q tokens last) c h))

pub on_none : (p : Parser) → GoesOnBy p [] p false
on_none p given h = subst (λ (z : List yaml_token_t). Scanned p.limit p.setting p.input p z false) (sym (append-nil given)) h

pub on_more : (p m q : Parser) (xs ys : List yaml_token_t) (last : Bool) → GoesOnBy p xs m false → GoesOnBy m ys q last → GoesOnBy p (xs ++ ys) q last
on_more p m q xs ys last f g given h =
    let k = f given h in
    let w = g (given ++ xs) (moved p.limit m.limit p.setting m.setting p.input m.input m (given ++ xs) false (sym k.limit_is) (sym k.setting_is) (sym k.input_is) k) in
    subst (λ (z : List yaml_token_t). Scanned p.limit p.setting p.input q z last) (append_assoc given xs ys) (moved m.limit p.limit m.setting p.setting m.input p.input q ((given ++ xs) ++ ys) last k.limit_is k.setting_is k.input_is w)

pub first_more : (o : Option yaml_token_t) (xs ys : List yaml_token_t) (m q : Parser) → ComesFirst o xs m → ComesFirst (token_peeked m) ys q → ComesFirst o (xs ++ ys) q
first_more None xs ys m q a b = tt
first_more (Some t) [] ys m q a b = subst (λ (o : Option yaml_token_t). ComesFirst o ys q) a b
first_more (Some t) (x ∷ xs) ys m q a b = a

-- what was shown comes first, if there is anything to say
pub first_when : (p q : Parser) (tokens : List yaml_token_t) → (p.session.peeked ≡ true → ComesFirst (Some (token_shown p)) tokens q) → ComesFirst (token_peeked p) tokens q
first_when p q tokens f = go p.session.peeked refl
  where
    go : (b : Bool) → p.session.peeked ≡ b → ComesFirst (if b then Some (token_shown p) else None) tokens q
    go true e = f e
    go false e = tt

pub first_unless : (p q : Parser) (tokens : List yaml_token_t) → p.session.peeked ≡ false → ComesFirst (token_peeked p) tokens q
first_unless p q tokens n = first_when p q tokens (λ e. absurd (false≢true (sym n ∙ e)))

pub is_shown : (p : Parser) → p.session.peeked ≡ true → token_peeked p ≡ Some (token_shown p)
is_shown p e = go p.session.peeked e
  where
    go : (b : Bool) → b ≡ true → (if b then Some (token_shown p) else None) ≡ Some (token_shown p)
    go true e = refl
    go false e = absurd (false≢true e)

pub none_shown : (p : Parser) → p.session.peeked ≡ false → token_peeked p ≡ None
none_shown p e = go p.session.peeked e
  where
    go : (b : Bool) → b ≡ false → (if b then Some (token_shown p) else None) ≡ None
    go false e = refl
    go true e = absurd (false≢true (sym e))

pub some_peeked : (p : Parser) (x : yaml_token_t) → Some x ≡ token_peeked p → x ≡ token_shown p
some_peeked p x e = go p.session.peeked refl
  where
    go : (b : Bool) → p.session.peeked ≡ b → x ≡ token_shown p
    go true d = let z : Some x ≡ Some (token_shown p) = e ∙ is_shown p d in cc
    go false d = absurd (let z : Some x ≡ None = e ∙ none_shown p d in cc)

pub none_peeked : (p : Parser) → None ≡ token_peeked p → empty ≡ token_shown p
none_peeked p e = go p.session.peeked refl
  where
    go : (b : Bool) → p.session.peeked ≡ b → empty ≡ token_shown p
    go false d = rw d refl
    go true d = absurd (let z : None ≡ Some (token_shown p) = e ∙ is_shown p d in cc)

-- A PEEK
-- calls one after the other
after_more : (limit : ℕ) (c : Course) (calls : List Call) (call : Call) (s : Session) → after_all limit c (calls ++ call ∷ []) s ≡ after limit c call (after_all limit c calls s)
unfolding after_all
after_more limit c [] call s = refl
after_more limit c (k ∷ calls) call s = after_more limit c calls call (after limit c k s)

pub left_by_peek : (p q : Parser) (x : yaml_token_t) → Calls decoded_input PEEK p (PEEKED x) q → q ≡ after_call p PEEK
left_by_peek p q x (inl a) = a.1
left_by_peek p q x (inr a) = absurd (let n = a.0 in cc)

module _ (limit : ℕ) (setting : yaml_encoding_t) (input : List ℕ) (q r : Parser) (tokens : List yaml_token_t) (h : Scanned limit setting input q tokens false) where
  abbrev I : Input
  I = decoded_input setting input

  abbrev C : Course
  C = course_to limit setting input

  abbrev S : Session
  S = q.session

  course_same : course_read q ≡ C
  unfolding course_by
  course_same = rw (h.input_is, h.setting_is, h.limit_is) refl

  left_same : (after_call q PEEK).session ≡ after limit C PEEK S
  left_same = ap (λ (c : Course). after q.limit c PEEK S) course_same ∙ ap (λ (n : ℕ). after n C PEEK S) h.limit_is

  -- no token more was taken
  pub peeks_on : r ≡ after_call q PEEK → r.session.over ≡ false → r.session.taken ≡ S.taken → (x : Token) → slice_get (tokens_of limit C) S.taken ≡ Some x → r.session.steps ≡ pace limit C.read S.taken S.steps → Scanned limit setting input r (tokens ++ []) false
  peeks_on e o t x n m = record {
    input_is = ap (λ (z : Parser). z.input) e ∙ h.input_is;
    setting_is = ap (λ (z : Parser). z.setting) e ∙ h.setting_is;
    limit_is = ap (λ (z : Parser). z.limit) e ∙ h.limit_is;
    calls = h.calls ++ PEEK ∷ [];
    calls_are = ap (λ (z : Parser). z.session) e ∙ left_same ∙ sym (after_more limit C h.calls PEEK new_session ∙ ap (λ (z : Session). after limit C PEEK z) (sym h.calls_are));
    over = o;
    tokens_are = append-nil tokens ∙ h.tokens_are ∙ ap (λ (z : ℕ). map (handed_out I.encoding) (take z (tokens_of limit C))) (sym t);
    within = (let a = h.within in omega (arith, t));
    steps_within = subst (λ (z : ℕ). z ≤ all_steps C) (sym m) (asked_within limit I (inputs_keep_order setting input) S.taken S.steps x n h.steps_within);
    are_settled = (let a = asked_settled limit I (inputs_keep_order setting input) S.taken S.steps x n in subst (λ (z : ℕ). r.session.taken ≤ length (settled_tokens limit C z)) (sym m) (omega (arith, t)));
    no_end = λ z. ap (λ (z : List yaml_token_t). list_any (λ (t : yaml_token_t). is_last_type (type_of t.token_data)) z) (append-nil tokens) ∙ h.no_end refl;
    whole = λ z. absurd (false≢true z);
  }
