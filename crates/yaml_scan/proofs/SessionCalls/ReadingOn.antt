-- More scans than there are tokens left return all that is left.
use Rattle.std.proofs.Common.{◌≡◌, ℕ, zero, suc, ◌+◌, ◌-◌, ◌<◌, ◌≤◌, Bool, true, false, List, [], ◌∷◌, ◌++◌, map, drop, replicate, length, slice_get, Option, Some, None, refl, ap, sym, ◌∙◌, subst, arith, inl, inr}
use Rattle.std.specs.Prelude.{◌⊎◌, Result, Ok, Err, if◌then◌else◌}
use Rattle.yaml_text.specs.Fault.{Fault}
use Rattle.yaml_text.specs.declared.types.yaml_encoding_t.{yaml_encoding_t}
use Rattle.yaml_text.specs.declared.fault.yaml_fault_t.{yaml_fault_t}
use Rattle.yaml_text.specs.declared.token.yaml_token_t.{yaml_token_t as code_token_t}
use Rattle.yaml_scan.specs.Settled.{tokens_of}
use Rattle.yaml_scan.specs.Course.{Input, Course, course}
use Rattle.yaml_scan.specs.declared.calls.yaml_answer_t.{yaml_answer_t}
use Rattle.yaml_scan.specs.Token.{yaml_token_t, empty}
use Rattle.yaml_scan.specs.Groups.{Token, handed_out}
use Rattle.yaml_scan.specs.Cut.{KeepsOrder}
use Rattle.yaml_scan.specs.Answers.{Answers, answers}
use Rattle.yaml_scan.specs.Inputs.{answers_to}
use Rattle.yaml_scan.specs.Decoded.{decoded_input}
use Rattle.yaml_scan.specs.Session.{Session, Call, Answer, after, next_token, is_last}
use Rattle.yaml_scan.specs.Sessions.{new_session, session}
use Rattle.yaml_scan.specs.Session.{why}
use Rattle.yaml_scan.specs.Session.Call.{SCAN}
use Rattle.yaml_scan.specs.Session.Answer.{TOKEN, PEEKED, SKIPPED, NOTHING, FAULT}
use Rattle.yaml_scan.specs.Parser.{Parser, course_by}
use Rattle.yaml_scan.specs.ParserCalls.{scan_result}
use Rattle.yaml_scan.specs.Headline.{Runs, PutsAnswers}
use Rattle.yaml_scan.specs.Puts.{answered_all, RunsOut, OfSession}
use Rattle.yaml_scan.specs.Seen.{Seen, seen, seen_of}
use Rattle.yaml_scan.specs.ReadingOn.{scans, fault_told, all_told, left_to, AllIsTold, RestIsTold, ReadsOn, ScansReadOn}
use Rattle.yaml_scan.proofs.SessionCalls.CallCases.{took, paced, finished, scan_answer, after_scan}
use Rattle.yaml_scan.proofs.Course.InputLaws.{inputs_keep_order}
use Rattle.yaml_scan.proofs.Course.LastToken.{stream_end_is_last}
use Rattle.yaml_scan.proofs.SessionCalls.CallByCall.{of_session}

if_true : {A : Type 0} (b : Bool) (x y : A) → b ≡ true → (if b then x else y) ≡ x
if_true b x y e = rw e refl

if_false : {A : Type 0} (b : Bool) (x y : A) → b ≡ false → (if b then x else y) ≡ y
if_false b x y e = rw e refl

pub drop_next : {A B : Type 0} (f : A → B) (xs : List A) (n : ℕ) (x : A) → slice_get xs n ≡ Some x → drop n (map f xs) ≡ f x ∷ drop (n + 1) (map f xs)
drop_next f [] n x e = absurd (cc)
drop_next f (y ∷ xs) zero x e = let q : y ≡ x = cc in rw q refl
drop_next f (y ∷ xs) (suc n) x e = let m : suc n + 1 ≡ suc (n + 1) = omega arith in rw m (drop_next f xs n x e)

drop_none : {A B : Type 0} (f : A → B) (xs : List A) (n : ℕ) → slice_get xs n ≡ None → drop n (map f xs) ≡ []
drop_none f [] zero e = refl
drop_none f [] (suc n) e = refl
drop_none f (x ∷ xs) zero e = absurd (cc)
drop_none f (x ∷ xs) (suc n) e = drop_none f xs n e

drop_past : {A B : Type 0} (f : A → B) (xs : List A) (n : ℕ) → length xs ≤ n → drop n (map f xs) ≡ []
drop_past f [] zero l = refl
drop_past f [] (suc n) l = refl
drop_past f (x ∷ xs) zero l = absurd (omega arith)
drop_past f (x ∷ xs) (suc n) l = drop_past f xs n (omega arith)

-- ONE SCAN MORE
abbrev told_from : List yaml_token_t → Option Fault → ℕ → List Answer
told_from tokens fault n = all_told (record { tokens = tokens; fault = fault }) n

one_told : (t : yaml_token_t) (tokens : List yaml_token_t) (fault : Option Fault) (n : ℕ) → TOKEN t ∷ told_from tokens fault n ≡ told_from (t ∷ tokens) fault (suc n)
one_told t tokens fault n =
    let e : n - (length tokens) - (length (fault_told fault)) ≡ suc n - (suc (length tokens)) - (length (fault_told fault)) = omega arith in
    ap (λ (k : ℕ). TOKEN t ∷ (map TOKEN tokens ++ (fault_told fault ++ replicate k (TOKEN empty)))) e

none_told : (n : ℕ) → replicate n (TOKEN empty) ≡ told_from [] None n
none_told n = let e : n ≡ n - 0 - 0 = omega arith in ap (λ (k : ℕ). replicate k (TOKEN empty)) e

fault_first : (f : Fault) (n : ℕ) → FAULT f ∷ replicate n (TOKEN empty) ≡ told_from [] (Some f) (suc n)
fault_first f n = let e : n ≡ suc n - 0 - 1 = omega arith in ap (λ (k : ℕ). FAULT f ∷ replicate k (TOKEN empty)) e

module _ (limit : ℕ) (input : Input) (k : KeepsOrder input.source) where
  abbrev E : yaml_encoding_t
  E = input.encoding

  abbrev C : Course
  C = course limit input

  abbrev T : List yaml_token_t
  T = map (handed_out E) (tokens_of limit C)

  told_over : (n : ℕ) (s : Session) → s.over ≡ true → session E limit C (scans n) s ≡ replicate n (TOKEN empty)
  unfolding session
  told_over zero s o = refl
  told_over (suc n) s o =
      ap (λ (z : Answer). z ∷ session E limit C (scans n) (after limit C SCAN s)) (if_true s.over (TOKEN empty) (scan_answer E C (next_token limit C s)) o)
      ∙ ap (λ (z : Session). TOKEN empty ∷ session E limit C (scans n) z) (if_true s.over s (after_scan limit C s (next_token limit C s)) o)
      ∙ ap (λ (z : List Answer). TOKEN empty ∷ z) (told_over n s o)

  one_scan : (n : ℕ) (s : Session) (o : Option Token) → s.over ≡ false → next_token limit C s ≡ o → session E limit C (scans (suc n)) s ≡ scan_answer E C o ∷ session E limit C (scans n) (after_scan limit C s o)
  unfolding session
  one_scan n s o e q =
      ap (λ (z : Answer). z ∷ session E limit C (scans n) (after limit C SCAN s)) (if_false s.over (TOKEN empty) (scan_answer E C (next_token limit C s)) e)
      ∙ ap (λ (z : Session). scan_answer E C (next_token limit C s) ∷ session E limit C (scans n) z) (if_false s.over s (after_scan limit C s (next_token limit C s)) e)
      ∙ ap (λ (z : Option Token). scan_answer E C z ∷ session E limit C (scans n) (after_scan limit C s z)) q

  abbrev Later : ℕ → Type 0
  Later n = (t : Session) → t.over ≡ false → length (drop t.taken T) < n → session E limit C (scans n) t ≡ told_from (drop t.taken T) C.fault n

  told_open : (n : ℕ) (s : Session) → s.over ≡ false → length (drop s.taken T) < n → session E limit C (scans n) s ≡ told_from (drop s.taken T) C.fault n
  told_open zero s o l = absurd (omega arith)
  told_open (suc n) s o l = one_scan n s (next_token limit C s) o refl ∙ go (told_open n) (next_token limit C s) refl
    where
      at_end : (f : Option Fault) → C.fault ≡ f → why f ∷ replicate n (TOKEN empty) ≡ told_from [] f (suc n)
      at_end None q = none_told (suc n)
      at_end (Some f) q = fault_first f n

      more : Later n → (x : Token) → next_token limit C s ≡ Some x → (b : Bool) → is_last x ≡ b → session E limit C (scans n) (took x (paced limit C s)) ≡ told_from (drop (s.taken + 1) T) C.fault n
      more ih x q true e =
          let z = stream_end_is_last limit input k s.taken x q e in
          told_over n (took x (paced limit C s)) e ∙ none_told n ∙ ap (λ (f : Option Fault). told_from [] f n) (sym z.1)
          ∙ ap (λ (ts : List yaml_token_t). told_from ts C.fault n) (sym (drop_past (handed_out E) (tokens_of limit C) (s.taken + 1) (let a = z.0 in omega arith)))
      more ih x q false e =
          let d = ap (λ (ts : List yaml_token_t). length ts) (drop_next (handed_out E) (tokens_of limit C) s.taken x q) in
          ih (took x (paced limit C s)) e (omega arith)

      go : Later n → (o : Option Token) → next_token limit C s ≡ o → scan_answer E C o ∷ session E limit C (scans n) (after_scan limit C s o) ≡ told_from (drop s.taken T) C.fault (suc n)
      go ih None q =
          ap (λ (z : List Answer). why C.fault ∷ z) (told_over n (finished C s) refl) ∙ at_end C.fault refl
          ∙ ap (λ (ts : List yaml_token_t). told_from ts C.fault (suc n)) (sym (drop_none (handed_out E) (tokens_of limit C) s.taken q))
      go ih (Some x) q =
          ap (λ (z : List Answer). TOKEN (handed_out E x) ∷ z) (more ih x q (is_last x) refl) ∙ one_told (handed_out E x) (drop (s.taken + 1) T) C.fault n
          ∙ ap (λ (ts : List yaml_token_t). told_from ts C.fault (suc n)) (sym (drop_next (handed_out E) (tokens_of limit C) s.taken x q))

  abbrev left_if : Bool → ℕ → Answers
  left_if true m = record { tokens = []; fault = None }
  left_if false m = record { tokens = drop m T; fault = C.fault }

  left_is : (b : Bool) (m : ℕ) → (if b then record { tokens = []; fault = None } else record { tokens = drop m T; fault = C.fault }) ≡ left_if b m
  left_is true m = refl
  left_is false m = refl

  rest_told : (n : ℕ) (s : Session) → (b : Bool) → s.over ≡ b → length (left_if b s.taken).tokens < n → session E limit C (scans n) s ≡ all_told (left_if b s.taken) n
  rest_told n s true e l = told_over n s e ∙ none_told n
  rest_told n s false e l = told_open n s e l

pub rest_is_told : RestIsTold
unfolding answers_to answers
rest_is_told limit setting input s n l =
    let I = decoded_input setting input in
    let k = inputs_keep_order setting input in
    let e = left_is limit I k s.over s.taken in
    let m : length (left_if limit I k s.over s.taken).tokens < n = subst (λ (a : Answers). length a.tokens < n) e l in
    rest_told limit I k n s s.over refl m ∙ ap (λ (a : Answers). all_told a n) (sym e)

pub all_is_told : AllIsTold
unfolding answers_to answers
all_is_told limit setting input n l = rest_is_told limit setting input new_session n l

-- what is left to a parser
rest_of : (p : Parser) (n : ℕ) → length (left_to p).tokens < n → answered_all p (scans n) ≡ all_told (left_to p) n
unfolding course_by
rest_of p n l = rest_is_told p.limit p.setting p.input p.session n l

pub reads_on : (p : Parser) (calls : List Call) (old new : List yaml_answer_t) (q : Parser) → PutsAnswers decoded_input p calls old new q → ReadsOn p calls old new q
reads_on p calls old new q g n e l = record { more = g.more; is = g.is; told = go (of_session p (scans n) (map seen_of g.more) q (subst (λ (z : List Call). Runs decoded_input p z (map seen_of g.more) q) e g.runs)) }
  where
    go : OfSession p (scans n) (map seen_of g.more) q → (map seen_of g.more ≡ map seen (all_told (left_to p) n)) ⊎ RunsOut p (scans n) (map seen_of g.more) q
    go (inl r) = inl (r.0 ∙ ap (λ (z : List Answer). map seen z) (rest_of p n l))
    go (inr o) = inr o

-- SCANS ONE BY ONE
-- a token or a fault is seen whole
seen_whole : (result : Result code_token_t yaml_fault_t) (a : Answer) → seen (scan_result result) ≡ seen a → scan_result result ≡ a
seen_whole (Ok t) (TOKEN x) e = cc
seen_whole (Ok t) (PEEKED x) e = absurd (cc)
seen_whole (Ok t) SKIPPED e = absurd (cc)
seen_whole (Ok t) NOTHING e = absurd (cc)
seen_whole (Ok t) (FAULT f) e = absurd (cc)
seen_whole (Err k) (TOKEN x) e = absurd (cc)
seen_whole (Err k) (PEEKED x) e = absurd (cc)
seen_whole (Err k) SKIPPED e = absurd (cc)
seen_whole (Err k) NOTHING e = absurd (cc)
seen_whole (Err k) (FAULT f) e = cc

one_seen : (x y : Seen) (xs ys : List Seen) → x ∷ xs ≡ y ∷ ys → (x ≡ y) × (xs ≡ ys)
one_seen x y xs ys e = (cc, cc)

no_seen : (x : Seen) (xs : List Seen) → x ∷ xs ≡ [] → ⊥
no_seen x xs e = cc

all_whole : (results : List (Result code_token_t yaml_fault_t)) (answers : List Answer) → map seen (map scan_result results) ≡ map seen answers → map scan_result results ≡ answers
all_whole [] [] e = refl
all_whole [] (a ∷ answers) e = absurd (no_seen (seen a) (map seen answers) (sym e))
all_whole (x ∷ results) [] e = absurd (no_seen (seen (scan_result x)) (map seen (map scan_result results)) e)
all_whole (x ∷ results) (a ∷ answers) e =
    let z = one_seen (seen (scan_result x)) (seen a) (map seen (map scan_result results)) (map seen answers) e in
    ap (λ (y : Answer). y ∷ map scan_result results) (seen_whole x a z.0) ∙ ap (λ (y : List Answer). a ∷ y) (all_whole results answers z.1)

pub scans_read_on : ScansReadOn
scans_read_on p results q w l = go (of_session p (scans (length results)) (map seen (map scan_result results)) q w)
  where
    go : OfSession p (scans (length results)) (map seen (map scan_result results)) q
        → (map scan_result results ≡ all_told (left_to p) (length results)) ⊎ RunsOut p (scans (length results)) (map seen (map scan_result results)) q
    go (inl r) = inl (all_whole results (answered_all p (scans (length results))) r.0 ∙ rest_of p (length results) l)
    go (inr o) = inr o
