-- What the answers to calls say of the tokens that were taken.
use Rattle.std.proofs.Common.{◌≡◌, ℕ, zero, suc, ◌+◌, Bool, true, false, List, [], ◌∷◌, ◌++◌, map, take, drop, replicate, slice_get, Option, Some, None, refl, ap, sym, ◌∙◌, subst, arith, inl, inr}
use Rattle.std.specs.Prelude.{if◌then◌else◌}
use Rattle.std.proofs.lemmas.Bool.{cases_Bool, cond_both, false≢true}
use Rattle.yaml_text.specs.Fault.{Fault, memory_fault}
use Rattle.yaml_text.specs.declared.types.yaml_encoding_t.{yaml_encoding_t}
use Rattle.yaml_scan.specs.Settled.{tokens_of}
use Rattle.yaml_scan.specs.Course.{Course}
use Rattle.yaml_scan.specs.Puts.{idle}
use Rattle.yaml_scan.specs.Decoded.{decoded_input}
use Rattle.yaml_scan.specs.ParserCalls.{input_read, course_read}
use Rattle.yaml_scan.specs.declared.calls.yaml_answer_t.{yaml_answer_t}
use Rattle.yaml_scan.specs.Token.{yaml_token_t, empty}
use Rattle.yaml_scan.specs.Groups.{Token, handed_out}
use Rattle.yaml_scan.specs.Answers.{answers}
use Rattle.yaml_scan.specs.Inputs.{answers_to}
use Rattle.yaml_scan.specs.Session.{Session, Call, Answer, answer, after, next_token}
use Rattle.yaml_scan.specs.Sessions.{session, after_all}
use Rattle.yaml_scan.specs.Session.{why}
use Rattle.yaml_scan.specs.Session.Call.{SCAN, PEEK, SKIP}
use Rattle.yaml_scan.specs.Session.{Answer as says}
use Rattle.yaml_scan.specs.Parser.{Parser, course_by}
use Rattle.yaml_scan.specs.Seen.{Seen, seen, seen_of}
use Rattle.yaml_scan.specs.Headline.{Runs, PutsAnswers}
use Rattle.yaml_scan.specs.Seen.Seen.{TOKEN, PEEKED, SKIPPED, NOTHING, FAULT}
use Rattle.yaml_scan.specs.Puts.{Puts, answered_all, after_calls, taken_told, AreTold, TakesOn, TakesNext, HasNext, OfSession}
use Rattle.yaml_scan.proofs.SessionCalls.CallCases.{took, paced, looked, finished, scan_answer, peek_answer, after_scan, after_peek, after_skip}
use Rattle.yaml_scan.proofs.SessionCalls.ReadingOn.{drop_next}
use Rattle.yaml_scan.proofs.SessionCalls.CallByCall.{of_session}

-- IF A SESSION IS OVER
abbrev pub IsQuiet : Session → Type 0
IsQuiet s = (s.over ≡ true) × (s.peeked ≡ false)

module _ (e : yaml_encoding_t) (limit : ℕ) (c : Course) where
  pub quiet_answer : (call : Call) (s : Session) → IsQuiet s → seen (answer e limit c call s) ≡ idle call
  quiet_answer SCAN s q = rw q.0 refl
  quiet_answer PEEK s q = rw q.0 refl
  quiet_answer SKIP s q = rw q.1 refl

  pub quiet_after : (call : Call) (s : Session) → IsQuiet s → after limit c call s ≡ s
  quiet_after SCAN s q = rw q.0 refl
  quiet_after PEEK s q = rw q.0 refl
  quiet_after SKIP s q = rw q.1 refl

  pub quiet_calls : (calls : List Call) (s : Session) → IsQuiet s → (map seen (session e limit c calls s) ≡ map idle calls) × (after_all limit c calls s ≡ s)
  unfolding session after_all
  quiet_calls [] s q = (refl, refl)
  quiet_calls (call ∷ calls) s q =
      let a = quiet_after call s q in
      let r = quiet_calls calls s q in (
        ap (λ (z : Seen). z ∷ map seen (session e limit c calls (after limit c call s))) (quiet_answer call s q)
            ∙ ap (λ (z : Session). idle call ∷ map seen (session e limit c calls z)) a ∙ ap (λ (z : List Seen). idle call ∷ z) r.0,
        ap (λ (z : Session). after_all limit c calls z) a ∙ r.1,
      )

idle_told : (calls : List Call) → (k : ℕ) × (taken_told (map idle calls) ≡ replicate k (Some empty))
idle_told [] = (0, refl)
idle_told (SCAN ∷ calls) = let r = idle_told calls in (suc r.0, ap (λ (z : List (Option yaml_token_t)). Some empty ∷ z) r.1)
idle_told (PEEK ∷ calls) = idle_told calls
idle_told (SKIP ∷ calls) = idle_told calls

told_both : (a b : List Seen) → taken_told (a ++ b) ≡ taken_told a ++ taken_told b
told_both [] b = refl
told_both (TOKEN t ∷ a) b = ap (λ (z : List (Option yaml_token_t)). Some t ∷ z) (told_both a b)
told_both (PEEKED k m n ∷ a) b = told_both a b
told_both (SKIPPED ∷ a) b = ap (λ (z : List (Option yaml_token_t)). None ∷ z) (told_both a b)
told_both (NOTHING ∷ a) b = told_both a b
told_both (FAULT f ∷ a) b = told_both a b

-- IF IT GOES ON
module _ (limit : ℕ) (c : Course) where
  -- if a token was peeked, there is a next one
  abbrev pub IsShowing : Session → Type 0
  IsShowing s = s.peeked ≡ true → (s.over ≡ false) × ((x : Token) × (next_token limit c s ≡ Some x))

  scan_showing : (s : Session) (o : Option Token) → IsShowing (after_scan limit c s o)
  scan_showing s None = λ q. absurd (false≢true q)
  scan_showing s (Some x) = λ q. absurd (false≢true q)

  peek_showing : (s : Session) → s.over ≡ false → (o : Option Token) → next_token limit c s ≡ o → IsShowing (after_peek limit c s o)
  peek_showing s e None n = λ q. absurd (false≢true q)
  peek_showing s e (Some x) n = λ q. (e, (x, n))

  skip_showing : (s : Session) → IsShowing s → (o : Option Token) → IsShowing (after_skip s o)
  skip_showing s h None = h
  skip_showing s h (Some x) = λ q. absurd (false≢true q)

  pub showing_after : (call : Call) (s : Session) → IsShowing s → IsShowing (after limit c call s)
  showing_after SCAN s h = cond_both s.over s (after_scan limit c s (next_token limit c s)) (λ r. IsShowing r) (λ e. h) (λ e. scan_showing s (next_token limit c s))
  showing_after PEEK s h = cond_both s.over s (after_peek limit c s (next_token limit c s)) (λ r. IsShowing r) (λ e. h) (λ e. peek_showing s e (next_token limit c s) refl)
  showing_after SKIP s h = cond_both s.peeked (after_skip s (next_token limit c s)) s (λ r. IsShowing r) (λ e. skip_showing s h (next_token limit c s)) (λ e. h)

  pub not_showing : (s : Session) → IsShowing s → s.over ≡ true → s.peeked ≡ false
  not_showing s h o = elim (cases_Bool s.peeked) [
    | inl q ↦ absurd (false≢true (sym (h q).0 ∙ o))
    | inr q ↦ q
  ]

module _ (e : yaml_encoding_t) (limit : ℕ) (c : Course) where
  abbrev T : List yaml_token_t
  T = map (handed_out e) (tokens_of limit c)

  -- answers that take nothing from the n-th token on
  takes_nothing : (n m : ℕ) (answers : List Seen) (k : ℕ) → m ≡ n → taken_told answers ≡ replicate k (Some empty) → TakesOn T n answers m
  takes_nothing n m answers k f g = record { took = []; are_next = record { rest = drop n T; is = refl }; count = omega arith; says = []; are_told = tt; idle = k; answers_are = g }

  -- one token, returned or skipped
  takes_one : (n m : ℕ) (x : Token) (o : Option yaml_token_t) (a : Seen) (answers : List Seen) → slice_get (tokens_of limit c) n ≡ Some x → AreTold (o ∷ []) (handed_out e x ∷ [])
      → taken_told (a ∷ answers) ≡ o ∷ taken_told answers → TakesOn T (n + 1) answers m → TakesOn T n (a ∷ answers) m
  takes_one n m x o a answers q t f g = record {
    took = handed_out e x ∷ g.took;
    are_next = record { rest = g.are_next.rest; is = drop_next (handed_out e) (tokens_of limit c) n x q ∙ ap (λ (z : List yaml_token_t). handed_out e x ∷ z) g.are_next.is };
    count = (let z = g.count in omega arith);
    says = o ∷ g.says;
    are_told = (t.0, g.are_told);
    idle = g.idle;
    answers_are = f ∙ ap (λ (z : List (Option yaml_token_t)). o ∷ z) g.answers_are;
  }

  takes_later : (n k m : ℕ) (a : Seen) (answers : List Seen) → k ≡ n → taken_told (a ∷ answers) ≡ taken_told answers → TakesOn T k answers m → TakesOn T n (a ∷ answers) m
  takes_later n k m a answers f g h = record {
    took = h.took;
    are_next = record { rest = h.are_next.rest; is = ap (λ (z : ℕ). drop z T) (sym f) ∙ h.are_next.is };
    count = (let z = h.count in omega arith);
    says = h.says;
    are_told = h.are_told;
    idle = h.idle;
    answers_are = g ∙ h.answers_are;
  }

  abbrev Takes : List Call → Session → Type 0
  Takes calls s = TakesOn T s.taken (map seen (session e limit c calls s)) (after_all limit c calls s).taken

  -- the answer a, and then those of a session at t
  abbrev TakesBy : List Call → Session → Answer → Session → Type 0
  TakesBy calls s a t = TakesOn T s.taken (seen a ∷ map seen (session e limit c calls t)) (after_all limit c calls t).taken

  by_quiet : (calls : List Call) (s t : Session) (a : Answer) (j : ℕ) → IsQuiet t → t.taken ≡ s.taken → ((more : List Seen) (k : ℕ) → taken_told more ≡ replicate k (Some empty) → taken_told (seen a ∷ more) ≡ replicate (j + k) (Some empty)) → TakesBy calls s a t
  by_quiet calls s t a j q f g =
      let r = quiet_calls e limit c calls t q in
      let k = idle_told calls in
      takes_nothing s.taken (after_all limit c calls t).taken (seen a ∷ map seen (session e limit c calls t)) (j + k.0) (ap (λ (z : Session). z.taken) r.1 ∙ f)
      (g (map seen (session e limit c calls t)) k.0 (ap taken_told r.0 ∙ k.1))

  one_empty : (more : List Seen) (k : ℕ) → taken_told more ≡ replicate k (Some empty) → taken_told (TOKEN empty ∷ more) ≡ replicate (1 + k) (Some empty)
  one_empty more k f = let m : 1 + k ≡ suc k = omega arith in rw m (ap (λ (z : List (Option yaml_token_t)). Some empty ∷ z) f)

  none_empty : (a : Seen) (more : List Seen) → taken_told (a ∷ more) ≡ taken_told more → (k : ℕ) → taken_told more ≡ replicate k (Some empty) → taken_told (a ∷ more) ≡ replicate (0 + k) (Some empty)
  none_empty a more g k f = let m : 0 + k ≡ k = omega arith in rw m (g ∙ f)

  by_why : (calls : List Call) (s : Session) (f : Option Fault) → TakesBy calls s (why f) (finished c s)
  by_why calls s None = by_quiet calls s (finished c s) (says.TOKEN empty) 1 (refl, refl) refl one_empty
  by_why calls s (Some f) = by_quiet calls s (finished c s) (says.FAULT f) 0 (refl, refl) refl (λ more k g. none_empty (FAULT f) more refl k g)

  by_scan : (calls : List Call) (s : Session) → IsShowing limit c s → ((t : Session) → IsShowing limit c t → Takes calls t) → (b : Bool) → s.over ≡ b → (o : Option Token) → next_token limit c s ≡ o
      → TakesBy calls s (if b then says.TOKEN empty else scan_answer e c o) (if b then s else after_scan limit c s o)
  by_scan calls s h ih true o n q = by_quiet calls s s (says.TOKEN empty) 1 (o, not_showing limit c s h o) refl one_empty
  by_scan calls s h ih false o None q = by_why calls s c.fault
  by_scan calls s h ih false o (Some x) q =
      takes_one s.taken (after_all limit c calls (took x (paced limit c s))).taken x (Some (handed_out e x)) (TOKEN (handed_out e x)) (map seen (session e limit c calls (took x (paced limit c s)))) q (refl, tt) refl
      (ih (took x (paced limit c s)) (scan_showing limit c s (Some x)))

  by_peek : (calls : List Call) (s : Session) → IsShowing limit c s → ((t : Session) → IsShowing limit c t → Takes calls t) → (b : Bool) → s.over ≡ b → (o : Option Token) → next_token limit c s ≡ o
      → TakesBy calls s (if b then says.PEEKED empty else peek_answer e c o) (if b then s else after_peek limit c s o)
  by_peek calls s h ih true o n q = by_quiet calls s s (says.PEEKED empty) 0 (o, not_showing limit c s h o) refl (λ more k g. none_empty (seen (says.PEEKED empty)) more refl k g)
  by_peek calls s h ih false o None q = by_why calls s c.fault
  by_peek calls s h ih false o (Some x) q =
      takes_later s.taken s.taken (after_all limit c calls (looked (paced limit c s))).taken (seen (says.PEEKED (handed_out e x))) (map seen (session e limit c calls (looked (paced limit c s)))) refl refl
      (ih (looked (paced limit c s)) (peek_showing limit c s o (Some x) q))

  by_skip : (calls : List Call) (s : Session) → IsShowing limit c s → ((t : Session) → IsShowing limit c t → Takes calls t) → (b : Bool) → s.peeked ≡ b → (o : Option Token) → next_token limit c s ≡ o
      → TakesBy calls s (if b then says.SKIPPED else says.NOTHING) (if b then after_skip s o else s)
  by_skip calls s h ih true o None q = absurd (let r = (h o).1 in some_none r.0 (sym r.1 ∙ q))
    where
      some_none : (x : Token) → Some x ≡ None → ⊥
      some_none x r = cc
  by_skip calls s h ih true o (Some x) q =
      takes_one s.taken (after_all limit c calls (took x s)).taken x None SKIPPED (map seen (session e limit c calls (took x s))) q (tt, tt) refl
      (ih (took x s) (skip_showing limit c s h (Some x)))
  by_skip calls s h ih false o n q = takes_later s.taken s.taken (after_all limit c calls s).taken NOTHING (map seen (session e limit c calls s)) refl refl (ih s h)

  pub takes : (calls : List Call) (s : Session) → IsShowing limit c s → Takes calls s
  unfolding session after_all
  takes [] s h = takes_nothing s.taken s.taken [] 0 refl refl
  takes (SCAN ∷ calls) s h = by_scan calls s h (takes calls) s.over refl (next_token limit c s) refl
  takes (PEEK ∷ calls) s h = by_peek calls s h (takes calls) s.over refl (next_token limit c s) refl
  takes (SKIP ∷ calls) s h = by_skip calls s h (takes calls) s.peeked refl (next_token limit c s) refl

replicates : (j k : ℕ) → replicate j (Some empty) ++ replicate k (Some empty) ≡ replicate (j + k) (Some empty)
replicates zero k = let m : 0 + k ≡ k = omega arith in rw m refl
replicates (suc j) k = let m : suc j + k ≡ suc (j + k) = omega arith in rw m (ap (λ (z : List (Option yaml_token_t)). Some empty ∷ z) (replicates j k))

assoc : (a b d : List (Option yaml_token_t)) → (a ++ b) ++ d ≡ a ++ (b ++ d)
assoc [] b d = refl
assoc (x ∷ a) b d = ap (λ (z : List (Option yaml_token_t)). x ∷ z) (assoc a b d)

-- after others, answers that take nothing
takes_no_more : (tokens : List yaml_token_t) (n m : ℕ) (a b : List Seen) (k : ℕ) → TakesOn tokens n a m → taken_told b ≡ replicate k (Some empty) → TakesOn tokens n (a ++ b) m
takes_no_more tokens n m a b k g f = record {
  took = g.took;
  are_next = g.are_next;
  count = g.count;
  says = g.says;
  are_told = g.are_told;
  idle = g.idle + k;
  answers_are = told_both a b ∙ ap (λ (z : List (Option yaml_token_t)). z ++ taken_told b) g.answers_are ∙ ap (λ (z : List (Option yaml_token_t)). (g.says ++ replicate g.idle (Some empty)) ++ z) f
      ∙ assoc g.says (replicate g.idle (Some empty)) (replicate k (Some empty)) ∙ ap (λ (z : List (Option yaml_token_t)). g.says ++ z) (replicates g.idle k);
}

session_takes : (p : Parser) (calls : List Call) → (p.session.peeked ≡ true → HasNext p) → TakesOn (answers_to p.limit p.setting p.input).tokens p.session.taken (map seen (answered_all p calls)) (after_calls p calls).session.taken
unfolding answers_to answers course_by
session_takes p calls h = takes (input_read p).encoding p.limit (course_read p) calls p.session h

pub takes_next : (p : Parser) (calls : List Call) (answers : List Seen) (q : Parser) → (p.session.peeked ≡ true → HasNext p) → Runs decoded_input p calls answers q → TakesNext p answers q
takes_next p calls answers q h w = go (of_session p calls answers q w)
  where
    go : OfSession p calls answers q → TakesNext p answers q
    go (inl r) = subst (λ (z : List Seen). TakesNext p z q) (sym r.0) (subst (λ (z : Parser). TakesNext p (map seen (answered_all p calls)) z) (sym r.1) (session_takes p calls h))
    go (inr o) =
        let k = idle_told (drop (o.stops.n + 1) calls) in
        let g = takes_no_more (answers_to p.limit p.setting p.input).tokens p.session.taken (after_calls p (take o.stops.n calls)).session.taken (map seen (answered_all p (take o.stops.n calls))) (FAULT memory_fault ∷ map idle (drop (o.stops.n + 1) calls)) k.0 (session_takes p (take o.stops.n calls) h) k.1 in
        subst (λ (z : List Seen). TakesNext p z q) (sym o.stops.answers_are)
        (subst (λ (z : ℕ). TakesOn (answers_to p.limit p.setting p.input).tokens p.session.taken (map seen (answered_all p (take o.stops.n calls)) ++ (FAULT memory_fault ∷ map idle (drop (o.stops.n + 1) calls))) z) (sym (ap (λ (z : Parser). z.session.taken) o.wants.is)) g)

-- what holds of all answers of a run holds of those that were appended
pub puts : (Holds : List Seen → Type 0) (p : Parser) (calls : List Call) (old new : List yaml_answer_t) (q : Parser) → PutsAnswers decoded_input p calls old new q → ((answers : List Seen) → Runs decoded_input p calls answers q → Holds answers) → Puts Holds old new
puts Holds p calls old new q g h = record { more = g.more; is = g.is; holds = h (map seen_of g.more) g.runs }
