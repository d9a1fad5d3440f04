-- The answers to a refused input are those to every accepted one that agrees with it up to the refused character.
use Rattle.std.proofs.Common.{◌≡◌, ℕ, zero, suc, ◌+◌, ◌<◌, Bool, true, false, List, [], ◌∷◌, ◌++◌, map, take, drop, length, slice_get, Option, Some, None, refl, ap, sym, ◌∙◌, subst, arith, inl, inr}
use Rattle.std.specs.Prelude.{◌⊎◌, if◌then◌else◌}
use Rattle.std.proofs.lemmas.Bool.{false≢true}
use Rattle.yaml_text.specs.Fault.{Fault, memory_fault}
use Rattle.yaml_text.specs.declared.types.yaml_encoding_t.{yaml_encoding_t}
use Rattle.yaml_scan.specs.Settled.{tokens_of}
use Rattle.yaml_scan.specs.Course.{Input, Course, course}
use Rattle.yaml_scan.specs.Puts.{idle}
use Rattle.yaml_scan.specs.ParserCalls.{answered}
use Rattle.yaml_scan.specs.Token.{yaml_token_t, empty}
use Rattle.yaml_scan.specs.Begins.{Begins}
use Rattle.yaml_scan.specs.Groups.{Token, handed_out}
use Rattle.yaml_scan.specs.Answers.{Answers, answers}
use Rattle.yaml_scan.specs.Inputs.{answers_to, GoesOn}
use Rattle.yaml_scan.specs.Decoded.{decoded_input}
use Rattle.yaml_scan.specs.Session.{Session, Call, Answer, answer, after, next_token}
use Rattle.yaml_scan.specs.Sessions.{session, after_all}
use Rattle.yaml_scan.specs.Session.{why}
use Rattle.yaml_scan.specs.Session.Call.{SCAN, PEEK, SKIP}
use Rattle.yaml_scan.specs.Session.Answer.{TOKEN, PEEKED, SKIPPED, NOTHING, FAULT}
use Rattle.yaml_scan.specs.SessionLaws.{FaultOfRefused}
use Rattle.yaml_scan.specs.SessionLaws.FaultOfRefused.{at_once, near, far}
use Rattle.yaml_scan.specs.Parser.{Parser, course_by}
use Rattle.yaml_scan.specs.Headline.{Calls, Runs}
use Rattle.yaml_scan.specs.Seen.{Seen, seen, Seen as sight}
use Rattle.yaml_scan.specs.All.{ReadsAll}
use Rattle.yaml_scan.specs.Puts.{answered_all, HasNext, of_input, IsAnsweredAlike, StopsWith, AreAnsweredAlike, AreReadAlike, OfSession}
use Rattle.yaml_scan.proofs.SessionCalls.CallCases.{took, paced, looked, finished, scan_answer, peek_answer, after_scan, after_peek, after_skip}
use Rattle.yaml_scan.proofs.Course.CourseSteps.{refused_has_fault}
use Rattle.yaml_scan.proofs.Course.InputLaws.{inputs_keep_order, agree, encoding_is, late_faults}
use Rattle.yaml_scan.proofs.Texts.UnfinishedInputs.{tokens_before_refusal, fault_before_refusal}
use Rattle.yaml_scan.proofs.SessionCalls.TokensTaken.{IsQuiet, quiet_calls, IsShowing, showing_after}
use Rattle.yaml_scan.proofs.TokenList.NeverRevised.{Begins-trans}
use Rattle.yaml_scan.proofs.SessionCalls.CallByCall.{of_session}

get_front : (xs ys : List Token) (n : ℕ) (x : Token) → Begins xs ys → slice_get xs n ≡ Some x → slice_get ys n ≡ Some x
get_front xs ys n x g e = ap (λ (z : List Token). slice_get z n) g.is ∙ go xs n e
  where
    go : (zs : List Token) (m : ℕ) → slice_get zs m ≡ Some x → slice_get (zs ++ g.rest) m ≡ Some x
    go [] m q = absurd (cc)
    go (z ∷ zs) zero q = q
    go (z ∷ zs) (suc m) q = go zs m q

some_fault : (limit : ℕ) (input : Input) (f : Fault) (c : Course) → FaultOfRefused limit input f c → (g : Fault) × (c.fault ≡ Some g)
some_fault limit input f c (at_once b l e) = (f, e)
some_fault limit input f c (near b l e) = (f, e)
some_fault limit input f c (far o b s l e) = (o.fault, e)

none_some : (x : Token) → Some x ≡ None → ⊥
none_some x e = cc

fault_none : (x : Fault) → None ≡ Some x → ⊥
fault_none x e = cc

refusal_is : (s : yaml_encoding_t) (a : List ℕ) (t : yaml_encoding_t) (b : List ℕ) (refused : Fault) → GoesOn s a t b refused → (decoded_input s a).refusal ≡ Some refused
unfolding decoded_input
refusal_is s a t b refused g = g.refused

module _ (limit : ℕ) (s : yaml_encoding_t) (a : List ℕ) (t : yaml_encoding_t) (b : List ℕ) (refused : Fault) (g : GoesOn s a t b refused) where
  abbrev I : Input
  I = decoded_input s a

  abbrev J : Input
  J = decoded_input t b

  abbrev C : Course
  C = course limit I

  abbrev D : Course
  D = course limit J

  same_encoding : J.encoding ≡ I.encoding
  same_encoding = encoding_is s a t b refused g

  ends_with : (f : Fault) × (C.fault ≡ Some f)
  ends_with = some_fault limit I refused C (refused_has_fault limit I refused (inputs_keep_order s a) (refusal_is s a t b refused g))

  -- if a has a next token, b has it too
  next_same : (n : ℕ) (x : Token) → slice_get (tokens_of limit C) n ≡ Some x → slice_get (tokens_of limit D) n ≡ Some x
  next_same n x e = get_front (tokens_of limit C) (tokens_of limit D) n x (tokens_before_refusal limit I J refused (inputs_keep_order s a) (inputs_keep_order t b) (agree s a t b refused g)) e

  -- if it has none, the answer is the reader's fault, or both end alike
  ends_same : (n : ℕ) → slice_get (tokens_of limit C) n ≡ None → (C.fault ≡ Some refused) ⊎ ((slice_get (tokens_of limit D) n ≡ None) × (D.fault ≡ C.fault))
  ends_same n e = go (fault_before_refusal limit I J refused ends_with.0 (inputs_keep_order s a) (inputs_keep_order t b) (agree s a t b refused g) ends_with.1)
    where
      go : (ends_with.0 ≡ refused) ⊎ ((D.fault ≡ Some ends_with.0) × (D.read ≡ C.read) × (tokens_of limit D ≡ tokens_of limit C)) → (C.fault ≡ Some refused) ⊎ ((slice_get (tokens_of limit D) n ≡ None) × (D.fault ≡ C.fault))
      go (inl q) = inl (ends_with.1 ∙ ap (λ (f : Fault). Some f) q)
      go (inr q) = inr (ap (λ (z : List Token). slice_get z n) q.2 ∙ e, q.0 ∙ sym ends_with.1)

  -- sessions that are at the same token
  record IsLike (u v : Session) : Type 0 where
    pub taken : v.taken ≡ u.taken
    pub peeked : v.peeked ≡ u.peeked
    pub over : v.over ≡ u.over

  -- one call: the same answer, or the reader's fault
  record IsSame (x y : Answer) (u v : Session) : Type 0 where
    pub answer_is : x ≡ y
    pub like : IsLike u v

  record IsRefused (x : Answer) (u : Session) : Type 0 where
    pub answer_is : x ≡ FAULT refused
    pub quiet : IsQuiet u

  abbrev Both : Answer → Answer → Session → Session → Type 0
  Both x y u v = IsSame x y u v ⊎ IsRefused x u

  scan_open : (x : Answer) (u v : Session) (n : Option Token) → v.over ≡ false → next_token limit D v ≡ n → Both x (scan_answer J.encoding D n) u (after_scan limit D v n)
      → Both x (if v.over then TOKEN empty else scan_answer J.encoding D (next_token limit D v)) u (if v.over then v else after_scan limit D v (next_token limit D v))
  scan_open x u v n e q k = subst (λ (z : Bool). Both x (if z then TOKEN empty else scan_answer J.encoding D (next_token limit D v)) u (if z then v else after_scan limit D v (next_token limit D v))) (sym e)
      (subst (λ (z : Option Token). Both x (scan_answer J.encoding D z) u (after_scan limit D v z)) (sym q) k)

  scan_both : (u v : Session) → IsLike u v → (o : Bool) (n : Option Token) → u.over ≡ o → next_token limit C u ≡ n
      → Both (if o then TOKEN empty else scan_answer I.encoding C n) (if v.over then TOKEN empty else scan_answer J.encoding D (next_token limit D v)) (if o then u else after_scan limit C u n) (if v.over then v else after_scan limit D v (next_token limit D v))
  scan_both u v l true n e q = subst (λ (z : Bool). Both (TOKEN empty) (if z then TOKEN empty else scan_answer J.encoding D (next_token limit D v)) u (if z then v else after_scan limit D v (next_token limit D v))) (sym (l.over ∙ e)) (inl (record { answer_is = refl; like = l }))
  scan_both u v l false (Some x) e q =
      let m : next_token limit D v ≡ Some x = ap (λ (k : ℕ). slice_get (tokens_of limit D) k) l.taken ∙ next_same u.taken x q in
      scan_open (TOKEN (handed_out I.encoding x)) (took x (paced limit C u)) v (Some x) (l.over ∙ e) m (inl (record {
        answer_is = ap (λ (z : yaml_encoding_t). TOKEN (handed_out z x)) (sym same_encoding);
        like = record { taken = ap (λ (k : ℕ). k + 1) l.taken; peeked = refl; over = refl };
      }))
  scan_both u v l false None e q = go (ends_same u.taken q)
    where
      go : (C.fault ≡ Some refused) ⊎ ((slice_get (tokens_of limit D) u.taken ≡ None) × (D.fault ≡ C.fault))
          → Both (why C.fault) (if v.over then TOKEN empty else scan_answer J.encoding D (next_token limit D v)) (finished C u) (if v.over then v else after_scan limit D v (next_token limit D v))
      go (inl f) = inr (record { answer_is = ap why f; quiet = (refl, refl) })
      go (inr f) =
          let m : next_token limit D v ≡ None = ap (λ (k : ℕ). slice_get (tokens_of limit D) k) l.taken ∙ f.0 in
          scan_open (why C.fault) (finished C u) v None (l.over ∙ e) m (inl (record { answer_is = ap why (sym f.1); like = record { taken = l.taken; peeked = refl; over = refl } }))

  peek_open : (x : Answer) (u v : Session) (n : Option Token) → v.over ≡ false → next_token limit D v ≡ n → Both x (peek_answer J.encoding D n) u (after_peek limit D v n)
      → Both x (if v.over then PEEKED empty else peek_answer J.encoding D (next_token limit D v)) u (if v.over then v else after_peek limit D v (next_token limit D v))
  peek_open x u v n e q k = subst (λ (z : Bool). Both x (if z then PEEKED empty else peek_answer J.encoding D (next_token limit D v)) u (if z then v else after_peek limit D v (next_token limit D v))) (sym e)
      (subst (λ (z : Option Token). Both x (peek_answer J.encoding D z) u (after_peek limit D v z)) (sym q) k)

  peek_both : (u v : Session) → IsLike u v → (o : Bool) (n : Option Token) → u.over ≡ o → next_token limit C u ≡ n
      → Both (if o then PEEKED empty else peek_answer I.encoding C n) (if v.over then PEEKED empty else peek_answer J.encoding D (next_token limit D v)) (if o then u else after_peek limit C u n) (if v.over then v else after_peek limit D v (next_token limit D v))
  peek_both u v l true n e q = subst (λ (z : Bool). Both (PEEKED empty) (if z then PEEKED empty else peek_answer J.encoding D (next_token limit D v)) u (if z then v else after_peek limit D v (next_token limit D v))) (sym (l.over ∙ e)) (inl (record { answer_is = refl; like = l }))
  peek_both u v l false (Some x) e q =
      let m : next_token limit D v ≡ Some x = ap (λ (k : ℕ). slice_get (tokens_of limit D) k) l.taken ∙ next_same u.taken x q in
      peek_open (PEEKED (handed_out I.encoding x)) (looked (paced limit C u)) v (Some x) (l.over ∙ e) m (inl (record {
        answer_is = ap (λ (z : yaml_encoding_t). PEEKED (handed_out z x)) (sym same_encoding);
        like = record { taken = l.taken; peeked = refl; over = l.over };
      }))
  peek_both u v l false None e q = go (ends_same u.taken q)
    where
      go : (C.fault ≡ Some refused) ⊎ ((slice_get (tokens_of limit D) u.taken ≡ None) × (D.fault ≡ C.fault))
          → Both (why C.fault) (if v.over then PEEKED empty else peek_answer J.encoding D (next_token limit D v)) (finished C u) (if v.over then v else after_peek limit D v (next_token limit D v))
      go (inl f) = inr (record { answer_is = ap why f; quiet = (refl, refl) })
      go (inr f) =
          let m : next_token limit D v ≡ None = ap (λ (k : ℕ). slice_get (tokens_of limit D) k) l.taken ∙ f.0 in
          peek_open (why C.fault) (finished C u) v None (l.over ∙ e) m (inl (record { answer_is = ap why (sym f.1); like = record { taken = l.taken; peeked = refl; over = refl } }))

  skip_both : (u v : Session) → IsLike u v → IsShowing limit C u → (p : Bool) (n : Option Token) → u.peeked ≡ p → next_token limit C u ≡ n
      → Both (if p then SKIPPED else NOTHING) (if v.peeked then SKIPPED else NOTHING) (if p then after_skip u n else u) (if v.peeked then after_skip v (next_token limit D v) else v)
  skip_both u v l h false n e q = subst (λ (z : Bool). Both NOTHING (if z then SKIPPED else NOTHING) u (if z then after_skip v (next_token limit D v) else v)) (sym (l.peeked ∙ e)) (inl (record { answer_is = refl; like = l }))
  skip_both u v l h true None e q = absurd (let z = (h e).1 in none_some z.0 (sym z.1 ∙ q))
  skip_both u v l h true (Some x) e q =
      let m : next_token limit D v ≡ Some x = ap (λ (k : ℕ). slice_get (tokens_of limit D) k) l.taken ∙ next_same u.taken x q in
      subst (λ (z : Bool). Both SKIPPED (if z then SKIPPED else NOTHING) (took x u) (if z then after_skip v (next_token limit D v) else v)) (sym (l.peeked ∙ e))
      (subst (λ (z : Option Token). Both SKIPPED SKIPPED (took x u) (after_skip v z)) (sym m) (inl (record { answer_is = refl; like = record { taken = ap (λ (k : ℕ). k + 1) l.taken; peeked = refl; over = refl } })))

  call_both : (call : Call) (u v : Session) → IsLike u v → IsShowing limit C u → Both (answer I.encoding limit C call u) (answer J.encoding limit D call v) (after limit C call u) (after limit D call v)
  call_both SCAN u v l h = scan_both u v l u.over (next_token limit C u) refl refl
  call_both PEEK u v l h = peek_both u v l u.over (next_token limit C u) refl refl
  call_both SKIP u v l h = skip_both u v l h u.peeked (next_token limit C u) refl refl

  -- CALLS
  -- up to the reader's fault
  record Stops (calls : List Call) (all : List Seen) (u v : Session) : Type 0 where
    n : ℕ
    within : n < length calls
    is : all ≡ map seen (session J.encoding limit D (take n calls) v) ++ (sight.FAULT refused ∷ map idle (drop (n + 1) calls))
    over : (after_all limit C calls u).over ≡ true

  abbrev Alike : List Call → Session → Session → Type 0
  Alike calls u v = (map seen (session I.encoding limit C calls u) ≡ map seen (session J.encoding limit D calls v)) ⊎ Stops calls (map seen (session I.encoding limit C calls u)) u v

  alike : (calls : List Call) (u v : Session) → IsLike u v → IsShowing limit C u → Alike calls u v
  unfolding session after_all
  alike [] u v l h = inl refl
  alike (call ∷ calls) u v l h = go (λ k. alike calls (after limit C call u) (after limit D call v) k (showing_after limit C call u h)) (call_both call u v l h)
    where
      later : answer I.encoding limit C call u ≡ answer J.encoding limit D call v → Alike calls (after limit C call u) (after limit D call v) → Alike (call ∷ calls) u v
      later e (inl f) = inl (ap (λ (z : Answer). seen z ∷ map seen (session I.encoding limit C calls (after limit C call u))) e ∙ ap (λ (z : List Seen). seen (answer J.encoding limit D call v) ∷ z) f)
      later e (inr f) = inr (record {
        n = suc f.n;
        within = (let z = f.within in omega arith);
        is = ap (λ (z : Answer). seen z ∷ map seen (session I.encoding limit C calls (after limit C call u))) e ∙ ap (λ (z : List Seen). seen (answer J.encoding limit D call v) ∷ z) f.is
            ∙ (let m : suc (f.n + 1) ≡ suc f.n + 1 = omega arith in
            ap (λ (z : ℕ). seen (answer J.encoding limit D call v) ∷ (map seen (session J.encoding limit D (take f.n calls) (after limit D call v)) ++ (sight.FAULT refused ∷ map idle (drop z (call ∷ calls))))) m);
        over = f.over;
      })

      go : (IsLike (after limit C call u) (after limit D call v) → Alike calls (after limit C call u) (after limit D call v))
          → Both (answer I.encoding limit C call u) (answer J.encoding limit D call v) (after limit C call u) (after limit D call v) → Alike (call ∷ calls) u v
      go ih (inl k) = later k.answer_is (ih k.like)
      go ih (inr k) =
          let r = quiet_calls I.encoding limit C calls (after limit C call u) k.quiet in
          inr (record {
            n = 0;
            within = omega arith;
            is = ap (λ (z : Answer). seen z ∷ map seen (session I.encoding limit C calls (after limit C call u))) k.answer_is ∙ ap (λ (z : List Seen). sight.FAULT refused ∷ z) r.0;
            over = ap (λ (z : Session). z.over) r.1 ∙ k.quiet.0;
          })

  like_self : (u : Session) → IsLike u u
  like_self u = record { taken = refl; peeked = refl; over = refl }

-- a call that is no skip
of_both : (limit : ℕ) (s : yaml_encoding_t) (a : List ℕ) (t : yaml_encoding_t) (b : List ℕ) (refused : Fault) (g : GoesOn s a t b refused) (w x y : Answer) (u v : Session) → w ≡ x → Both limit s a t b refused g x y u v
    → (w ≡ y) ⊎ ((w ≡ FAULT refused) ⊎ (w ≡ FAULT memory_fault))
of_both limit s a t b refused g w x y u v e (inl k) = inl (e ∙ k.answer_is)
of_both limit s a t b refused g w x y u v e (inr k) = inr (inl (e ∙ k.answer_is))

pub scanned_alike : (p : Parser) (a : Answer) (q : Parser) → Calls decoded_input SCAN p a q → IsAnsweredAlike p SCAN a
unfolding course_by
scanned_alike p a q (inr w) t b fault g = inr (inr w.0)
scanned_alike p a q (inl w) t b fault g =
    let u = p.session in
    of_both p.limit p.setting p.input t b fault g a (answered p SCAN) (answered (of_input p t b) SCAN) _ _ w.0
    (scan_both p.limit p.setting p.input t b fault g u u (like_self p.limit p.setting p.input t b fault g u) u.over (next_token p.limit (course p.limit (decoded_input p.setting p.input)) u) refl refl)

pub peeked_alike : (p : Parser) (a : Answer) (q : Parser) → Calls decoded_input PEEK p a q → IsAnsweredAlike p PEEK a
unfolding course_by
peeked_alike p a q (inr w) t b fault g = inr (inr w.0)
peeked_alike p a q (inl w) t b fault g =
    let u = p.session in
    of_both p.limit p.setting p.input t b fault g a (answered p PEEK) (answered (of_input p t b) PEEK) _ _ w.0
    (peek_both p.limit p.setting p.input t b fault g u u (like_self p.limit p.setting p.input t b fault g u) u.over (next_token p.limit (course p.limit (decoded_input p.setting p.input)) u) refl refl)

-- LISTS OF CALLS
run_alike : (p : Parser) (calls : List Call) (t : yaml_encoding_t) (b : List ℕ) (fault : Fault) (g : GoesOn p.setting p.input t b fault) → (p.session.peeked ≡ true → HasNext p) → Alike p.limit p.setting p.input t b fault g calls p.session p.session
unfolding course_by
run_alike p calls t b fault g h = alike p.limit p.setting p.input t b fault g calls p.session p.session (like_self p.limit p.setting p.input t b fault g p.session) h

runs_of_session : (p : Parser) (calls : List Call) (answers : List Seen) (q : Parser) → (p.session.peeked ≡ true → HasNext p) → OfSession p calls answers q → AreAnsweredAlike p calls answers
unfolding course_by
runs_of_session p calls answers q h (inl r) t b fault g = go (run_alike p calls t b fault g h)
  where
    go : Alike p.limit p.setting p.input t b fault g calls p.session p.session
        → (answers ≡ map seen (answered_all (of_input p t b) calls)) ⊎ (StopsWith fault (of_input p t b) calls answers ⊎ StopsWith memory_fault (of_input p t b) calls answers)
    go (inl e) = inl (r.0 ∙ e)
    go (inr k) = inr (inl (record { n = k.n; within = k.within; answers_are = r.0 ∙ k.is }))
runs_of_session p calls answers q h (inr o) t b fault g = go (run_alike p (take o.stops.n calls) t b fault g h)
  where
    go : Alike p.limit p.setting p.input t b fault g (take o.stops.n calls) p.session p.session
        → (answers ≡ map seen (answered_all (of_input p t b) calls)) ⊎ (StopsWith fault (of_input p t b) calls answers ⊎ StopsWith memory_fault (of_input p t b) calls answers)
    go (inl e) = inr (inr (record { n = o.stops.n; within = o.stops.within; answers_are = o.stops.answers_are ∙ ap (λ (z : List Seen). z ++ (sight.FAULT memory_fault ∷ map idle (drop (o.stops.n + 1) calls))) e }))
    go (inr k) = absurd (false≢true (sym o.wants.was_open ∙ k.over))

pub runs_alike : (p : Parser) (calls : List Call) (answers : List Seen) (q : Parser) → (p.session.peeked ≡ true → HasNext p) → Runs decoded_input p calls answers q → AreAnsweredAlike p calls answers
runs_alike p calls answers q h w = runs_of_session p calls answers q h (of_session p calls answers q w)

-- ALL TOKENS
fault_to : (limit : ℕ) (setting : yaml_encoding_t) (input : List ℕ) → (answers_to limit setting input).fault ≡ (course limit (decoded_input setting input)).fault
unfolding answers_to answers
fault_to limit setting input = refl

pub reads_alike : (limit : ℕ) (s : yaml_encoding_t) (a : List ℕ) (tokens : List yaml_token_t) (fault : Option Fault) → ReadsAll limit s a tokens fault → AreReadAlike limit s a tokens fault
reads_alike limit s a tokens fault (inr k) t b refused g = (Begins-trans tokens (answers_to limit s a).tokens (answers_to limit t b).tokens k.0.beginning (late_faults limit s a t b refused g).0, inr (inr k.1))
reads_alike limit s a tokens fault (inl k) t b refused g =
    let z = late_faults limit s a t b refused g in
    let f = ends_with limit s a t b refused g in
    let e : (answers_to limit s a).fault ≡ Some f.0 = fault_to limit s a ∙ f.1 in
    (subst (λ (x : List yaml_token_t). Begins x (answers_to limit t b).tokens) (sym k.0) z.0, go (z.1 f.0 e) e)
  where
    go : {x : Fault} → (x ≡ refused) ⊎ (answers_to limit t b ≡ answers_to limit s a) → (answers_to limit s a).fault ≡ Some x
        → ((tokens ≡ (answers_to limit t b).tokens) × (fault ≡ (answers_to limit t b).fault)) ⊎ ((fault ≡ Some refused) ⊎ (fault ≡ Some memory_fault))
    go (inl q) e = inr (inl (k.1 ∙ e ∙ ap (λ (x : Fault). Some x) q))
    go (inr q) e = inl (k.0 ∙ ap (λ (x : Answers). x.tokens) (sym q), k.1 ∙ ap (λ (x : Answers). x.fault) (sym q))
