-- A fault is returned once.
use Rattle.std.proofs.Common.{◌≡◌, ℕ, suc, ◌+◌, ◌≤◌, Bool, true, false, List, [], ◌∷◌, ◌++◌, map, take, drop, length, Option, Some, None, refl, ap, sym, ◌∙◌, subst, arith, inl, inr}
use Rattle.std.specs.Prelude.{filter, ◌⊎◌, if◌then◌else◌}
use Rattle.std.proofs.lemmas.Bool.{cases_Bool, false≢true}
use Rattle.yaml_text.specs.Fault.{Fault, memory_fault}
use Rattle.yaml_text.specs.declared.types.yaml_encoding_t.{yaml_encoding_t}
use Rattle.yaml_scan.specs.Course.{Course, course}
use Rattle.yaml_scan.specs.ParserCalls.{input_read, course_read}
use Rattle.yaml_scan.specs.Token.{empty}
use Rattle.yaml_scan.specs.Groups.{Token}
use Rattle.yaml_scan.specs.Decoded.{decoded_input}
use Rattle.yaml_scan.specs.Session.{Session, Call, answer, after, next_token, why}
use Rattle.yaml_scan.specs.Sessions.{session, after_all}
use Rattle.yaml_scan.specs.Session.Call.{SCAN, PEEK, SKIP}
use Rattle.yaml_scan.specs.Session.Answer.{TOKEN, PEEKED, SKIPPED, NOTHING}
use Rattle.yaml_scan.specs.Seen.{Seen, seen, Seen as sight}
use Rattle.yaml_scan.specs.Puts.{answered_all, OfSession, idle}
use Rattle.yaml_scan.specs.ReadingOn.{is_fault, HaveOneFault, FaultIsToldOnce, RunsFaultOnce}
use Rattle.yaml_scan.proofs.SessionCalls.CallCases.{finished, scan_answer, peek_answer, after_scan, after_peek, after_skip}
use Rattle.yaml_scan.proofs.SessionCalls.CallByCall.{of_session}

abbrev faults_in : List Seen → ℕ
faults_in answers = length (filter is_fault answers)

no_fault : (a : Seen) (more : List Seen) → is_fault a ≡ false → faults_in (a ∷ more) ≡ faults_in more
no_fault a more e = rw e refl

both : (a b : List Seen) → faults_in (a ++ b) ≡ faults_in a + faults_in b
both [] b = omega arith
both (x ∷ a) b = elim (cases_Bool (is_fault x)) [
  | inl e ↦ (let r = both a b in let s : suc (faults_in (a ++ b)) ≡ suc (faults_in a) + faults_in b = omega arith in rw e s)
  | inr e ↦ rw e (both a b)
]

idle_faults : (calls : List Call) → faults_in (map idle calls) ≡ 0
idle_faults [] = refl
idle_faults (SCAN ∷ calls) = idle_faults calls
idle_faults (PEEK ∷ calls) = idle_faults calls
idle_faults (SKIP ∷ calls) = idle_faults calls

-- the answer to a call, and whether the session goes on
module _ (e : yaml_encoding_t) (limit : ℕ) (c : Course) where
  abbrev IsQuiet : Session → Type 0
  IsQuiet s = (s.over ≡ true) × (s.peeked ≡ false)

  quiet_answer : (call : Call) (s : Session) → IsQuiet s → is_fault (seen (answer e limit c call s)) ≡ false
  quiet_answer SCAN s q = rw q.0 refl
  quiet_answer PEEK s q = rw q.0 refl
  quiet_answer SKIP s q = rw q.1 refl

  quiet_after : (call : Call) (s : Session) → IsQuiet s → after limit c call s ≡ s
  quiet_after SCAN s q = rw q.0 refl
  quiet_after PEEK s q = rw q.0 refl
  quiet_after SKIP s q = rw q.1 refl

  quiet : (calls : List Call) (s : Session) → IsQuiet s → (faults_in (map seen (session e limit c calls s)) ≡ 0) × (after_all limit c calls s ≡ s)
  unfolding session after_all
  quiet [] s q = (refl, refl)
  quiet (call ∷ calls) s q =
      let a = quiet_after call s q in
      let r = quiet calls s q in (
        no_fault (seen (answer e limit c call s)) (map seen (session e limit c calls (after limit c call s))) (quiet_answer call s q)
            ∙ ap (λ (z : Session). faults_in (map seen (session e limit c calls z))) a ∙ r.0,
        ap (λ (z : Session). after_all limit c calls z) a ∙ r.1,
      )

  -- no fault, or the last answer of all
  abbrev GoesOn : Seen → Session → Type 0
  GoesOn a s = (is_fault a ≡ false) ⊎ ((is_fault a ≡ true) × IsQuiet s)

  scan_why : (s : Session) (f : Option Fault) → GoesOn (seen (why f)) (finished c s)
  scan_why s None = inl refl
  scan_why s (Some f) = inr (refl, (refl, refl))

  of_scan : (s : Session) (b : Bool) (o : Option Token) → GoesOn (seen (if b then TOKEN empty else scan_answer e c o)) (if b then s else after_scan limit c s o)
  of_scan s true o = inl refl
  of_scan s false None = scan_why s c.fault
  of_scan s false (Some x) = inl refl

  of_peek : (s : Session) (b : Bool) (o : Option Token) → GoesOn (seen (if b then PEEKED empty else peek_answer e c o)) (if b then s else after_peek limit c s o)
  of_peek s true o = inl refl
  of_peek s false None = scan_why s c.fault
  of_peek s false (Some x) = inl refl

  of_skip : (s : Session) (b : Bool) → GoesOn (seen (if b then SKIPPED else NOTHING)) (if b then after_skip s (next_token limit c s) else s)
  of_skip s true = inl refl
  of_skip s false = inl refl

  of_call : (call : Call) (s : Session) → GoesOn (seen (answer e limit c call s)) (after limit c call s)
  of_call SCAN s = of_scan s s.over (next_token limit c s)
  of_call PEEK s = of_peek s s.over (next_token limit c s)
  of_call SKIP s = of_skip s s.peeked

  is_one : (a : Seen) (more : List Seen) → is_fault a ≡ true → faults_in more ≡ 0 → faults_in (a ∷ more) ≤ 1
  is_one a more f n = let m : suc (faults_in more) ≤ 1 = omega arith in rw f m

  once : (calls : List Call) (s : Session) → faults_in (map seen (session e limit c calls s)) ≤ 1
  unfolding session
  once [] s = omega arith
  once (call ∷ calls) s = go (once calls (after limit c call s)) (of_call call s)
    where
      go : faults_in (map seen (session e limit c calls (after limit c call s))) ≤ 1 → GoesOn (seen (answer e limit c call s)) (after limit c call s)
          → faults_in (seen (answer e limit c call s) ∷ map seen (session e limit c calls (after limit c call s))) ≤ 1
      go ih (inl f) = let k = no_fault (seen (answer e limit c call s)) (map seen (session e limit c calls (after limit c call s))) f in omega arith
      go ih (inr f) = is_one (seen (answer e limit c call s)) (map seen (session e limit c calls (after limit c call s))) f.0 (quiet calls (after limit c call s) f.1).0

  -- no fault if the session is still open
  pub open_none : (calls : List Call) (s : Session) → (after_all limit c calls s).over ≡ false → faults_in (map seen (session e limit c calls s)) ≡ 0
  unfolding session after_all
  open_none [] s o = refl
  open_none (call ∷ calls) s o = go (open_none calls (after limit c call s)) (of_call call s)
    where
      go : ((after_all limit c calls (after limit c call s)).over ≡ false → faults_in (map seen (session e limit c calls (after limit c call s))) ≡ 0)
          → GoesOn (seen (answer e limit c call s)) (after limit c call s) → faults_in (seen (answer e limit c call s) ∷ map seen (session e limit c calls (after limit c call s))) ≡ 0
      go ih (inl f) = no_fault (seen (answer e limit c call s)) (map seen (session e limit c calls (after limit c call s))) f ∙ ih o
      go ih (inr f) = absurd (false≢true (sym o ∙ ap (λ (z : Session). z.over) (quiet calls (after limit c call s) f.1).1 ∙ f.1.0))

pub fault_is_told_once : FaultIsToldOnce
fault_is_told_once limit setting input calls s = once (decoded_input setting input).encoding limit (course limit (decoded_input setting input)) calls s

pub runs_fault_once : RunsFaultOnce
runs_fault_once p calls answers q r = go (of_session p calls answers q r)
  where
    go : OfSession p calls answers q → HaveOneFault answers
    go (inl g) = subst HaveOneFault (sym g.0) (once (input_read p).encoding p.limit (course_read p) calls p.session)
    go (inr o) =
        let a : List Seen = map seen (answered_all p (take o.stops.n calls)) in
        let b : List Seen = map idle (drop (o.stops.n + 1) calls) in
        let x : faults_in a ≡ 0 = open_none (input_read p).encoding p.limit (course_read p) (take o.stops.n calls) p.session o.wants.was_open in
        let y : faults_in b ≡ 0 = idle_faults (drop (o.stops.n + 1) calls) in
        let z : faults_in (a ++ (sight.FAULT memory_fault ∷ b)) ≡ faults_in a + suc (faults_in b) = both a (sight.FAULT memory_fault ∷ b) in
        let w : faults_in (a ++ (sight.FAULT memory_fault ∷ b)) ≤ 1 = omega arith in
        subst HaveOneFault (sym o.stops.answers_are) w
