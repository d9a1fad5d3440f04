-- Calls, one after the other, are answered by the session, up to a refused growth.
use Rattle.yaml_text.specs.Fault.{memory_fault}
use Rattle.std.proofs.Common.{◌≡◌, ◌≢◌, ℕ, zero, suc, ◌+◌, ◌<◌, true, false, List, [], ◌∷◌, ◌++◌, map, take, drop, length, slice_get, Some, refl, ap, sym, ◌∙◌, subst, arith, inl, inr}
use Rattle.std.proofs.lemmas.Bool.{false≢true}
use Rattle.yaml_scan.specs.Decoded.{decoded_input}
use Rattle.yaml_scan.specs.ParserCalls.{answered, after_call}
use Rattle.yaml_scan.specs.Session.{Call, Answer as says}
use Rattle.yaml_scan.specs.Sessions.{session, after_all}
use Rattle.yaml_scan.specs.Session.Call.{SCAN, PEEK, SKIP}
use Rattle.yaml_scan.specs.Parser.{Parser, course_by}
use Rattle.yaml_scan.specs.Headline.{WantsMemory, Calls, Runs}
use Rattle.yaml_scan.specs.Puts.{answered_all, after_calls, RunsOut, OfSession, CallsAreSession, idle}
use Rattle.yaml_scan.specs.Seen.{Seen, seen}
use Rattle.yaml_scan.specs.Seen.Seen.{FAULT}

-- IF THE SESSION IS OVER
-- the answer to a call is idle, and the call changes nothing
idle_answer : (p : Parser) (call : Call) → p.session.over ≡ true → p.session.peeked ≡ false → seen (answered p call) ≡ idle call
idle_answer p SCAN o n = rw o refl
idle_answer p PEEK o n = rw o refl
idle_answer p SKIP o n = rw n refl

idle_left : (p : Parser) (call : Call) → p.session.over ≡ true → p.session.peeked ≡ false → after_call p call ≡ p
idle_left p SCAN o n = rw o refl
idle_left p PEEK o n = rw o refl
idle_left p SKIP o n = rw n refl

idle_run : (calls : List Call) (answers : List Seen) (p q : Parser) → p.session.over ≡ true → p.session.peeked ≡ false → Runs decoded_input p calls answers q → (answers ≡ map idle calls) × (q ≡ p)
idle_run [] [] p q o n e = (refl, e)
idle_run [] (s ∷ more) p q o n e = absurd e
idle_run (call ∷ calls) [] p q o n e = absurd e
idle_run (call ∷ calls) (s ∷ more) p q o n (a, r, c, e, w) = go (λ x y. idle_run calls more r q x y w) c
  where
    go : (r.session.over ≡ true → r.session.peeked ≡ false → (more ≡ map idle calls) × (q ≡ r)) → Calls decoded_input call p a r → (s ∷ more ≡ idle call ∷ map idle calls) × (q ≡ p)
    go ih (inr m) = absurd (false≢true (sym m.1.was_open ∙ o))
    go ih (inl m) = (let d : r ≡ p = m.1 ∙ idle_left p call o n in
        let z = ih (ap (λ (x : Parser). x.session.over) d ∙ o) (ap (λ (x : Parser). x.session.peeked) d ∙ n) in
        (ap (λ (x : Seen). x ∷ more) (e ∙ ap seen m.0 ∙ idle_answer p call o n) ∙ ap (λ (x : List Seen). idle call ∷ x) z.0, z.1 ∙ d))

idle_runs : (calls : List Call) (p : Parser) → p.session.over ≡ true → p.session.peeked ≡ false → Runs decoded_input p calls (map idle calls) p
idle_runs [] p o n = refl
idle_runs (call ∷ calls) p o n = (answered p call, p, inl (refl, sym (idle_left p call o n)), sym (idle_answer p call o n), idle_runs calls p o n)

-- CALL BY CALL IS THE SESSION
one_call : (a b : Call) → Some a ≡ Some b → a ≡ b
one_call a b e = cc

-- a growth was refused further on
out_later : (p : Parser) (call : Call) (calls : List Call) (all : List Seen) (q : Parser) → RunsOut (after_call p call) calls all q → RunsOut p (call ∷ calls) (seen (answered p call) ∷ all) q
unfolding course_by session after_all
out_later p call calls all q o =
    let m : suc o.stops.n + 1 ≡ suc (o.stops.n + 1) = omega arith in record {
      stops = record {
        n = suc o.stops.n;
        within = (let w = o.stops.within in omega arith);
        answers_are = ap (λ (z : List Seen). seen (answered p call) ∷ z) o.stops.answers_are
            ∙ ap (λ (z : ℕ). seen (answered p call) ∷ (map seen (answered_all (after_call p call) (take o.stops.n calls)) ++ (FAULT memory_fault ∷ map idle (drop z (call ∷ calls))))) (sym m);
      };
      asks = o.asks;
      wants = o.wants;
    }

-- or in the first call
out_first : (p : Parser) (call : Call) (calls : List Call) (all : List Seen) (q : Parser) → WantsMemory decoded_input p q → call ≢ SKIP → all ≡ map idle calls → RunsOut p (call ∷ calls) (FAULT memory_fault ∷ all) q
unfolding session after_all
out_first p call calls all q w k e = record {
  stops = record { n = 0; within = omega arith; answers_are = ap (λ (z : List Seen). FAULT memory_fault ∷ z) e };
  asks = λ z. k (one_call call SKIP z);
  wants = w;
}

one_later : (p : Parser) (call : Call) (calls : List Call) (all : List Seen) (q : Parser) → OfSession (after_call p call) calls all q → OfSession p (call ∷ calls) (seen (answered p call) ∷ all) q
unfolding course_by session after_all
one_later p call calls all q (inl f) = inl (ap (λ (z : List Seen). seen (answered p call) ∷ z) f.0, f.1)
one_later p call calls all q (inr o) = inr (out_later p call calls all q o)

pub of_session : (p : Parser) (calls : List Call) (answers : List Seen) (q : Parser) → Runs decoded_input p calls answers q → OfSession p calls answers q
unfolding session after_all
of_session p [] [] q e = inl (refl, e)
of_session p [] (s ∷ more) q e = absurd e
of_session p (call ∷ calls) [] q e = absurd e
of_session p (call ∷ calls) (s ∷ more) q (a, r, c, e, w) = go (of_session r calls more q w) c
  where
    go : OfSession r calls more q → Calls decoded_input call p a r → OfSession p (call ∷ calls) (s ∷ more) q
    go ih (inl m) = subst (λ (x : Seen). OfSession p (call ∷ calls) (x ∷ more) q) (sym (e ∙ ap seen m.0)) (one_later p call calls more q (subst (λ (x : Parser). OfSession x calls more q) m.1 ih))
    go ih (inr m) = (let z = idle_run calls more r q (ap (λ (z : Parser). z.session.over) m.1.is) (ap (λ (z : Parser). z.session.peeked) m.1.is) w in
        inr (subst (λ (x : Seen). RunsOut p (call ∷ calls) (x ∷ more) q) (sym (e ∙ ap seen m.0))
        (out_first p call calls more q (subst (λ (x : Parser). WantsMemory decoded_input p x) (sym z.1) m.1) m.2 z.0)))

-- THE SESSION IS CALL BY CALL
session_runs : (calls : List Call) (p : Parser) → Runs decoded_input p calls (map seen (answered_all p calls)) (after_calls p calls)
unfolding course_by session after_all
session_runs [] p = refl
session_runs (call ∷ calls) p = (answered p call, after_call p call, inl (refl, refl), refl, session_runs calls (after_call p call))

out_runs : (calls : List Call) (n : ℕ) (p q : Parser) → n < length calls → slice_get calls n ≢ Some SKIP → WantsMemory decoded_input (after_calls p (take n calls)) q
    → Runs decoded_input p calls (map seen (answered_all p (take n calls)) ++ (FAULT memory_fault ∷ map idle (drop (n + 1) calls))) q
unfolding course_by session after_all
out_runs [] n p q l k w = absurd (omega arith)
out_runs (call ∷ calls) zero p q l k w = (says.FAULT memory_fault, q, inr (refl, w, λ e. k (ap (λ (x : Call). Some x) e)), refl, idle_runs calls q (ap (λ (z : Parser). z.session.over) w.is) (ap (λ (z : Parser). z.session.peeked) w.is))
out_runs (call ∷ calls) (suc n) p q l k w =
    let m : suc n + 1 ≡ suc (n + 1) = omega arith in
    rw m (answered p call, after_call p call, inl (refl, refl), refl, out_runs calls n (after_call p call) q (omega arith) k w)

pub runs_of : (p : Parser) (calls : List Call) (answers : List Seen) (q : Parser) → OfSession p calls answers q → Runs decoded_input p calls answers q
runs_of p calls answers q (inl s) = subst (λ (z : List Seen). Runs decoded_input p calls z q) (sym s.0) (subst (λ (z : Parser). Runs decoded_input p calls (map seen (answered_all p calls)) z) (sym s.1) (session_runs calls p))
runs_of p calls answers q (inr o) = subst (λ (z : List Seen). Runs decoded_input p calls z q) (sym o.stops.answers_are) (out_runs calls o.stops.n p q o.stops.within o.asks o.wants)

pub calls_are_session : CallsAreSession
calls_are_session p calls answers q = (of_session p calls answers q, runs_of p calls answers q)
