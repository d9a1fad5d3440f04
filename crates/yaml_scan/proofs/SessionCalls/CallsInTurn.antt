-- The answers of the code, appended one by one, are those to a list of calls.
use Rattle.std.proofs.Common.{◌≡◌, ℕ, zero, suc, ◌+◌, ◌<◌, List, [], ◌∷◌, ◌++◌, map, take, length, get_or, refl, ap, sym, ◌∙◌, subst, arith, inl, inr, append_assoc}
use Rattle.yaml_scan.specs.Decoded.{decoded_input}
use Rattle.yaml_scan.specs.Session.{Call}
use Rattle.yaml_scan.specs.Parser.{Parser}
use Rattle.yaml_scan.specs.ParserCalls.{IsRefusedAtStart, input_read, call_of}
use Rattle.yaml_scan.specs.Headline.{Calls, Runs, PutsAnswers}
use Rattle.yaml_scan.specs.Puts.{after_calls, PutsSession, OfSession}
use Rattle.yaml_scan.specs.declared.calls.yaml_call_t.{yaml_call_t}
use Rattle.yaml_scan.specs.declared.calls.yaml_answer_t.{yaml_answer_t}
use Rattle.yaml_scan.specs.Seen.{Seen, seen_of}
use Rattle.yaml_scan.specs.inside.Shown.{IsSeen}
use Rattle.yaml_scan.proofs.RunningCalls.CallAnswers.{wants_late}
use Rattle.yaml_scan.proofs.SessionCalls.CallByCall.{of_session}

-- ONE CALL MORE
one_more : (p : Parser) (calls : List Call) (call : Call) (answers : List Seen) (q : Parser) (s : Seen) (r : Parser) → Runs decoded_input p calls answers q → IsSeen call q s r → Runs decoded_input p (calls ++ call ∷ []) (answers ++ s ∷ []) r
one_more p [] call [] q s r e (a, k, c) = (a, r, subst (λ (x : Parser). Calls decoded_input call x a r) e c, k, refl)
one_more p [] call (t ∷ more) q s r e z = absurd e
one_more p (first ∷ calls) call [] q s r e z = absurd e
one_more p (first ∷ calls) call (t ∷ more) q s r (a, m, c, k, w) z = (a, m, c, k, one_more m calls call more q s r w z)

nothing_more : {A : Type 0} (xs : List A) → xs ≡ xs ++ []
nothing_more [] = refl
nothing_more {A = A} (x ∷ xs) = ap (λ (z : List A). x ∷ z) (nothing_more xs)

map_more : {A B : Type 0} (f : A → B) (xs : List A) (x : A) → map f (xs ++ x ∷ []) ≡ map f xs ++ f x ∷ []
map_more f [] x = refl
map_more {B = B} f (y ∷ xs) x = ap (λ (z : List B). f y ∷ z) (map_more f xs x)

pub none_put : (p : Parser) (old : List yaml_answer_t) → PutsAnswers decoded_input p [] old old p
none_put p old = record { more = []; is = nothing_more old; runs = refl }

pub one_put : (p : Parser) (calls : List Call) (call : Call) (old out : List yaml_answer_t) (q : Parser) (answer : yaml_answer_t) (r : Parser) → PutsAnswers decoded_input p calls old out q → IsSeen call q (seen_of answer) r
    → PutsAnswers decoded_input p (calls ++ call ∷ []) old (out ++ answer ∷ []) r
one_put p calls call old out q answer r g s = record {
  more = g.more ++ answer ∷ [];
  is = ap (λ (z : List yaml_answer_t). z ++ answer ∷ []) g.is ∙ append_assoc old g.more (answer ∷ []);
  runs = subst (λ (z : List Seen). Runs decoded_input p (calls ++ call ∷ []) z r) (sym (map_more seen_of g.more answer)) (one_more p calls call (map seen_of g.more) q (seen_of answer) r g.runs s);
}

-- a reader's fault instead of the first step, in UTF-8, takes no memory
pub puts_session : (p : Parser) (calls : List Call) (old out : List yaml_answer_t) (q : Parser) → PutsAnswers decoded_input p calls old out q → IsRefusedAtStart (input_read p) → PutsSession p calls old out q
puts_session p calls old out q g e = go (of_session p calls (map seen_of g.more) q g.runs)
  where
    go : OfSession p calls (map seen_of g.more) q → PutsSession p calls old out q
    go (inl s) = record { more = g.more; is = g.is; answers = s.0; left = s.1 }
    go (inr o) = absurd (wants_late (after_calls p (take o.stops.n calls)) q o.wants e)

-- the code's calls, one by one
pub called_more : (xs : List yaml_call_t) (n : ℕ) (d : yaml_call_t) → n < length xs → map call_of (take (n + 1) xs) ≡ map call_of (take n xs) ++ call_of (get_or xs n d) ∷ []
called_more [] n d l = absurd (omega arith)
called_more (x ∷ xs) zero d l = refl
called_more (x ∷ xs) (suc n) d l = let m : suc n + 1 ≡ suc (n + 1) = omega arith in rw m (ap (λ (z : List Call). call_of x ∷ z) (called_more xs n d (omega arith)))
