-- The octets, escapes and characters of a uri are read one by one.
use Rattle.std.proofs.Common.{◌≡◌, ℕ, zero, suc, ◌-◌, ◌<◌, ◌≤◌, Bool, true, false, cond, ◌==◌, List, []}
use Rattle.std.proofs.Common.{◌∷◌, ◌++◌, length, Result, Ok, Err, refl, sym, ap, ◌∙◌, arith, append_assoc, not}
use Rattle.std.proofs.lemmas.Bool.Decides.{nat_tests}
use Rattle.std.proofs.lemmas.List.{append-nil}
use Rattle.std.proofs.lemmas.List.Concat.{concat_is}
use Rattle.std.specs.List.{concat}
use Rattle.yaml_lexeme.specs.declared.problem.yaml_refusal_t.{yaml_refusal_t}
use Rattle.yaml_lexeme.specs.declared.problem.yaml_refusal_t.TheVariants as errors
use Rattle.yaml_lexeme.specs.declared.problem.yaml_problem_t.TheVariants.{BAD_NEXT_OCTET, BAD_LEAD_OCTET}
use Rattle.yaml_lexeme.proofs.Parts.HeldReads.{Holds, ok_holds, refuse_holds, if_holds, bind_holds, Nears, PartNears, nears_shorter}
use Rattle.yaml_lexeme.proofs.Parts.PartByPart.{Shortens, joined}
use Rattle.yaml_lexeme.proofs.Places.PlaceMoves.{is_there, length_skip}
use Rattle.yaml_lexeme.proofs.Parts.ReadResults.{value_or, end_or}
use Rattle.yaml_lexeme.specs.inside.Gives.{Refuses, TakesPart, TakesRead, Appends}
use Rattle.yaml_lexeme.specs.Place.{Place, first, skip}
use Rattle.yaml_lexeme.specs.Reading.{Found, Read, found, part, refuse, over, many, with_front, ◌>>=◌}
use Rattle.yaml_lexeme.specs.Uri.{is_octet, octet, next_octets, uri_escape, uri_part, is_uri, uri}
use Rattle.yaml_text.specs.Utf8.{width_of, continues}

-- what was appended to `old` is what was read
pub appended : (r : Read (List ℕ)) (old new : List ℕ) (q : Place) → with_front old r ≡ found new q → TakesRead (λ cs. cs) r old new q
appended (Ok f) old new q h = (sym (ap (value_or []) h), sym (ap (end_or q) h))
appended (Err e) old new q h = absurd cc

pub not_appended : (e : yaml_refusal_t) (r : Read (List ℕ)) (old : List ℕ) (q : Place) → Refuses e q (with_front old r) → Refuses e q r
not_appended errors.MEMORY r old q h = tt
not_appended (errors.OFFENCE problem) (Ok f) old q h = absurd cc
not_appended (errors.OFFENCE problem) (Err o) old q h = h

next_is : (n : ℕ) (p : Place) → next_octets (suc n) p ≡ octet p >>= λ c. cond (not (continues c.value)) (refuse BAD_NEXT_OCTET p) (with_front (c.value ∷ []) (next_octets n c.end))
unfolding next_octets
next_is n p = refl

pub one_next : (n c : ℕ) (p : Place) → octet p ≡ found c (skip 3 p) → not (continues c) ≡ false → next_octets (suc n) p ≡ with_front (c ∷ []) (next_octets n (skip 3 p))
one_next n c p e h = next_is n p ∙ rw (e, h) refl

pub bad_next : (n c : ℕ) (p : Place) → octet p ≡ found c (skip 3 p) → not (continues c) ≡ true → next_octets (suc n) p ≡ refuse BAD_NEXT_OCTET p
bad_next n c p e h = next_is n p ∙ rw (e, h) refl

pub no_next : (e : yaml_refusal_t) (n : ℕ) (p : Place) → Refuses e p (octet p) → Refuses e p (next_octets (suc n) p)
no_next errors.MEMORY n p h = tt
no_next (errors.OFFENCE problem) n p h = next_is n p ∙ rw h refl

pub no_octets : (p : Place) → next_octets 0 p ≡ found [] p
unfolding next_octets
no_octets p = refl

push : (out : List ℕ) (c : ℕ) (r : Read (List ℕ)) → with_front out (with_front (c ∷ []) r) ≡ with_front (out ++ c ∷ []) r
push out c (Ok r) = ap (λ (bs : List ℕ). found bs r.end) (sym (append_assoc out (c ∷ []) r.value))
push out c (Err e) = refl

-- Octets are being read: the bytes so far, and what is left.
abbrev pub Octets : ℕ → Place → List ℕ → Read (List ℕ) → Type 0
Octets n p out whole = with_front out (next_octets n p) ≡ whole

pub octets_more : (n m c : ℕ) (p : Place) (out : List ℕ) (whole : Read (List ℕ)) → n ≡ suc m → octet p ≡ found c (skip 3 p) → not (continues c) ≡ false → Octets n p out whole → Octets m (skip 3 p) (out ++ c ∷ []) whole
octets_more n m c p out whole k e h so_far =
    sym (push out c (next_octets m (skip 3 p))) ∙ ap (with_front out) (sym (one_next m c p e h)) ∙ ap (λ (i : ℕ). with_front out (next_octets i p)) (sym k) ∙ so_far

pub octets_bad : (n m c : ℕ) (p : Place) (out : List ℕ) (whole : Read (List ℕ)) → n ≡ suc m → octet p ≡ found c (skip 3 p) → not (continues c) ≡ true → Octets n p out whole → whole ≡ refuse BAD_NEXT_OCTET p
octets_bad n m c p out whole k e h so_far =
    sym so_far ∙ ap (λ (i : ℕ). with_front out (next_octets i p)) k ∙ ap (with_front out) (bad_next m c p e h)

pub octets_none : (e : yaml_refusal_t) (n m : ℕ) (p : Place) (out : List ℕ) (whole : Read (List ℕ)) → n ≡ suc m → Refuses e p (octet p) → Octets n p out whole → Refuses e p whole
octets_none errors.MEMORY n m p out whole k h so_far = tt
octets_none (errors.OFFENCE problem) n m p out whole k h so_far =
    sym so_far ∙ ap (λ (i : ℕ). with_front out (next_octets i p)) k ∙ ap (with_front out) (no_next (errors.OFFENCE problem) m p h)

pub octets_all : (n : ℕ) (p : Place) (out : List ℕ) (whole : Read (List ℕ)) → n ≡ 0 → Octets n p out whole → whole ≡ found out p
octets_all n p out whole k so_far =
    sym so_far ∙ ap (λ (i : ℕ). with_front out (next_octets i p)) k ∙ ap (with_front out) (no_octets p) ∙ ap (λ (bs : List ℕ). found bs p) (append-nil out)

escape_is : (p : Place) → uri_escape p ≡ octet p >>= λ lead. cond (width_of lead.value == 0) (refuse BAD_LEAD_OCTET p) (with_front (lead.value ∷ []) (next_octets (width_of lead.value - 1) lead.end))
unfolding uri_escape
escape_is p = refl

pub bad_lead : (c : ℕ) (p : Place) → octet p ≡ found c (skip 3 p) → width_of c ≡ 0 → uri_escape p ≡ refuse BAD_LEAD_OCTET p
bad_lead c p e h = escape_is p ∙ rw (e, h) refl

pub no_lead : (e : yaml_refusal_t) (p : Place) → Refuses e p (octet p) → Refuses e p (uri_escape p)
no_lead errors.MEMORY p h = tt
no_lead (errors.OFFENCE problem) p h = escape_is p ∙ rw h refl

lead_then : (c : ℕ) (p : Place) → octet p ≡ found c (skip 3 p) → (width_of c == 0) ≡ false → uri_escape p ≡ with_front (c ∷ []) (next_octets (width_of c - 1) (skip 3 p))
lead_then c p e h = escape_is p ∙ rw (e, h) refl

front_takes : (c : ℕ) (r : Read (List ℕ)) (old mid new : List ℕ) (q : Place) → mid ≡ old ++ c ∷ [] → TakesRead (λ cs. cs) r mid new q → TakesRead (λ cs. cs) (with_front (c ∷ []) r) old new q
front_takes c (Ok f) old mid new q m h = (h.0 ∙ ap (λ (bs : List ℕ). bs ++ f.value) m ∙ append_assoc old (c ∷ []) f.value, h.1)
front_takes c (Err e) old mid new q m h = absurd h

escape_taken : (c : ℕ) (p q : Place) (old mid new : List ℕ) → octet p ≡ found c (skip 3 p) → (width_of c == 0) ≡ false → mid ≡ old ++ c ∷ []
    → TakesRead (λ cs. cs) (next_octets (width_of c - 1) (skip 3 p)) mid new q → TakesRead (λ cs. cs) (uri_escape p) old new q
escape_taken c p q old mid new e h m t = rw (lead_then c p e h) (front_takes c (next_octets (width_of c - 1) (skip 3 p)) old mid new q m t)

escape_refused : (error : yaml_refusal_t) (c : ℕ) (p q : Place) → octet p ≡ found c (skip 3 p) → (width_of c == 0) ≡ false → Refuses error q (next_octets (width_of c - 1) (skip 3 p)) → Refuses error q (uri_escape p)
escape_refused errors.MEMORY c p q e h r = tt
escape_refused (errors.OFFENCE problem) c p q e h r = lead_then c p e h ∙ ap (with_front (c ∷ [])) r

pub escape_done : (r : Result (Unit {0}) yaml_refusal_t) (c : ℕ) (p q : Place) (old mid new : List ℕ) → octet p ≡ found c (skip 3 p) → (width_of c == 0) ≡ false → mid ≡ old ++ c ∷ []
    → Appends (λ cs. cs) r mid new q (next_octets (width_of c - 1) (skip 3 p)) → Appends (λ cs. cs) r old new q (uri_escape p)
escape_done (Ok x) c p q old mid new e h m t = escape_taken c p q old mid new e h m t
escape_done (Err error) c p q old mid new e h m t = escape_refused error c p q e h t

-- parts of a uri
pub at_percent : (listed : Bool) (p : Place) → (first p == 0x25) ≡ true → uri_part listed p ≡ uri_escape p >>= λ r. part r.value r.end
unfolding uri_part
at_percent listed p h = rw h refl

read_part : (r : Read (List ℕ)) (old new : List ℕ) (p q : Place) → TakesRead (λ cs. cs) r old new q → TakesPart (λ cs. cs) (r >>= λ x. part x.value x.end) true old new p q
read_part (Ok f) old new p q h = h
read_part (Err e) old new p q h = absurd h

escape_is_part : (listed : Bool) (p : Place) → first p ≡ 0x25 → uri_part listed p ≡ uri_escape p >>= λ x. part x.value x.end
escape_is_part listed p h = at_percent listed p (rw h refl)

-- an escape is a part of a uri
pub escape_part : (listed : Bool) (p q : Place) (old new : List ℕ) → first p ≡ 0x25 → TakesRead (λ cs. cs) (uri_escape p) old new q → TakesPart (λ cs. cs) (uri_part listed p) true old new p q
escape_part listed p q old new h t = rw (escape_is_part listed p h) (read_part (uri_escape p) old new p q t)

pub no_escape_part : (e : yaml_refusal_t) (listed : Bool) (p q : Place) → first p ≡ 0x25 → Refuses e q (uri_escape p) → Refuses e q (uri_part listed p)
no_escape_part errors.MEMORY listed p q h r = tt
no_escape_part (errors.OFFENCE problem) listed p q h r = escape_is_part listed p h ∙ rw r refl

pub at_uri : (listed : Bool) (p : Place) → (first p == 0x25) ≡ false → is_uri listed (first p) ≡ true → uri_part listed p ≡ part (first p ∷ []) (skip 1 p)
unfolding uri_part
at_uri listed p e h = rw (e, h) refl

pub at_over : (listed : Bool) (p : Place) → (first p == 0x25) ≡ false → is_uri listed (first p) ≡ false → uri_part listed p ≡ over
unfolding uri_part
at_over listed p e h = rw (e, h) refl

uri_there : (listed : Bool) (c : ℕ) → is_uri listed c ≡ true → 0 < c
uri_there listed c h = grind (arith, nat_tests)

-- each part takes a character or more
octet_no_longer : (p : Place) → Holds (λ (f : Found ℕ). length f.end.rest ≤ length p.rest) (λ x. Unit {0}) (octet p)
unfolding octet
octet_no_longer p = if_holds (is_octet p) (λ e. ok_holds (omega (arith, length_skip 3 p))) (λ e. refuse_holds tt)

next_no_longer : (n : ℕ) (p : Place) → Holds (λ (f : Found (List ℕ)). length f.end.rest ≤ length p.rest) (λ x. Unit {0}) (next_octets n p)
unfolding next_octets
next_no_longer zero p = ok_holds (omega arith)
next_no_longer (suc n) p =
    bind_holds (octet_no_longer p) (λ c a. if_holds (not (continues c.value)) (λ e. refuse_holds tt) (λ e. bind_holds (next_no_longer n c.end) (λ more b. ok_holds (omega (arith, a, b)))))

near_octet : (p : Place) → 0 < length p.rest → Nears p (octet p)
unfolding octet
near_octet p h = if_holds (is_octet p) (λ e. ok_holds (omega (arith, h, length_skip 3 p))) (λ e. refuse_holds tt)

near_escape : (p : Place) → 0 < length p.rest → Nears p (uri_escape p)
unfolding uri_escape
near_escape p h =
    bind_holds (near_octet p h) (λ lead a. if_holds (width_of lead.value == 0) (λ e. refuse_holds tt) (λ e. bind_holds (next_no_longer (width_of lead.value - 1) lead.end) (λ more b. ok_holds (omega (arith, a, b)))))

near_part : (listed : Bool) (p : Place) → PartNears p (uri_part listed p)
unfolding uri_part
near_part listed p =
    if_holds (first p == 0x25) (λ e. let there : 0 < length p.rest = is_there p 0 (grind (arith, nat_tests)) in bind_holds (near_escape p there) (λ r a. ok_holds a)) (λ e.
    if_holds (is_uri listed (first p)) (λ u. ok_holds (omega (arith, is_there p 0 (uri_there listed (first p) u), length_skip 1 p))) (λ u. ok_holds tt))

pub uri_shortens : (listed : Bool) → Shortens (uri_part listed)
uri_shortens listed p = nears_shorter p (uri_part listed p) (near_part listed p)

concat_joined : (r : Read (List (List ℕ))) → (r >>= λ parts. found (concat parts.value) parts.end) ≡ joined (λ cs. cs) r
concat_joined (Ok f) = ap (λ (bs : List ℕ). found bs f.end) (concat_is f.value)
concat_joined (Err e) = refl

pub uri_is : (listed : Bool) (p : Place) → uri listed p ≡ joined (λ cs. cs) (many (uri_part listed) p)
unfolding uri
uri_is listed p = concat_joined (many (uri_part listed) p)
