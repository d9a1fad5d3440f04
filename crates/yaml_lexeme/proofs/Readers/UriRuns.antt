-- A run of characters of a uri is many parts of it at once.
use Rattle.std.proofs.Common.{◌≡◌, ℕ, zero, suc, ◌+◌, ◌<◌, ◌≤◌, Bool, true, false, ◌==◌, List, [], ◌∷◌, ◌++◌, length, take, drop, get_or, refl, sym, ap, ◌∙◌, subst, arith, append_assoc, inl, inr}
use Rattle.std.proofs.lemmas.Bool.{cases_Bool}
use Rattle.std.proofs.lemmas.Bool.Decides.{nat_tests}
use Rattle.std.proofs.lemmas.List.{append-nil}
use Rattle.std.specs.List.{prefix_len}
use Rattle.yaml_lexeme.proofs.Parts.PartByPart.{Reading, reads_more, reads_all, reads_none, joined, begins, over_taken}
use Rattle.yaml_lexeme.proofs.Places.PlaceMoves.{after_none, after_run_more, first_on, length_one, length_skip, rest_skip}
use Rattle.yaml_lexeme.proofs.Readers.UriOctets.{at_uri, at_over, escape_part, no_escape_part, uri_is, uri_shortens}
use Rattle.yaml_lexeme.specs.declared.problem.yaml_refusal_t.{yaml_refusal_t}
use Rattle.yaml_lexeme.specs.inside.Gives.{TakesPart, TakesRead, Refuses}
use Rattle.yaml_lexeme.specs.Place.{Place, first, skip, run, run_len, after_run}
use Rattle.yaml_lexeme.specs.Reading.{Read, Part, found, many, with_front, part}
use Rattle.yaml_lexeme.specs.Uri.{is_uri, uri_escape, uri_part, uri}
use Rattle.yaml_text.specs.Classes.{is_alpha}

abbrev Bytes : Bool → Place → List ℕ → Read (List ℕ) → Type 0
Bytes listed p out whole = Reading (λ cs. cs) (uri_part listed) p out whole

no_percent : (listed : Bool) (c : ℕ) → is_uri listed c ≡ true → (c == 0x25) ≡ false
no_percent true c h = grind (arith, nat_tests)
no_percent false c h = grind (arith, nat_tests)

none_at_end : (listed : Bool) → is_uri listed 0 ≡ false
none_at_end true = refl
none_at_end false = refl

run_first : (test : ℕ → Bool) (cs : List ℕ) → 0 < length cs → test (get_or cs 0 0) ≡ true → take (prefix_len test cs) cs ≡ get_or cs 0 0 ∷ take (prefix_len test (drop 1 cs)) (drop 1 cs)
run_first test [] l h = absurd (omega arith)
run_first test (c ∷ cs) l h =
    let t : test c ≡ true = h in
    let k : 1 + prefix_len test cs ≡ suc (prefix_len test cs) = omega arith in
    rw (t, k) refl

run_none : (test : ℕ → Bool) (cs : List ℕ) → test (get_or cs 0 0) ≡ false → take (prefix_len test cs) cs ≡ []
run_none test [] h = refl
run_none test (c ∷ cs) h = let t : test c ≡ false = h in rw t refl

run_more : (test : ℕ → Bool) (p : Place) → 0 < length p.rest → test (first p) ≡ true → run test p ≡ first p ∷ run test (skip 1 p)
run_more test p l h = run_first test p.rest l h ∙ ap (λ (x : List ℕ). first p ∷ take (prefix_len test x) x) (sym (rest_skip 1 p))

takes_one : (read : Part (List ℕ)) (value old : List ℕ) (p q : Place) → read ≡ part value q → TakesPart (λ cs. cs) read true old (old ++ value) p q
takes_one read value old p q e = rw e (refl, refl)

module _ (listed : Bool) (test : ℕ → Bool) (sub : (c : ℕ) → test c ≡ true → is_uri listed c ≡ true) (none : test 0 ≡ false) where
  stay : (p : Place) (out : List ℕ) (whole : Read (List ℕ)) → test (first p) ≡ false → Bytes listed p out whole → Bytes listed (after_run test p) (out ++ run test p) whole
  stay p out whole f r =
      let bytes : out ≡ out ++ run test p = sym (append-nil out) ∙ ap (λ (x : List ℕ). out ++ x) (sym (run_none test p.rest f)) in
      subst (λ (x : Place). Bytes listed x (out ++ run test p) whole) (sym (after_none test p f)) (subst (λ (x : List ℕ). Bytes listed p x whole) bytes r)

  -- The characters of a run may be appended as one piece.
  run_over : (fuel : ℕ) (p : Place) (out : List ℕ) (whole : Read (List ℕ)) → length p.rest ≤ fuel → Bytes listed p out whole → Bytes listed (after_run test p) (out ++ run test p) whole
  run_over zero p out whole le r =
      elim (cases_Bool (test (first p))) [
        | inl t ↦ let a = after_run_more test p t none in absurd (omega (arith, le, a.0))
        | inr f ↦ stay p out whole f r
      ]
  run_over (suc n) p out whole le r =
      elim (cases_Bool (test (first p))) [
        | inl t ↦
            let a = after_run_more test p t none in
            let u = sub (first p) t in
            let e : uri_part listed p ≡ part (first p ∷ []) (skip 1 p) = at_uri listed p (no_percent listed (first p) u) u in
            let next = (reads_more (λ cs. cs) (uri_part listed) (uri_shortens listed) p (skip 1 p) out (out ++ first p ∷ []) whole (takes_one (uri_part listed p) (first p ∷ []) out p (skip 1 p) e) r).1 in
            let rest = run_over n (skip 1 p) (out ++ first p ∷ []) whole (omega (arith, le, a.0, length_one p)) next in
            let bytes : (out ++ first p ∷ []) ++ run test (skip 1 p) ≡ out ++ run test p =
            append_assoc out (first p ∷ []) (run test (skip 1 p)) ∙ ap (λ (x : List ℕ). out ++ x) (sym (run_more test p a.0 t)) in
            subst (λ (x : Place). Bytes listed x (out ++ run test p) whole) (sym a.1) (subst (λ (x : List ℕ). Bytes listed (after_run test (skip 1 p)) x whole) bytes rest)
        | inr f ↦ stay p out whole f r
      ]

  -- a uri is its first run, and the uri after that
  from_run : (p : Place) → uri listed p ≡ with_front (run test p) (uri listed (after_run test p))
  from_run p =
      let whole = joined (λ cs. cs) (many (uri_part listed) p) in
      let r = run_over (length p.rest) p [] whole (omega arith) (begins (λ cs. cs) (uri_part listed) p) in
      uri_is listed p ∙ sym r ∙ ap (with_front (run test p)) (sym (uri_is listed (after_run test p)))

itself : (listed : Bool) (c : ℕ) → is_uri listed c ≡ true → is_uri listed c ≡ true
itself listed c h = h

alpha_uri : (c : ℕ) → is_alpha c ≡ true → is_uri false c ≡ true
alpha_uri c h = grind (arith, nat_tests)

-- a uri is its first letters, and the uri after them
pub from_letters : (p : Place) → uri false p ≡ with_front (run is_alpha p) (uri false (after_run is_alpha p))
from_letters p = from_run false is_alpha alpha_uri refl p

-- a run was appended to `out`
pushed_over : (listed : Bool) (p q : Place) (out new : List ℕ) (whole : Read (List ℕ)) → new ≡ out ++ run (is_uri listed) p → q ≡ after_run (is_uri listed) p
    → Bytes listed p out whole → Bytes listed q new whole
pushed_over listed p q out new whole n e r =
    subst (λ (x : Place). Bytes listed x new whole) (sym e) (subst (λ (x : List ℕ). Bytes listed (after_run (is_uri listed) p) x whole) (sym n) (run_over listed (is_uri listed) (itself listed) (none_at_end listed) (length p.rest) p out whole (omega arith) r))

pushed_shorter : (listed : Bool) (p q : Place) → q ≡ after_run (is_uri listed) p → length q.rest ≤ length p.rest
pushed_shorter listed p q e = omega (arith, ap (λ (x : Place). length x.rest) e, length_skip (run_len (is_uri listed) p) p)

-- a uri is its first run, and the uri after that
pub uri_from : (listed : Bool) (p q : Place) (front : List ℕ) → front ≡ run (is_uri listed) p → q ≡ after_run (is_uri listed) p → uri listed p ≡ with_front front (uri listed q)
uri_from listed p q front f e =
    from_run listed (is_uri listed) (itself listed) (none_at_end listed) p ∙ (λ i. with_front (sym f i) (uri listed (sym e i)))

stops : (test : ℕ → Bool) (cs : List ℕ) → test 0 ≡ false → test (get_or cs (prefix_len test cs) 0) ≡ false
stops test [] z = z
stops test (c ∷ cs) z =
    elim (cases_Bool (test c)) [
      | inl t ↦ let k : 1 + prefix_len test cs ≡ suc (prefix_len test cs) = omega arith in rw (t, k) (stops test cs z)
      | inr f ↦ rw f f
    ]

after_test : (test : ℕ → Bool) (p : Place) → test 0 ≡ false → test (first (after_run test p)) ≡ false
after_test test p z = ap test (first_on (prefix_len test p.rest) p) ∙ stops test p.rest z

-- no character of a uri is after a run
run_ends : (listed : Bool) (p q : Place) → q ≡ after_run (is_uri listed) p → is_uri listed (first q) ≡ false
run_ends listed p q e = ap (λ (x : Place). is_uri listed (first x)) e ∙ after_test (is_uri listed) p (none_at_end listed)

percent_stops : (listed : Bool) (c : ℕ) → c ≡ 0x25 → is_uri listed c ≡ false
percent_stops true c h = rw h refl
percent_stops false c h = rw h refl

-- no run is before an escape
pub no_run : (listed : Bool) (p : Place) → first p ≡ 0x25 → p ≡ after_run (is_uri listed) p
no_run listed p h = sym (after_none (is_uri listed) p (percent_stops listed (first p) h))

-- Escapes are being read, and the run after each: the bytes so far, and what they make with what is still to be read.
pub record Escapes (listed : Bool) (p : Place) (out : List ℕ) (whole : Read (List ℕ)) : Type 0 where
  pub reads : Bytes listed p out whole
  pub stops : is_uri listed (first p) ≡ false

pub escapes_begin : (listed : Bool) (p : Place) (piece : List ℕ) → first p ≡ 0x25 → Escapes listed p piece (with_front piece (uri listed p))
escapes_begin listed p piece h = record { reads = ap (with_front piece) (sym (uri_is listed p)); stops = percent_stops listed (first p) h }

-- one more escape was read, and the run after it
pub escapes_more : (listed : Bool) (p q r : Place) (out mid new : List ℕ) (whole : Read (List ℕ)) → first p ≡ 0x25 → TakesRead (λ cs. cs) (uri_escape p) out mid q
    → new ≡ mid ++ run (is_uri listed) q → r ≡ after_run (is_uri listed) q → Escapes listed p out whole → (length r.rest < length p.rest) × Escapes listed r new whole
escapes_more listed p q r out mid new whole h took n e so_far =
    let more = reads_more (λ cs. cs) (uri_part listed) (uri_shortens listed) p q out mid whole (escape_part listed p q out mid h took) so_far.reads in
    let shorter : length r.rest < length p.rest = omega (arith, more.0, pushed_shorter listed q r e) in
    (shorter, record { reads = pushed_over listed q r mid new whole n e more.1; stops = run_ends listed q r e })

-- an escape could not be read
pub escapes_none : (error : yaml_refusal_t) (listed : Bool) (p q : Place) (out : List ℕ) (whole : Read (List ℕ)) → first p ≡ 0x25 → Refuses error q (uri_escape p) → Escapes listed p out whole → Refuses error q whole
escapes_none error listed p q out whole h none so_far =
    reads_none (λ cs. cs) (uri_part listed) (uri_shortens listed) error p q out whole (no_escape_part error listed p q h none) so_far.reads

-- the uri is over where no escape is
pub escapes_all : (listed : Bool) (p : Place) (out : List ℕ) (whole : Read (List ℕ)) → (first p == 0x25) ≡ false → Escapes listed p out whole → whole ≡ found out p
escapes_all listed p out whole h so_far =
    reads_all (λ cs. cs) (uri_part listed) (uri_shortens listed) p p out out whole (over_taken (λ cs. cs) (uri_part listed p) out p (at_over listed p h so_far.stops)) so_far.reads

-- a uri without an escape is its first run
pub uri_plain : (listed : Bool) (p q : Place) (front : List ℕ) → front ≡ run (is_uri listed) p → q ≡ after_run (is_uri listed) p → (first q == 0x25) ≡ false → uri listed p ≡ found front q
uri_plain listed p q front f e n =
    uri_from listed p q front f e ∙ escapes_all listed q front (with_front front (uri listed q)) n (record { reads = ap (with_front front) (sym (uri_is listed q)); stops = run_ends listed p q e })
