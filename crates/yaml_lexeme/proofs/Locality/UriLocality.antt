-- Octets, escapes and uris are good.
use Rattle.std.proofs.Common.{◌≡◌, ℕ, zero, suc, ◌-◌, ◌≤◌, Bool, ◌==◌, if◌then◌else◌, inl, inr, List, [], ◌∷◌, length}
use Rattle.std.proofs.Common.{◌&&◌, true, false, refl, sym, ap, arith, not}
use Rattle.std.proofs.lemmas.Bool.{cases_Bool, and_parts}
use Rattle.std.specs.List.{concat}
use Rattle.yaml_lexeme.proofs.CountedMarks.WholePlaces.{parts, whole_after, other}
use Rattle.yaml_lexeme.proofs.Locality.ComposedReaders.{IsLike, like_found, found_here, refuse_here, like_case, like_if, like_on, like_bind, like_same, like_map}
use Rattle.yaml_lexeme.proofs.Locality.LookaheadLists.{Next, go, stop, join, many_like, Joins, part_clear, advances, join_if, join_part}
use Rattle.yaml_lexeme.proofs.MarkOrder.ReadingAhead.{PartAhead}
use Rattle.yaml_lexeme.proofs.Readers.UriOctets.{uri_shortens}
use Rattle.yaml_lexeme.proofs.Locality.AgreeingPlaces.{Agree}
use Rattle.yaml_lexeme.specs.Place.{Place, first, peek, skip}
use Rattle.yaml_lexeme.specs.Reading.{Read, found, refuse, ◌>>=◌, with_front}
use Rattle.yaml_lexeme.specs.Uri.{is_octet, octet_value, octet, next_octets, is_uri, uri_escape, uri_part, uri}
use Rattle.yaml_lexeme.specs.Uri.{some_uri}
use Rattle.yaml_lexeme.specs.declared.problem.yaml_problem_t.TheVariants.{NO_OCTET, BAD_NEXT_OCTET, BAD_LEAD_OCTET}
use Rattle.yaml_text.specs.Classes.{is_hex}
use Rattle.yaml_text.specs.Utf8.{width_of, continues}

next_by : (n : ℕ) (p : Place) → next_octets (suc n) p ≡ (if is_octet p then (if not (continues (octet_value p)) then refuse BAD_NEXT_OCTET p else with_front (octet_value p ∷ []) (next_octets n (skip 3 p))) else refuse NO_OCTET p)
unfolding next_octets octet
next_by n p = elim (cases_Bool (is_octet p)) [ inl e ↦ rw e refl | inr e ↦ rw e refl ]

escape_by : (p : Place) → uri_escape p ≡ (if is_octet p then (if width_of (octet_value p) == 0 then refuse BAD_LEAD_OCTET p else with_front (octet_value p ∷ []) (next_octets (width_of (octet_value p) - 1) (skip 3 p))) else refuse NO_OCTET p)
unfolding uri_escape octet
escape_by p = elim (cases_Bool (is_octet p)) [ inl e ↦ rw e refl | inr e ↦ rw e refl ]

value_same : (n : ℕ) (p q : Place) → Agree n p q → 8 ≤ n → octet_value q ≡ octet_value p
value_same n p q a h = rw (a.same 1 (omega arith), a.same 2 (omega arith)) refl

octet_same : (n : ℕ) (p q : Place) → Agree n p q → 8 ≤ n → is_octet q ≡ is_octet p
octet_same n p q a h = rw (a.same 0 (omega arith), a.same 1 (omega arith), a.same 2 (omega arith)) refl

three : (a b c : Bool) → (a && (b && c)) ≡ true → c ≡ true
three a b c h = (and_parts b c (and_parts a (b && c) h).1).1

octet_whole : (p : Place) → is_octet p ≡ true → parts p.rest 3 ≡ false
octet_whole p e = whole_after 2 p (other is_hex refl (peek p 2) (three (first p == 0x25) (is_hex (peek p 1)) (is_hex (peek p 2)) e))

next_like : (k : ℕ) → IsLike (next_octets k)
unfolding next_octets
next_like zero n p q a = found_here
next_like (suc k) n p q a =
    rw (next_by k p, next_by k q) (like_case (is_octet p) (is_octet q) (octet_same n p q a) (λ e.
    like_if (not (continues (octet_value p))) (not (continues (octet_value q))) (λ h. ap (λ (v : ℕ). not (continues v)) (value_same n p q a h)) refuse_here
    (like_same (λ h. ap (λ (v : ℕ). with_front (v ∷ []) (next_octets k (skip 3 q))) (value_same n p q a h))
    (like_map (λ (vs : List ℕ). octet_value p ∷ vs) (like_on (next_octets k) (next_like k) n 3 p q a (octet_whole p e))))) (λ e. refuse_here))

escape_like : IsLike uri_escape
escape_like n p q a =
    let m = width_of (octet_value p) - 1 in
    rw (escape_by p, escape_by q) (like_case (is_octet p) (is_octet q) (octet_same n p q a) (λ e.
    like_if (width_of (octet_value p) == 0) (width_of (octet_value q) == 0) (λ h. ap (λ (v : ℕ). width_of v == 0) (value_same n p q a h)) refuse_here
    (like_same (λ h. ap (λ (v : ℕ). with_front (v ∷ []) (next_octets (width_of v - 1) (skip 3 q))) (value_same n p q a h))
    (like_map (λ (vs : List ℕ). octet_value p ∷ vs) (like_on (next_octets m) (next_like m) n 3 p q a (octet_whole p e))))) (λ e. refuse_here))

no_return : (listed : Bool) → is_uri listed 0x0D ≡ false
no_return true = refl
no_return false = refl

abbrev turn : Bool → Place → Read (Next (List ℕ) (Unit {0}))
turn listed p =
    if first p == 0x25 then (uri_escape p >>= λ r. found (go r.value) r.end)
    else if is_uri listed (first p) then found (go (first p ∷ [])) (skip 1 p)
    else found (stop tt) p

turn_like : (listed : Bool) → IsLike (turn listed)
turn_like listed n p q a =
    like_if (first p == 0x25) (first q == 0x25) (λ h. rw (a.same 0 (omega arith)) refl) (like_map (λ (v : List ℕ). go v) (escape_like n p q a))
    (like_case (is_uri listed (first p)) (is_uri listed (first q)) (λ h. rw (a.same 0 (omega arith)) refl)
    (λ e. like_found 1 refl (whole_after 0 p (other (is_uri listed) (no_return listed) (first p) e)) (λ h. refl) (λ h. ap (λ (c : ℕ). go (c ∷ [])) (sym (a.same 0 (omega arith))))) (λ e. found_here))

turn_joins : (listed : Bool) (p : Place) → Joins (turn listed p) (uri_part listed p) (found tt p)
unfolding uri_part
turn_joins listed p = join_if (first p == 0x25) (λ e. join_part (λ (v : List ℕ). v) (uri_escape p) (found tt p)) (λ e. join_if (is_uri listed (first p)) (λ u. record { joined = refl }) (λ u. record { joined = refl }))

turn_is : (listed : Bool) (p : Place) → turn listed p ≡ join (uri_part listed p) (found tt p)
turn_is listed p = (turn_joins listed p).joined

pub uri_advances : (listed : Bool) (p : Place) → PartAhead 1 p (uri_part listed p)
uri_advances listed p = advances p (uri_part listed p) (part_clear (uri_part listed) (λ x. found tt x) (turn listed) (turn_is listed) (turn_like listed) p) (uri_shortens listed p)

pub uri_like : (listed : Bool) → IsLike (uri listed)
unfolding uri
uri_like listed n p q a = like_map concat (many_like (uri_part listed) (turn listed) (uri_shortens listed) (turn_is listed) (turn_like listed) n p q a)

pub some_like : (listed : Bool) → IsLike (some_uri listed)
unfolding some_uri
some_like listed n p q a = like_bind _ _ a (uri_like listed n p q a) (λ x z m b. like_if (length x.value == 0) (length x.value == 0) (λ h. refl) refuse_here found_here)
