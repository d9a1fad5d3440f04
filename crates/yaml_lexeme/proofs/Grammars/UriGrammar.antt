-- A uri of an octet or more is its parts.
use Rattle.std.proofs.Common.{◌≡◌, ℕ, ◌<◌, Bool, true, false, ◌==◌, inl, inr, if◌then◌else◌, List, [], ◌∷◌, length, Some, None, Ok, Err, refl, sym, ap, ◌∙◌, subst, arith, length-append}
use Rattle.std.specs.List.{concat}
use Rattle.std.proofs.lemmas.Bool.{eqb-true, ne_eqb}
use Rattle.yaml_lexeme.specs.declared.problem.yaml_problem_t.TheVariants.{NO_URI}
use Rattle.yaml_lexeme.specs.Grammar.{SomeUriRefused}
use Rattle.yaml_lexeme.specs.Parts.{Piece, Pieces, values, UriParts}
use Rattle.yaml_lexeme.specs.Place.{Place, first, skip}
use Rattle.yaml_lexeme.specs.Reading.{Offence, Found, Read, found, refuse, ◌>>=◌, Part, part, over, go_on, many}
use Rattle.yaml_lexeme.specs.Uri.{is_uri, octet, uri_escape, uri_part, uri, some_uri}
use Rattle.yaml_lexeme.proofs.Grammars.ReadingSteps.{left, steps, stops, then_second, first_refused, unless_passed, unless_failed, offence_is}
use Rattle.yaml_lexeme.proofs.LongestLists.UriLongest.{uri_parts, uri_refused}
use Rattle.yaml_lexeme.proofs.Parts.PartByPart.{many_turn}
use Rattle.yaml_lexeme.proofs.Readers.UriOctets.{uri_shortens}
use Rattle.yaml_text.specs.Utf8.{width_of}

abbrev if_some : Found (List ℕ) → Read (List ℕ)
if_some r = if length r.value == 0 then refuse NO_URI r.end else found r.value r.end

some_is : (listed : Bool) (p : Place) → some_uri listed p ≡ uri listed p >>= if_some
unfolding some_uri
some_is listed p = refl

-- a uri that has an octet
pub some_from : (listed : Bool) (p : Place) (f : Found (List ℕ)) → some_uri listed p ≡ Ok f → UriParts listed p f × (0 < length f.value)
some_from listed p f h =
    let s = steps (uri listed p) if_some f (sym (some_is listed p) ∙ h) in
    let t = unless_passed (length s.0.value == 0) s.0 f _ s.2 in
    let same : s.0 ≡ f = sym t.1 in
    let parts = (uri_parts listed p f).0 (s.1 ∙ ap (λ (x : Found (List ℕ)). Ok x) same) in
    let some : length f.value ≡ 0 → ⊥ = λ e. (let z = subst (λ (x : Found (List ℕ)). (length x.value == 0) ≡ false) same t.0 in let y : (length f.value == 0) ≡ true = rw e refl in cc) in
    (parts, omega (arith, some))

pub some_to : (listed : Bool) (p : Place) (f : Found (List ℕ)) → UriParts listed p f → 0 < length f.value → some_uri listed p ≡ Ok f
some_to listed p f u some =
    let test : (length f.value == 0) ≡ false = ne_eqb (length f.value) 0 (λ e. absurd (omega (arith, e))) in
    some_is listed p ∙ then_second (uri listed p) if_some f (Ok f) ((uri_parts listed p f).1 u) (left (length f.value == 0) _ _ test)

-- each part has an octet
abbrev HasOctet : Part (List ℕ) → Type 0
HasOctet (Ok (Some f)) = 0 < length f.value
HasOctet (Ok None) = Unit {0}
HasOctet (Err e) = Unit {0}

escape_some : (p : Place) (f : Found (List ℕ)) → uri_escape p ≡ Ok f → 0 < length f.value
unfolding uri_escape
escape_some p f h =
    let s = steps (octet p) _ f h in
    let later : (b : Bool) (r : Read (List ℕ)) (o : Offence) → (if b then Err o else r >>= λ more. found (s.0.value ∷ more.value) more.end) ≡ Ok f → 0 < length f.value = λ b r o. later_some b s.0.value r o f in
    later (width_of s.0.value == 0) _ _ s.2
  where
    later_some : (b : Bool) (c : ℕ) (r : Read (List ℕ)) (o : Offence) (f : Found (List ℕ)) → (if b then Err o else r >>= λ more. found (c ∷ more.value) more.end) ≡ Ok f → 0 < length f.value
    later_some true c r o f h = absurd cc
    later_some false c (Ok more) o f h = let v : f.value ≡ c ∷ more.value = cc in subst (λ (cs : List ℕ). 0 < length cs) (sym v) (omega arith)
    later_some false c (Err e) o f h = absurd cc

as_part : (r : Read (List ℕ)) → ((f : Found (List ℕ)) → r ≡ Ok f → 0 < length f.value) → HasOctet (r >>= λ x. part x.value x.end)
as_part (Ok x) some = some x refl
as_part (Err e) some = tt

part_if : (b : Bool) (x y : Part (List ℕ)) → HasOctet x → HasOctet y → HasOctet (if b then x else y)
part_if true x y a b = a
part_if false x y a b = b

part_some : (listed : Bool) (p : Place) → HasOctet (uri_part listed p)
unfolding uri_part
part_some listed p =
    part_if (first p == 0x25) _ _ (as_part (uri_escape p) (escape_some p)) (part_if (is_uri listed (first p)) (part (first p ∷ []) (skip 1 p)) over (omega arith) tt)

-- so parts with no octet are none
no_parts : (listed : Bool) (p q : Place) (ts : List (Piece (List ℕ))) → Pieces (uri_part listed) p ts q → length (concat (values ts)) ≡ 0 → q ≡ p
no_parts listed p q [] h e = h
no_parts listed p q (t ∷ ts) h e =
    let some : 0 < length t.value = subst HasOctet h.0.read (part_some listed p) in
    absurd (omega (arith, some, e, length-append t.value (concat (values ts))))

some_refused_from : (listed : Bool) (p : Place) (e : Offence) → some_uri listed p ≡ Err e → SomeUriRefused listed p e
some_refused_from listed p e h = elim (stops (uri listed p) if_some e (sym (some_is listed p) ∙ h)) [
  | inl bad ↦ inl ((uri_refused listed p e).0 bad)
  | inr s ↦
      let t = unless_failed (length s.0.value == 0) s.0 _ e s.2 in
      let u = (uri_parts listed p s.0).0 s.1 in
      let none : length (concat (values u.parts)) ≡ 0 = ap (λ (cs : List ℕ). length cs) (sym u.value) ∙ eqb-true (length s.0.value) 0 t.0 in
      let here : s.0.end ≡ p = no_parts listed p s.0.end u.parts u.longest.pieces none in
      inr (record {
        none = subst (λ (x : Place). uri_part listed x ≡ over) here u.longest.stops;
        at = ap (λ (o : Offence). o.at) t.1 ∙ here;
        problem = ap (λ (o : Offence). o.problem) t.1;
      })
]

none_is : (listed : Bool) (p : Place) → uri_part listed p ≡ over → uri listed p ≡ found [] p
unfolding uri
none_is listed p h =
    let nothing : many (uri_part listed) p ≡ found [] p = many_turn (uri_part listed) (uri_shortens listed) p ∙ ap (λ (r : Part (List ℕ)). r >>= λ a. go_on (many (uri_part listed)) p a) h in
    ap (λ (r : Read (List (List ℕ))). r >>= λ parts. found (concat parts.value) parts.end) nothing

some_refused_to : (listed : Bool) (p : Place) (e : Offence) → SomeUriRefused listed p e → some_uri listed p ≡ Err e
some_refused_to listed p e (inl r) = some_is listed p ∙ first_refused (uri listed p) if_some e ((uri_refused listed p e).1 r)
some_refused_to listed p e (inr n) =
    some_is listed p ∙ then_second (uri listed p) if_some (record { value = []; end = p }) (Err e) (none_is listed p n.none) (offence_is e NO_URI p n.problem n.at)

-- a uri of an octet or more that is refused
pub some_refused : (listed : Bool) (p : Place) (e : Offence) → (some_uri listed p ≡ Err e → SomeUriRefused listed p e) × (SomeUriRefused listed p e → some_uri listed p ≡ Err e)
some_refused listed p e = (some_refused_from listed p e, some_refused_to listed p e)
