-- Quoted scalars are their parts.
use Rattle.std.proofs.Common.{◌≡◌, ℕ, Bool, true, false, not, ◌==◌, ◌&&◌, ◌||◌, if◌then◌else◌, List, [], ◌∷◌, Ok, Err, refl, sym, ap, ◌∙◌}
use Rattle.std.proofs.lemmas.Bool.{and_parts, eqb-true}
use Rattle.std.specs.List.{flat_map}
use Rattle.yaml_text.specs.Chars.{utf8}
use Rattle.yaml_text.specs.Classes.{is_break, is_z}
use Rattle.yaml_lexeme.specs.declared.problem.yaml_problem_t.TheVariants.{DOCUMENT_MARKER}
use Rattle.yaml_lexeme.specs.Classes.{is_white}
use Rattle.yaml_lexeme.specs.Escape.{backslash, escape}
use Rattle.yaml_lexeme.specs.Kind.{is_marker}
use Rattle.yaml_lexeme.specs.Parts.{Piece, values, IsLongest, QuotedParts, QuotedIsParts, QuotedIsRefused, QuotedPartsAreLongest}
use Rattle.yaml_lexeme.specs.Place.{Place, first, peek, skip, after_run}
use Rattle.yaml_lexeme.specs.Quoted.{quote, body_part, quoted}
use Rattle.yaml_lexeme.specs.Reading.{Offence, Found, Read, refuse, ◌>>=◌, Part, part, over, many}
use Rattle.yaml_lexeme.proofs.LongestLists.LongestParts.{many_longest, many_refused, found_of, refused_of, others_begin}
use Rattle.yaml_lexeme.proofs.Locality.QuotedLocality.{body_advances}
use Rattle.yaml_lexeme.proofs.Parts.ReadResults.{value_or, end_or, offence_or, both}
use Rattle.yaml_lexeme.proofs.Readers.QuotedBody.{finish, quoted_is}

-- quoted scalars
-- what is not over
other : (b : Bool) (x y : Part (List ℕ)) → (x ≡ over → ⊥) → (if b then x else y) ≡ over → y ≡ over
other true x y never h = absurd (never h)
other false x y never h = h

this : (b : Bool) (y : Part (List ℕ)) → (y ≡ over → ⊥) → (if b then over else y) ≡ over → b ≡ true
this true y never h = refl
this false y never h = absurd (never h)

no_unmarked : (b : Bool) (v : List ℕ) (q : Place) → (if b then refuse DOCUMENT_MARKER q else part v q) ≡ over → ⊥
no_unmarked true v q h = cc
no_unmarked false v q h = cc

no_escape : (r : Read ℕ) → (r >>= λ x. part (x.value ∷ []) x.end) ≡ over → ⊥
no_escape (Ok x) h = cc
no_escape (Err e) h = cc

closes : (single : Bool) (p : Place) → body_part single p ≡ over → first p ≡ quote single
unfolding body_part
closes single p h =
    let c = first p in
    let h1 = other (is_z c) _ _ (λ e. absurd cc) h in
    let h2 = other (is_white c) _ _ (no_unmarked (is_marker (after_run is_white p)) _ (after_run is_white p)) h1 in
    let closed = this (c == quote single && not (single && peek p 1 == c)) _ (λ r.
    let r1 = other (c == quote single) _ _ (λ e. absurd cc) r in
    let r2 = other (single || not (c == backslash)) _ _ (λ e. absurd cc) r1 in
    let r3 = other (is_break (peek p 1)) _ _ (λ e. no_unmarked _ _ _ e) r2 in
    no_escape (escape p) r3) h2 in
    eqb-true c (quote single) (and_parts (c == quote single) (not (single && peek p 1 == c)) closed).0

body_from : (single : Bool) (p : Place) (f : Found (List ℕ)) (r : Read (List (List ℕ))) → many (body_part single) (skip 1 p) ≡ r → finish r ≡ Ok f → QuotedParts single p f
body_from single p f (Ok b) e h =
    let l = many_longest (body_part single) (body_advances single) (skip 1 p) b e in
    record {
      parts = l.pieces;
      close = b.end;
      longest = l.is;
      closed = closes single b.end l.is.stops;
      value = sym (ap (value_or []) h) ∙ ap (λ (vs : List (List ℕ)). flat_map utf8 vs) l.values_are;
      end = sym (ap (end_or b.end) h);
    }
body_from single p f (Err o) e h = absurd cc

body_to : (single : Bool) (p : Place) (f : Found (List ℕ)) → QuotedParts single p f → quoted single p ≡ Ok f
body_to single p f q =
    quoted_is single p ∙ ap finish (found_of (body_part single) (body_advances single) (skip 1 p) q.parts q.close q.longest)
    ∙ both f (flat_map utf8 (values q.parts)) (skip 1 q.close) q.value q.end

pub quoted_parts : QuotedIsParts
quoted_parts single p f = (λ h. body_from single p f (many (body_part single) (skip 1 p)) refl (sym (quoted_is single p) ∙ h), body_to single p f)

abbrev BodyRefused : Bool → Place → Offence → Type 0
BodyRefused single p e = (parts : List (Piece (List ℕ))) × (q : Place) × IsLongest (body_part single) (skip 1 p) parts q (Err e)

refused_from : (single : Bool) (p : Place) (e : Offence) (r : Read (List (List ℕ))) → many (body_part single) (skip 1 p) ≡ r → finish r ≡ Err e → BodyRefused single p e
refused_from single p e (Ok b) is h = absurd cc
refused_from single p e (Err o) is h = many_refused (body_part single) (body_advances single) (skip 1 p) e (is ∙ ap (λ (x : Offence). Err x) (ap (offence_or o) h))

pub quoted_refused : QuotedIsRefused
quoted_refused single p e = (
  λ h. refused_from single p e (many (body_part single) (skip 1 p)) refl (sym (quoted_is single p) ∙ h),
  λ r. quoted_is single p ∙ ap finish (refused_of (body_part single) (body_advances single) (skip 1 p) r.0 r.1 e r.2),
)

pub quoted_longest : QuotedPartsAreLongest
quoted_longest single = others_begin (body_part single)
