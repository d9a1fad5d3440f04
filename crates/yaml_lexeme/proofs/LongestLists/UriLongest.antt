-- Uris are the longest lists of characters and escapes.
use Rattle.std.proofs.Common.{◌≡◌, ℕ, Bool, List, Ok, Err, refl, sym, ap, ◌∙◌, subst}
use Rattle.std.specs.List.{concat}
use Rattle.yaml_lexeme.proofs.LongestLists.LongestParts.{many_longest, many_refused, found_of, refused_of, others_begin}
use Rattle.yaml_lexeme.proofs.Locality.UriLocality.{uri_advances}
use Rattle.yaml_lexeme.proofs.Parts.ReadResults.{value_or, end_or, offence_or, both}
use Rattle.yaml_lexeme.specs.Parts.{Piece, values, IsLongest, UriParts, UriIsParts, UriIsRefused, UriPartsAreLongest}
use Rattle.yaml_lexeme.specs.Place.{Place}
use Rattle.yaml_lexeme.specs.Reading.{Offence, Found, Read, found, ◌>>=◌, over, many}
use Rattle.yaml_lexeme.specs.Uri.{uri_part, uri}

-- uris
abbrev concat_of : Read (List (List ℕ)) → Read (List ℕ)
concat_of r = r >>= λ parts. found (concat parts.value) parts.end

uri_is : (listed : Bool) (p : Place) → uri listed p ≡ concat_of (many (uri_part listed) p)
unfolding uri
uri_is listed p = refl

uri_from : (listed : Bool) (p : Place) (f : Found (List ℕ)) (r : Read (List (List ℕ))) → many (uri_part listed) p ≡ r → concat_of r ≡ Ok f → UriParts listed p f
uri_from listed p f (Ok b) e h =
    let l = many_longest (uri_part listed) (uri_advances listed) p b e in
    record {
      parts = l.pieces;
      longest = subst (λ (x : Place). IsLongest (uri_part listed) p l.pieces x over) (ap (end_or b.end) h) l.is;
      value = sym (ap (value_or (concat b.value)) h) ∙ ap (λ (vs : List (List ℕ)). concat vs) l.values_are;
    }
uri_from listed p f (Err o) e h = absurd cc

uri_to : (listed : Bool) (p : Place) (f : Found (List ℕ)) → UriParts listed p f → uri listed p ≡ Ok f
uri_to listed p f q =
    uri_is listed p ∙ ap concat_of (found_of (uri_part listed) (uri_advances listed) p q.parts f.end q.longest) ∙ both f (concat (values q.parts)) f.end q.value refl

pub uri_parts : UriIsParts
uri_parts listed p f = (λ h. uri_from listed p f (many (uri_part listed) p) refl (sym (uri_is listed p) ∙ h), uri_to listed p f)

abbrev UriRefused : Bool → Place → Offence → Type 0
UriRefused listed p e = (parts : List (Piece (List ℕ))) × (q : Place) × IsLongest (uri_part listed) p parts q (Err e)

uri_refused_from : (listed : Bool) (p : Place) (e : Offence) (r : Read (List (List ℕ))) → many (uri_part listed) p ≡ r → concat_of r ≡ Err e → UriRefused listed p e
uri_refused_from listed p e (Ok b) is h = absurd cc
uri_refused_from listed p e (Err o) is h = many_refused (uri_part listed) (uri_advances listed) p e (is ∙ ap (λ (x : Offence). Err x) (ap (offence_or o) h))

pub uri_refused : UriIsRefused
uri_refused listed p e = (
  λ h. uri_refused_from listed p e (many (uri_part listed) p) refl (sym (uri_is listed p) ∙ h),
  λ r. uri_is listed p ∙ ap concat_of (refused_of (uri_part listed) (uri_advances listed) p r.0 r.1 e r.2),
)

pub uri_longest : UriPartsAreLongest
uri_longest listed = others_begin (uri_part listed)
