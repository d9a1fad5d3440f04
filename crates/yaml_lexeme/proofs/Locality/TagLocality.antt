-- Tags are good.
use Rattle.std.proofs.Common.{◌≡◌, ℕ, Bool, true, false, ◌==◌, ◌&&◌, ◌||◌, if◌then◌else◌, List, ◌++◌, codes, refl, arith}
use Rattle.yaml_lexeme.proofs.CountedMarks.WholePlaces.{whole_after, sure_alpha, is_not}
use Rattle.yaml_lexeme.proofs.Locality.AgreeingPlaces.{Agree}
use Rattle.yaml_lexeme.proofs.Locality.ComposedReaders.{Like, IsLike, found_here, refuse_here, found_on, like_case, like_if, like_on, like_bind, like_run, like_map, Good}
use Rattle.yaml_lexeme.specs.Classes.{ends}
use Rattle.yaml_lexeme.specs.Place.{Place, first, skip}
use Rattle.yaml_lexeme.specs.Reading.{Read, found, refuse, ◌>>=◌}
use Rattle.yaml_lexeme.specs.Tag.{lone, angled, handled, tag}
use Rattle.yaml_lexeme.specs.Uri.{uri, some_uri}
use Rattle.yaml_lexeme.specs.declared.problem.yaml_problem_t.TheVariants.{NO_BLANK_OR_BREAK}
use Rattle.yaml_text.specs.Classes.{is_alpha}
use Rattle.yaml_text.specs.Token.{TokenData}
use Rattle.yaml_text.specs.Token.TokenData.{TAG}
use Rattle.yaml_lexeme.proofs.Locality.UriLocality.{uri_like, some_like}

angled_like : (n : ℕ) (p q : Place) → (first p == 0x0D) ≡ false → Agree n p q → Like n p q (angled p) (angled q)
unfolding angled
angled_like n p q h a =
    like_bind _ _ a (like_on (some_uri true) (some_like true) n 1 p q a (whole_after 0 p h)) (λ x z m b.
    like_case (first x.end == 0x3E) (first z == 0x3E) (λ h. rw (b.same 0 (omega arith)) refl) (λ e. found_on 1 (whole_after 0 x.end (is_not (first x.end) 0x3E refl e))) (λ e. refuse_here))

abbrev handle_then : List ℕ → Place → Read TokenData
handle_then letters end =
    if first end == 0x21 then (some_uri false (skip 1 end) >>= λ r. found (TAG (codes "!" ++ letters ++ codes "!") r.value) r.end)
    else uri false end >>= λ r. found (lone (letters ++ r.value)) r.end

handle_like : (letters : List ℕ) → IsLike (handle_then letters)
handle_like letters n p q a =
    like_case (first p == 0x21) (first q == 0x21) (λ h. rw (a.same 0 (omega arith)) refl)
    (λ e. like_map (λ (v : List ℕ). TAG (codes "!" ++ letters ++ codes "!") v) (like_on (some_uri false) (some_like false) n 1 p q a (whole_after 0 p (is_not (first p) 0x21 refl e))))
    (λ e. like_map (λ (v : List ℕ). lone (letters ++ v)) (uri_like false n p q a))

handled_like : IsLike handled
unfolding handled
handled_like n p q a = like_run handle_then handle_like is_alpha sure_alpha n p q a

abbrev tag_then : Bool → Place → Read TokenData
tag_then flow p = (if first p == 0x3C then angled p else handled p) >>= λ t. if ends (first t.end) || (flow && first t.end == 0x2C) then found t.value t.end else refuse NO_BLANK_OR_BREAK t.end

then_like : (flow : Bool) → IsLike (tag_then flow)
then_like flow n p q a =
    like_bind _ _ a (like_case (first p == 0x3C) (first q == 0x3C) (λ h. rw (a.same 0 (omega arith)) refl) (λ e. angled_like n p q (is_not (first p) 0x3C refl e) a) (λ e. handled_like n p q a)) (λ x z m b.
    like_if (ends (first x.end) || (flow && first x.end == 0x2C)) (ends (first z) || (flow && first z == 0x2C)) (λ h. rw (b.same 0 (omega arith)) refl) found_here refuse_here)

pub tag_good : (flow : Bool) → Good (tag flow)
unfolding tag
tag_good flow = record { next = tag_then flow; is = λ p. refl; like = then_like flow }
