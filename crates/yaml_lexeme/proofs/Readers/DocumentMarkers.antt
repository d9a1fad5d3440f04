-- A document marker is three characters of ASCII that are no breaks.
use Rattle.std.proofs.Common.{◌≡◌, ℕ, Bool, true, false, ◌==◌, ◌&&◌, Some, ap, refl, sym, ◌∙◌, subst, arith}
use Rattle.std.proofs.lemmas.Bool.{and_parts}
use Rattle.yaml_lexeme.proofs.MarkOrder.KindRows.{kind_says}
use Rattle.yaml_lexeme.proofs.Places.PlaceMoves.{first_on, skip_skip}
use Rattle.yaml_lexeme.proofs.Readers.FirstCharacter.{IsSingle, single}
use Rattle.yaml_lexeme.specs.Classes.{ends}
use Rattle.yaml_lexeme.specs.Kind.{is_marker_of, kind_at}
use Rattle.yaml_lexeme.specs.KindSets.{marker_kind}
use Rattle.yaml_lexeme.specs.Place.{Place, first, peek, skip}
use Rattle.yaml_lexeme.specs.declared.kind.yaml_lexeme_kind_t.TheVariants as kind

pub record AreThree (p : Place) : Type 0 where
  pub first : IsSingle (peek p 0)
  pub second : IsSingle (peek p 1)
  pub third : IsSingle (peek p 2)

three_of : (c : ℕ) (p : Place) → IsSingle c → is_marker_of c p ≡ true → AreThree p
three_of c p s h =
    let parts = and_parts (p.mark.column == 0 && (peek p 0 == c && peek p 1 == c)) (peek p 2 == c && ends (peek p 3)) h in
    let two = and_parts (peek p 0 == c) (peek p 1 == c) (and_parts (p.mark.column == 0) (peek p 0 == c && peek p 1 == c) parts.0).1 in
    record {
      first = single c (peek p 0) two.0 s;
      second = single c (peek p 1) two.1 s;
      third = single c (peek p 2) (and_parts (peek p 2 == c) (ends (peek p 3)) parts.1).0 s;
    }

pub marker_characters : (flow start : Bool) (p : Place) → kind_at flow p ≡ Some (marker_kind start) → AreThree p
marker_characters flow true p h = three_of 0x2D p (record { some = omega arith; ascii = omega arith; inside = refl }) (kind_says flow kind.DOCUMENT_START p h)
marker_characters flow false p h = three_of 0x2E p (record { some = omega arith; ascii = omega arith; inside = refl }) (kind_says flow kind.DOCUMENT_END p h)

pub single_on : (k : ℕ) (p q : Place) → q ≡ skip k p → IsSingle (peek p k) → IsSingle (first q)
single_on k p q e s = subst IsSingle (sym (ap first e ∙ first_on k p)) s

pub two_on : (p q r : Place) → q ≡ skip 1 p → r ≡ skip 1 q → r ≡ skip 2 p
two_on p q r e f = f ∙ ap (skip 1) e ∙ skip_skip 1 1 p

pub three_on : (p q r s : Place) → q ≡ skip 1 p → r ≡ skip 1 q → s ≡ skip 1 r → s ≡ skip 3 p
three_on p q r s e f g = g ∙ ap (skip 1) (two_on p q r e f) ∙ skip_skip 2 1 p
