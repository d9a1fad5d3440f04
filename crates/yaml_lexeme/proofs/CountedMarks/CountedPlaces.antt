-- The mark of a place is the one that is counted from the front.
use Rattle.std.proofs.Common.{◌≡◌, ℕ, zero, suc, ◌≤◌, false, List, [], ◌∷◌, length, take, drop, slice_index, refl, sym, ap, ◌∙◌}
use Rattle.yaml_text.specs.declared.types.yaml_mark_t.{yaml_mark_t}
use Rattle.yaml_text.specs.MarkOn.{mark_on}
use Rattle.yaml_text.specs.Mark.{column, cuts_break, mark_at}
use Rattle.yaml_text.proofs.Marks.MarkCounts.{running}
use Rattle.yaml_lexeme.specs.Counted.{PlacesAreCounted, MarksAreCounted}
use Rattle.yaml_lexeme.specs.Place.{Place, place_at, skip}
use Rattle.yaml_lexeme.specs.inside.Moves.{mark_after, skip_from}

abbrev place_of : yaml_mark_t → List ℕ → Place
place_of m cs = record { mark = m; rest = cs }

-- a walk over n characters
walk : (n : ℕ) (m : yaml_mark_t) (cs : List ℕ) → skip_from n m cs ≡ place_of (mark_on n m cs) (drop n cs)
walk zero m cs = refl
walk (suc n) m [] = refl
walk (suc n) m (c ∷ cs) = walk n (mark_after m c (slice_index cs 0)) cs

place_is : (text : List ℕ) (n : ℕ) → n ≤ length text → cuts_break (take n text) (drop n text) ≡ false → place_at text n ≡ place_of (mark_at text n) (drop n text)
unfolding skip column
place_is text n within whole =
    walk n (record { index = 0; line = 0; column = 0 }) text ∙ ap (λ (m : yaml_mark_t). place_of m (drop n text)) (running n [] text within refl whole)

pub places_counted : PlacesAreCounted
places_counted text index n at =
    let e = place_is text n at.within at.whole in
    (ap (λ (p : Place). p.mark) e, ap (λ (p : Place). p.rest) e)

pub marks_counted : MarksAreCounted
marks_counted text index n mark at =
    let e = (places_counted text index n at).0 in
    (λ h. record { within = at.within; mark_is = h ∙ sym e }, λ m. m.mark_is ∙ e)
