-- A stream end is at the end of a text, and nowhere else.
use Rattle.std.proofs.Common.{◌≡◌, ℕ, zero, suc, ◌<◌, true, inl, inr, List, [], ◌∷◌, length, drop, slice_index, refl, sym, ap, ◌∙◌, subst, arith}
use Rattle.std.proofs.lemmas.Bool.{cases_lt, false≢true}
use Rattle.yaml_text.specs.Chars.{is_char}
use Rattle.yaml_text.specs.TextBytes.{AreChars}
use Rattle.yaml_text.specs.Token.{TokenData as token}
use Rattle.yaml_text.specs.declared.types.yaml_mark_t.{yaml_mark_t}
use Rattle.yaml_lexeme.specs.Kind.{kind_at}
use Rattle.yaml_lexeme.specs.Lex.{lex}
use Rattle.yaml_lexeme.specs.Lexeme.{whole_of}
use Rattle.yaml_lexeme.specs.Place.{first, place_at}
use Rattle.yaml_lexeme.specs.StreamEnd.{stream_end}
use Rattle.yaml_lexeme.specs.Whole.{StreamEndIsLast, StreamEndIsCounted}
use Rattle.yaml_lexeme.specs.declared.kind.yaml_lexeme_kind_t.TheVariants as kind
use Rattle.yaml_lexeme.proofs.CountedMarks.CountedPlaces.{places_counted}
use Rattle.yaml_lexeme.proofs.MarkOrder.KindRows.{kind_says}
use Rattle.yaml_lexeme.proofs.Parts.ReadResults.{value_or}

-- a character of a text is not 0
some_there : (text : List ℕ) (n : ℕ) → AreChars text → n < length text → slice_index text n ≡ 0 → ⊥
unfolding is_char
some_there [] n each h e = absurd (omega arith)
some_there (c ∷ cs) zero each h e = false≢true (subst (λ (d : ℕ). is_char d ≡ true) e each.0)
some_there (c ∷ cs) (suc n) each h e = some_there cs n each.1 (omega arith) e

none_left : (text : List ℕ) → slice_index (drop (length text) text) 0 ≡ 0
none_left [] = refl
none_left (c ∷ cs) = none_left cs

drop_first : (text : List ℕ) (n : ℕ) → slice_index (drop n text) 0 ≡ slice_index text n
drop_first text zero = refl
drop_first [] (suc n) = refl
drop_first (c ∷ cs) (suc n) = drop_first cs n

pub stream_end_last : StreamEndIsLast
unfolding kind_at
stream_end_last flow text index n each at =
    let first_is : first (place_at text n) ≡ slice_index text n = ap (λ (cs : List ℕ). slice_index cs 0) (places_counted text index n at).1 ∙ drop_first text n in (
      λ h. elim (cases_lt n (length text)) [
        | inl less ↦ absurd (some_there text n each less (sym first_is ∙ kind_says flow kind.STREAM_END (place_at text n) h))
        | inr more ↦ (let within = at.within in omega arith)
      ],
      λ e. (let none : first (place_at text n) ≡ 0 = first_is ∙ sym (drop_first text n) ∙ ap (λ (k : ℕ). slice_index (drop k text) 0) e ∙ none_left text in rw none refl),
    )

pub stream_end_counted : StreamEndIsCounted
unfolding lex
stream_end_counted c text index f at h =
    let end = stream_end (place_at text (length text)).mark in
    sym (ap (value_or (whole_of token.STREAM_END end end)) h)
    ∙ ap (λ (m : yaml_mark_t). whole_of token.STREAM_END (stream_end m) (stream_end m)) (places_counted text index (length text) at).0
