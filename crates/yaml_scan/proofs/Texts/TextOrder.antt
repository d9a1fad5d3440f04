-- The same for the running scanner: the marks of gaps, lexemes and problems of a text are in order.
use Rattle.std.proofs.Common.{◌≡◌, ℕ, zero, suc, ◌+◌, ◌≤◌, Bool, true, false, List, [], ◌∷◌, length, Option, Some, Ok, Err, refl, ap, sym, ◌∙◌, arith, inl, inr}
use Rattle.std.specs.Prelude.{nat_lt, ◌==◌, if◌then◌else◌, slice_index}
use Rattle.std.proofs.lemmas.Bool.{cases_Bool}
use Rattle.yaml_text.specs.TextBytes.{AreChars}
use Rattle.yaml_text.specs.declared.types.yaml_mark_t.{yaml_mark_t}
use Rattle.yaml_lexeme.specs.declared.kind.yaml_lexeme_kind_t.TheVariants.{STREAM_END}
use Rattle.yaml_lexeme.specs.Place.{place_at, start, skip}
use Rattle.yaml_lexeme.specs.inside.Moves.{skip_from, mark_after, ends_line}
use Rattle.yaml_lexeme.specs.Lex.{lex}
use Rattle.yaml_lexeme.specs.StreamEnd.{stream_end}
use Rattle.yaml_lexeme.proofs.Places.PlaceMoves.{length_skip}
use Rattle.yaml_scan.specs.Kind.{Kind, is_stream_end}
use Rattle.yaml_scan.specs.Source.{Reading, Offence}
use Rattle.yaml_scan.specs.SourceOf.{source_of, count_to}
use Rattle.yaml_scan.specs.inside.TextReads.{IsProblem}
use Rattle.yaml_scan.specs.Cut.{KeepsOrder}
use Rattle.yaml_scan.proofs.Texts.SourceOrder.{texts_keep_order, problem_at}

pub text_order : (cs : List ℕ) → AreChars cs → KeepsOrder (source_of cs)
text_order cs c = texts_keep_order cs c

size_is : (cs : List ℕ) → (source_of cs).size ≡ length cs
unfolding source_of
size_is cs = refl

-- a problem is at its place
pub text_problem : (cs : List ℕ) → AreChars cs → (k : Kind) (d : ℕ) (l : Option ℕ) (p : ℕ) (o : Offence) → p ≤ length cs → (source_of cs).kind (nat_lt 0 d) p ≡ Some k → (source_of cs).read k d l p ≡ Err o → IsProblem (source_of cs) o
text_problem cs c k d l p o w h e =
    let z = size_is cs in
    let a = problem_at cs k d l p o w e in
    let b = (texts_keep_order cs c).offends k d l p o (omega arith) h e in
    record { kind = a.0; within = b.1; index = ap (λ (m : yaml_mark_t). m.index) a.1 }

-- lines and columns take characters
sums_after : (m : yaml_mark_t) (c next : ℕ) → (mark_after m c next).line + (mark_after m c next).column ≤ m.line + m.column + 1
sums_after m c next = elim (cases_Bool (ends_line c next)) [ inl t ↦ rw t (omega arith) | inr f ↦ rw f (omega arith) ]

sums_from : (n : ℕ) (m : yaml_mark_t) (cs : List ℕ) → (skip_from n m cs).mark.line + (skip_from n m cs).mark.column ≤ m.line + m.column + n
sums_from zero m cs = omega arith
sums_from (suc n) m [] = omega arith
sums_from (suc n) m (c ∷ cs) = let a = sums_from n (mark_after m c (slice_index cs 0)) cs in let b = sums_after m c (slice_index cs 0) in omega arith

pub text_sums : (cs : List ℕ) (p : ℕ) → p ≤ length cs → ((source_of cs).mark p).line + ((source_of cs).mark p).column ≤ p
unfolding source_of skip
text_sums cs p w = let a = sums_from p (record { index = 0; line = 0; column = 0 }) cs in omega arith

-- the reach is at its place, as far as the index goes
end_index : (m : yaml_mark_t) → (stream_end m).index ≡ m.index
end_index m = go (m.column == 0)
  where
    go : (b : Bool) → (if b then m else record { index = m.index; line = m.line + 1; column = 0 }).index ≡ m.index
    go true = refl
    go false = refl

end_reach : (cs : List ℕ) (d : ℕ) (l : Option ℕ) (p : ℕ) (r : Reading) → p ≤ length cs → (source_of cs).read STREAM_END d l p ≡ Ok r → r.reach.index ≡ ((source_of cs).mark r.place).index
unfolding source_of lex
end_reach cs d l p r w e =
    let n = length_skip p (start cs) in
    let c : count_to (length cs) (place_at cs p) ≡ p = omega arith in
    let q : r ≡ record { token_data = Rattle.yaml_text.specs.Token.TokenData.STREAM_END; end = stream_end (place_at cs p).mark; reach = stream_end (place_at cs p).mark; place = count_to (length cs) (place_at cs p); passed_break = false } = cc in
    ap (λ (x : Reading). x.reach.index) q ∙ end_index (place_at cs p).mark ∙ ap (λ (x : ℕ). (place_at cs x).mark.index) (sym c ∙ sym (ap (λ (x : Reading). x.place) q))

is_end : (k : Kind) → is_stream_end k ≡ true → k ≡ STREAM_END
is_end k e = grind arith

pub text_reach : (cs : List ℕ) → AreChars cs → (k : Kind) (d : ℕ) (l : Option ℕ) (p : ℕ) (r : Reading) → p ≤ length cs → (source_of cs).kind (nat_lt 0 d) p ≡ Some k → (source_of cs).read k d l p ≡ Ok r → r.reach.index ≡ ((source_of cs).mark r.place).index
text_reach cs c k d l p r w h e = elim (cases_Bool (is_stream_end k)) [
  | inl s ↦ (let q = is_end k s in end_reach cs d l p r w (sym (ap (λ (x : Kind). (source_of cs).read x d l p) q) ∙ e))
  | inr s ↦ (let z = size_is cs in ap (λ (m : yaml_mark_t). m.index) (((texts_keep_order cs c).reads k d l p r (omega arith) h e).reach s))
]
