-- The places of a text, by how many characters are before them, and what is read there.
use Rattle.std.proofs.Common.{◌≡◌, ℕ, ◌+◌, ◌-◌, ◌≤◌, Bool, true, false, List, length, take, Option, Some, None, Result, Ok, Err, refl, ap, sym, ◌∙◌, arith, inl, inr}
use Rattle.std.proofs.lemmas.Str.{length-le-encodes}
use Rattle.yaml_text.specs.declared.types.yaml_mark_t.{yaml_mark_t}
use Rattle.yaml_text.specs.Fault.{Fault}
use Rattle.yaml_lexeme.specs.Lexeme.{Lexeme as yaml_lexeme_t}
use Rattle.yaml_lexeme.specs.LexemeOf.{lexeme_of, part_from}
use Rattle.yaml_lexeme.specs.declared.lexeme.yaml_part_t.{yaml_part_t}
use Rattle.yaml_lexeme.specs.declared.lexeme.yaml_lexeme_t.{yaml_lexeme_t as code_lexeme_t}
use Rattle.yaml_lexeme.specs.Place.{Place, place_at, start}
use Rattle.yaml_lexeme.specs.Counted.{IsMarkOf}
use Rattle.yaml_lexeme.specs.Order.{IsBeyond}
use Rattle.yaml_lexeme.specs.Answers.{ReadsAs, refused_at, lexeme_at, answer}
use Rattle.yaml_lexeme.specs.declared.problem.yaml_refusal_t.{yaml_refusal_t}
use Rattle.yaml_lexeme.specs.Reading as lexemes
use Rattle.yaml_lexeme.specs.Gap.{gap}
use Rattle.yaml_lexeme.specs.Decider.{IsGap, decides}
use Rattle.yaml_lexeme.specs.Kind.{kind_at}
use Rattle.yaml_lexeme.specs.declared.lex.yaml_context_t.{yaml_context_t}
use Rattle.yaml_lexeme.specs.Lex.{lex}
use Rattle.yaml_lexeme.proofs.Places.PlaceMoves.{skip_skip, length_skip}
use Rattle.yaml_lexeme.proofs.Places.CursorMoves.{place_index, place_within}
use Rattle.std.specs.Option.{IfSome}
use Rattle.std.specs.Prelude.{is_err}
use Rattle.yaml_text.specs.Chars.{utf8}
use Rattle.yaml_lexeme.proofs.MarkOrder.PlaceOrder.{gap_order}
use Rattle.yaml_scan.specs.inside.Scanner.{Scanner}
use Rattle.yaml_scan.specs.Kind.{Kind}
use Rattle.yaml_scan.specs.SourceOf.{source_of, count_to, reading, reading_of}
use Rattle.yaml_scan.specs.inside.Scanning.{IsReadIn}
use Rattle.yaml_scan.specs.inside.TextReads.{IsDecider, IsRead, IsOffence}

-- a place further on is the place after so many characters
pub record IsPlaceOf (cs : List ℕ) (p : ℕ) (q : Place) : Type 0 where
  pub is : q ≡ place_at cs (count_to (length cs) q)
  pub after_call : p ≤ count_to (length cs) q
  pub within : count_to (length cs) q ≤ length cs

pub ahead_place : (cs : List ℕ) (p n : ℕ) (q : Place) → p ≤ length cs → IsBeyond n (place_at cs p) q → IsPlaceOf cs (p + n) q
ahead_place cs p n q l a =
    let s = skip_skip p a.count (start cs) in
    let e : q ≡ place_at cs (p + a.count) = a.is ∙ s in
    let r = length_skip p (start cs) in
    let w = a.within in
    let t = length_skip (p + a.count) (start cs) in
    let z : length q.rest ≡ length cs - (p + a.count) = ap (λ (x : Place). length x.rest) e ∙ t in
    let c : count_to (length cs) q ≡ p + a.count = omega arith in
    record { is = e ∙ ap (place_at cs) (sym c); after_call = omega (arith, a.least); within = omega arith }

pub gap_is : (cs : List ℕ) (flow allowed : Bool) (p : ℕ) → p ≤ length cs → IsPlaceOf cs p (gap flow allowed (place_at cs p)).0
gap_is cs flow allowed p l = let a = ahead_place cs p 0 (gap flow allowed (place_at cs p)).0 l (gap_order flow allowed (place_at cs p)).0 in
    record { is = a.is; after_call = (let b = a.after_call in omega arith); within = a.within }

pub gap_ends : (cs : List ℕ) (flow allowed : Bool) (p : ℕ) (at m : yaml_mark_t) → IsMarkOf cs at p → m ≡ (gap flow allowed (place_at cs p)).0.mark → IsMarkOf cs m ((source_of cs).gap flow allowed p)
unfolding source_of
gap_ends cs flow allowed p at m i e = let g = gap_is cs flow allowed p i.within in record { within = g.within; mark_is = e ∙ ap (λ (q : Place). q.mark) g.is }

abbrev Lexed : Type 0
Lexed = Result yaml_lexeme_t Fault

abbrev ok : yaml_lexeme_t → Lexed
ok a = Ok a

abbrev err : Fault → Lexed
err a = Err a

same_lexeme : (a b : yaml_lexeme_t) → ok a ≡ ok b → a ≡ b
same_lexeme a b q = cc

same_fault : (a b : Fault) → err a ≡ err b → a ≡ b
same_fault a b q = cc

-- what a lexeme's call returns
offence_there : (cs : List ℕ) (k : Kind) (d : ℕ) (l : Option ℕ) (p : ℕ) (f : Fault) → lexeme_at k (record { depth = d; level = l }) (place_at cs p) ≡ Err f → IsOffence cs k d l p f
unfolding source_of
offence_there cs k d l p f a = go (lex k (record { depth = d; level = l }) (place_at cs p)) a
  where
    go : (r : lexemes.Read yaml_lexeme_t) → answer k (place_at cs p) r ≡ Err f → (o : Rattle.yaml_scan.specs.Source.Offence) × (reading_of (length cs) k (place_at cs p) r ≡ Err o) × (o.fault ≡ f)
    go (Ok x) e = cc
    go (Err x) e = (_, refl, same_fault _ f e)

pub read_there : (cs : List ℕ) (k : Kind) (d : ℕ) (l : Option ℕ) (p : ℕ) (x : yaml_lexeme_t) → lexeme_at k (record { depth = d; level = l }) (place_at cs p) ≡ Ok x → IsRead cs k d l p x
unfolding source_of
read_there cs k d l p x e = go (lex k (record { depth = d; level = l }) (place_at cs p)) e
  where
    go : (r : lexemes.Read yaml_lexeme_t) → answer k (place_at cs p) r ≡ Ok x → (n : ℕ) × (reading_of (length cs) k (place_at cs p) r ≡ Ok (reading x n))
    go (Ok f) e = let v : f.value ≡ x = same_lexeme f.value x e in (count_to (length cs) f.end, ap (λ (y : yaml_lexeme_t). Ok (reading y (count_to (length cs) f.end))) v)
    go (Err f) e = cc

no_gap : (cs : List ℕ) (p : ℕ) (flow allowed : Bool) → p ≤ length cs → IsGap (place_at cs p) (place_at cs p) false → (source_of cs).gap flow allowed p ≡ p
unfolding source_of
no_gap cs p flow allowed l g =
    let e : length (gap flow allowed (place_at cs p)).0.rest ≡ length (place_at cs p).rest = ap (λ (x : Place × Bool). length x.0.rest) (g flow allowed) in
    let t = length_skip p (start cs) in omega arith

kind_there : (cs : List ℕ) (p : ℕ) (flow : Bool) (o : Option Kind) → kind_at flow (place_at cs p) ≡ o → (source_of cs).kind flow p ≡ o
unfolding source_of
kind_there cs p flow o e = e

-- what comes right there and decides
pub decider_there : (cs : List ℕ) (at : yaml_mark_t) (flow : Bool) (k : Kind) (x : yaml_lexeme_t) → decides flow k ≡ true → ((p : ℕ) → IsMarkOf cs at p → IsGap (place_at cs p) (place_at cs p) false)
    → ((p : ℕ) → IsMarkOf cs at p → kind_at flow (place_at cs p) ≡ Some k)
    → ((p : ℕ) (context : yaml_context_t) → IsMarkOf cs at p → lexeme_at k context (place_at cs p) ≡ Ok x)
    → (p : ℕ) → IsMarkOf cs at p → IsDecider cs flow p k x
decider_there cs at flow k x d g f a = λ p i. record {
  decides = d;
  gap = λ allowed. no_gap cs p flow allowed i.within (g p i);
  kind = kind_there cs p flow (Some k) (f p i);
  read = λ n l. read_there cs k n l p x (a p (record { depth = n; level = l }) i);
}

-- what a reader returns is what is read of the text
pub reads_in : (s : Scanner) (k : Kind) (x : yaml_context_t) (there : yaml_mark_t) (o : Result code_lexeme_t yaml_refusal_t)
    → ((p : ℕ) → IsMarkOf s.text.chars s.gap_end p → ReadsAs lexeme_of k s.gap_end there o (lexeme_at k x (place_at s.text.chars p))) → IsReadIn s k x there o
reads_in s k x there (Ok l) f = λ p i. read_there s.text.chars k x.depth x.level p (lexeme_of l) (f p i)
reads_in s k x there (Err r) f = λ p i. elim (f p i) [ inl m ↦ inl m | inr a ↦ inr (offence_there s.text.chars k x.depth x.level p (refused_at k s.gap_end there r) a) ]

-- a lexeme that was read needs no mark of an offence
pub reads_well : (s : Scanner) (k : Kind) (x : yaml_context_t) (there other : yaml_mark_t) (o : Result code_lexeme_t yaml_refusal_t) → is_err o ≡ false
    → ((p : ℕ) → IsMarkOf s.text.chars s.gap_end p → ReadsAs lexeme_of k s.gap_end there o (lexeme_at k x (place_at s.text.chars p))) → IsReadIn s k x other o
reads_well s k x there other (Ok l) e f = reads_in s k x other (Ok l) f
reads_well s k x there other (Err r) e f = cc

-- nor does a part of the text, from whatever start
pub part_reads : (cs : List ℕ) (k : Kind) (x : yaml_context_t) (at : yaml_mark_t) (o : Option yaml_part_t) → IfSome o (λ part. (n : ℕ) → IsMarkOf cs at n → lexeme_at k x (place_at cs n) ≡ Ok (part_from at part))
    → IfSome o (λ part. (start : yaml_mark_t) (p : ℕ) → IsMarkOf cs at p → IsRead cs k x.depth x.level p (part_from start part))
part_reads cs k x at None f = tt
part_reads cs k x at (Some part) f = λ start p i. read_there cs k x.depth x.level p (part_from at part) (f p i)

-- characters take a byte or more
pub level_bytes : (cs : List ℕ) (o : Option ℕ) → IfSome o (λ l. l ≤ length cs) → IfSome o (λ l. l ≤ length (utf8 cs))
level_bytes cs None a = tt
level_bytes cs (Some l) a = omega (arith, length-le-encodes cs)

-- the index of a place is the length in bytes of the characters before it
pub index_is : (cs : List ℕ) (p : ℕ) → ((source_of cs).mark p).index ≡ length (utf8 (take p cs))
unfolding source_of
index_is cs p = place_index cs p

-- and not greater than that of the end
pub index_within : (cs : List ℕ) (p : ℕ) → ((source_of cs).mark p).index ≤ length (utf8 cs)
unfolding source_of
index_within cs p = place_within cs p
