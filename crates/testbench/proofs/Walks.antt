-- A lexeme other than the end of the stream reaches to a place of the text.
use Rattle.std.proofs.Common.{◌≡◌, ℕ, ◌≤◌, false, List, length, Some, Result, Ok, Err, refl, ap, sym, ◌∙◌, subst}
use Rattle.std.proofs.lemmas.Bool.{true≢false}
use Rattle.yaml_text.specs.Fault.{Fault}
use Rattle.yaml_lexeme.specs.declared.kind.yaml_lexeme_kind_t.{yaml_lexeme_kind_t}
use Rattle.yaml_lexeme.specs.declared.lex.yaml_context_t.{yaml_context_t}
use Rattle.yaml_lexeme.specs.Lexeme.{Lexeme as yaml_lexeme_t}
use Rattle.yaml_lexeme.specs.Kind.{kind_at}
use Rattle.yaml_lexeme.specs.Lex.{lex, in_flow}
use Rattle.yaml_lexeme.specs.Answers.{lexeme_at, answer}
use Rattle.yaml_lexeme.specs.Order.{IsBeyond, is_stream_end}
use Rattle.yaml_lexeme.specs.Place.{Place, place_at}
use Rattle.yaml_lexeme.specs.Counted.{IsMarkOf}
use Rattle.yaml_lexeme.specs.Reading.{Read}
use Rattle.yaml_lexeme.proofs.MarkOrder.LexemeOrder.{lexeme_spans}
use Rattle.yaml_scan.specs.SourceOf.{count_to}
use Rattle.yaml_scan.proofs.Texts.TextPlaces.{ahead_place}

abbrev ok : yaml_lexeme_t → Result yaml_lexeme_t Fault
ok a = Ok a

same : (a b : yaml_lexeme_t) → ok a ≡ ok b → a ≡ b
same a b e = cc

-- a lexeme reaches to a place of the text
pub reaches : (cs : List ℕ) (k : yaml_lexeme_kind_t) (c : yaml_context_t) (n : ℕ) (x : yaml_lexeme_t)
    → n ≤ length cs → kind_at (in_flow c) (place_at cs n) ≡ Some k → is_stream_end k ≡ false
    → lexeme_at k c (place_at cs n) ≡ Ok x → (m : ℕ) × IsMarkOf cs x.reach m
reaches cs k c n x l stands some e = go (lex k c (place_at cs n)) refl e
  where
    go : (r : Read yaml_lexeme_t) → lex k c (place_at cs n) ≡ r → answer k (place_at cs n) r ≡ Ok x
        → (m : ℕ) × IsMarkOf cs x.reach m
    go (Ok f) is a =
        let v : f.value ≡ x = same f.value x a in
        let s = lexeme_spans k c (place_at cs n) f stands (λ h. true≢false (sym (ap is_stream_end h) ∙ some)) is in
        let b = ahead_place cs n 1 s.2.between l s.2.taken in
        let at = count_to (length cs) s.2.between in
        let q = ahead_place cs at 0 f.end b.within (subst (λ (p : Place). IsBeyond 0 p f.end) b.is s.2.read) in
        let mark = ap (λ (y : yaml_lexeme_t). y.reach) (sym v) ∙ s.1 ∙ ap (λ (p : Place). p.mark) q.is in
        (count_to (length cs) f.end, record { within = q.within; mark_is = mark })
    go (Err f) is a = absurd cc
