-- Gaps, lexemes and problems end at places that are not between CR and LF, and their marks are the counted ones.
use Rattle.std.proofs.Common.{◌≡◌, ℕ, zero, suc, ◌+◌, ◌-◌, ◌≤◌, true, false, ◌==◌, List, length, take, drop, slice_index, Some, Result, Ok, Err, refl, sym, ap, ◌∙◌, subst, arith, get_or-drop, get_or-take}
use Rattle.std.proofs.lemmas.List.{length-take}
use Rattle.yaml_lexeme.specs.declared.kind.yaml_lexeme_kind_t.TheVariants as kind
use Rattle.yaml_text.specs.Token.{TokenData as token}
use Rattle.yaml_lexeme.specs.declared.kind.yaml_lexeme_kind_t.{yaml_lexeme_kind_t}
use Rattle.yaml_lexeme.specs.declared.lex.yaml_context_t.{yaml_context_t}
use Rattle.yaml_lexeme.specs.Lexeme.{Lexeme, lexeme, whole, scalar_to}
use Rattle.yaml_lexeme.specs.Lexeme.{Scalar}
use Rattle.yaml_text.specs.Token.{TokenData}
use Rattle.yaml_text.specs.declared.types.yaml_mark_t.{yaml_mark_t}
use Rattle.yaml_text.specs.declared.types.yaml_scalar_style_t.{yaml_scalar_style_t}
use Rattle.yaml_text.specs.declared.types.yaml_scalar_style_t.TheVariants.{YAML_PLAIN_SCALAR_STYLE, YAML_SINGLE_QUOTED_SCALAR_STYLE, YAML_DOUBLE_QUOTED_SCALAR_STYLE, YAML_LITERAL_SCALAR_STYLE, YAML_FOLDED_SCALAR_STYLE}
use Rattle.yaml_lexeme.proofs.CountedMarks.WholePlaces.{parts, Clear, clear_here, clear_trans, clear_after, clear_one, Marked, marked_here, marked_end}
use Rattle.yaml_lexeme.proofs.CountedMarks.ClearReads.{Clears, Marks, good_clears}
use Rattle.yaml_lexeme.proofs.Parts.HeldReads.{Held, Holds, ok_holds, bind_holds}
use Rattle.yaml_lexeme.proofs.Locality.GapLocality.{gap_clear}
use Rattle.yaml_lexeme.proofs.Locality.NameLocality.{name_good}
use Rattle.yaml_lexeme.proofs.Locality.TagLocality.{tag_good}
use Rattle.yaml_lexeme.proofs.Locality.QuotedLocality.{quoted_good}
use Rattle.yaml_lexeme.proofs.CountedMarks.CountedPlaces.{places_counted}
use Rattle.yaml_lexeme.proofs.Places.PlaceMoves.{skip_skip, length_skip, rest_skip, peek_on}
use Rattle.yaml_lexeme.proofs.CountedMarks.WholeBlocks.{block_marks}
use Rattle.yaml_lexeme.proofs.CountedMarks.WholeScalars.{plain_marks, directive_marks}
use Rattle.yaml_lexeme.proofs.MarkOrder.KindRows.{starts, third, KindFact, kind_says}
use Rattle.yaml_lexeme.specs.Block.{block}
use Rattle.yaml_lexeme.specs.Gap.{gap}
use Rattle.yaml_lexeme.specs.Kind.{kind_at}
use Rattle.yaml_lexeme.specs.Lex.{lex, in_flow, least, says_of, len_of}
use Rattle.yaml_lexeme.specs.KindSets.{quoted_as}
use Rattle.yaml_lexeme.specs.Locality.{reach}
use Rattle.yaml_lexeme.specs.Name.{name}
use Rattle.yaml_lexeme.specs.Order.{is_stream_end}
use Rattle.yaml_lexeme.specs.Place.{Place, start, place_at, peek, skip}
use Rattle.yaml_lexeme.specs.Plain.{plain}
use Rattle.yaml_lexeme.specs.Quoted.{quoted}
use Rattle.yaml_lexeme.specs.Reading.{Found, Read, found}
use Rattle.yaml_lexeme.specs.Tag.{tag}
use Rattle.yaml_lexeme.specs.Whole.{IsWhole, GapIsWhole, ReachIsWhole, EndIsWhole, IsCounted, GapIsCounted, LexemeIsCounted, ProblemIsCounted}
use Rattle.yaml_text.specs.Chars.{utf8}
use Rattle.yaml_text.specs.Classes.{is_crlf}
use Rattle.yaml_text.specs.Mark.{cuts_break, IsPlaceAt, mark_at}

-- a lexeme from p on
abbrev pub MarkedLexeme : Place → Found Lexeme → Type 0
MarkedLexeme p f = (f.value.start_mark ≡ p.mark) × (f.value.reach ≡ f.end.mark) × Marked (skip 1 p) f.value.end_mark f.end

whole_holds : {A : Type 0} (says : A → TokenData) (p : Place) (r : Read A) → Clears (skip 1 p) r → Holds (MarkedLexeme p) (Clear (skip 1 p)) (lexeme (whole says) p r)
whole_holds says p r h = bind_holds h (λ x a. ok_holds (refl, refl, marked_here a (clear_here x.end)))

scalar_holds : (style : yaml_scalar_style_t) (p : Place) (r : Read Scalar) → Marks (λ (s : Scalar). s.end) (skip 1 p) r → Holds (MarkedLexeme p) (Clear (skip 1 p)) (lexeme (scalar_to style) p r)
scalar_holds style p r h = bind_holds h (λ x a. ok_holds (refl, refl, a))

some_holds : (k : yaml_lexeme_kind_t) (p : Place) → Clear (skip 1 p) (skip (len_of k) p) → Holds (MarkedLexeme p) (Clear (skip 1 p)) (lexeme (whole says_of) p (found k (skip (len_of k) p)))
some_holds k p a = ok_holds (refl, refl, marked_here a (clear_here (skip (len_of k) p)))

marker_clear : (p : Place) → (peek p 2 == 0x0D) ≡ false → Clear (skip 1 p) (skip 3 p)
marker_clear p h = let a : Clear (skip 1 p) (skip 2 (skip 1 p)) = clear_after 1 (skip 1 p) (rw (peek_on 1 1 p) h) in subst (λ (x : Place). Clear (skip 1 p) x) (skip_skip 1 2 p) a

lexeme_holds : (k : yaml_lexeme_kind_t) (c : yaml_context_t) (p : Place) → KindFact (in_flow c) p k → (k ≡ kind.STREAM_END → ⊥) → Holds (MarkedLexeme p) (Clear (skip 1 p)) (lex k c p)
unfolding lex
lexeme_holds kind.STREAM_END c p h other = absurd (other refl)
lexeme_holds kind.DIRECTIVE c p h other = bind_holds (directive_marks p) (λ x a. ok_holds (refl, refl, a))
lexeme_holds kind.DOCUMENT_START c p h other = some_holds kind.DOCUMENT_START p (marker_clear p (third 0x2D p refl h))
lexeme_holds kind.DOCUMENT_END c p h other = some_holds kind.DOCUMENT_END p (marker_clear p (third 0x2E p refl h))
lexeme_holds kind.FLOW_SEQUENCE_START c p h other = some_holds kind.FLOW_SEQUENCE_START p (clear_here (skip 1 p))
lexeme_holds kind.FLOW_MAPPING_START c p h other = some_holds kind.FLOW_MAPPING_START p (clear_here (skip 1 p))
lexeme_holds kind.FLOW_SEQUENCE_END c p h other = some_holds kind.FLOW_SEQUENCE_END p (clear_here (skip 1 p))
lexeme_holds kind.FLOW_MAPPING_END c p h other = some_holds kind.FLOW_MAPPING_END p (clear_here (skip 1 p))
lexeme_holds kind.FLOW_ENTRY c p h other = some_holds kind.FLOW_ENTRY p (clear_here (skip 1 p))
lexeme_holds kind.BLOCK_ENTRY c p h other = some_holds kind.BLOCK_ENTRY p (clear_here (skip 1 p))
lexeme_holds kind.KEY c p h other = some_holds kind.KEY p (clear_here (skip 1 p))
lexeme_holds kind.VALUE c p h other = some_holds kind.VALUE p (clear_here (skip 1 p))
lexeme_holds kind.ALIAS c p h other = whole_holds token.ALIAS p (name p) (good_clears name name_good p)
lexeme_holds kind.ANCHOR c p h other = whole_holds token.ANCHOR p (name p) (good_clears name name_good p)
lexeme_holds kind.TAG c p h other = whole_holds (λ t. t) p (tag (in_flow c) p) (good_clears (tag (in_flow c)) (tag_good (in_flow c)) p)
lexeme_holds kind.LITERAL c p h other = scalar_holds YAML_LITERAL_SCALAR_STYLE p (block false c.level p) (block_marks false c.level p)
lexeme_holds kind.FOLDED c p h other = scalar_holds YAML_FOLDED_SCALAR_STYLE p (block true c.level p) (block_marks true c.level p)
lexeme_holds kind.SINGLE_QUOTED c p h other = whole_holds (quoted_as YAML_SINGLE_QUOTED_SCALAR_STYLE) p (quoted true p) (good_clears (quoted true) (quoted_good true) p)
lexeme_holds kind.DOUBLE_QUOTED c p h other = whole_holds (quoted_as YAML_DOUBLE_QUOTED_SCALAR_STYLE) p (quoted false p) (good_clears (quoted false) (quoted_good false) p)
lexeme_holds kind.PLAIN c p h other = scalar_holds YAML_PLAIN_SCALAR_STYLE p (plain (in_flow c) (least c) p) (plain_marks (in_flow c) (least c) p h)

-- a stream end, or another kind
pub is_end : (k : yaml_lexeme_kind_t) → Result (k ≡ kind.STREAM_END) ((k ≡ kind.STREAM_END → ⊥) × (is_stream_end k ≡ false))
is_end kind.STREAM_END = Ok refl
is_end kind.DIRECTIVE = Err (λ e. absurd cc, refl)
is_end kind.DOCUMENT_START = Err (λ e. absurd cc, refl)
is_end kind.DOCUMENT_END = Err (λ e. absurd cc, refl)
is_end kind.FLOW_SEQUENCE_START = Err (λ e. absurd cc, refl)
is_end kind.FLOW_MAPPING_START = Err (λ e. absurd cc, refl)
is_end kind.FLOW_SEQUENCE_END = Err (λ e. absurd cc, refl)
is_end kind.FLOW_MAPPING_END = Err (λ e. absurd cc, refl)
is_end kind.FLOW_ENTRY = Err (λ e. absurd cc, refl)
is_end kind.BLOCK_ENTRY = Err (λ e. absurd cc, refl)
is_end kind.KEY = Err (λ e. absurd cc, refl)
is_end kind.VALUE = Err (λ e. absurd cc, refl)
is_end kind.ALIAS = Err (λ e. absurd cc, refl)
is_end kind.ANCHOR = Err (λ e. absurd cc, refl)
is_end kind.TAG = Err (λ e. absurd cc, refl)
is_end kind.LITERAL = Err (λ e. absurd cc, refl)
is_end kind.FOLDED = Err (λ e. absurd cc, refl)
is_end kind.SINGLE_QUOTED = Err (λ e. absurd cc, refl)
is_end kind.DOUBLE_QUOTED = Err (λ e. absurd cc, refl)
is_end kind.PLAIN = Err (λ e. absurd cc, refl)

-- a lexeme of the kind that is at p
pub lexeme_is : (k : yaml_lexeme_kind_t) (c : yaml_context_t) (p : Place) (f : Found Lexeme) → kind_at (in_flow c) p ≡ Some k → (k ≡ kind.STREAM_END → ⊥) → lex k c p ≡ Ok f → MarkedLexeme p f
lexeme_is k c p f h other e = subst (λ (r : Read Lexeme). Held (MarkedLexeme p) (Clear (skip 1 p)) r) e (lexeme_holds k c p (kind_says (in_flow c) k p h) other).held

start_clear : (k : yaml_lexeme_kind_t) (c : yaml_context_t) (p : Place) → kind_at (in_flow c) p ≡ Some k → Clear p (skip 1 p)
start_clear k c p h = clear_one p (starts (in_flow c) k p h)

reach_of : (p : Place) (r : Read Lexeme) → Clear p (skip 1 p) → Held (MarkedLexeme p) (Clear (skip 1 p)) r → Clear p (reach r)
reach_of p (Ok f) a h = clear_trans a (marked_end h.2)
reach_of p (Err e) a h = clear_trans a h

end_reach : (c : yaml_context_t) (p : Place) → Clear p (reach (lex kind.STREAM_END c p))
unfolding lex
end_reach c p = clear_here p

reach_clear : (k : yaml_lexeme_kind_t) (c : yaml_context_t) (p : Place) → kind_at (in_flow c) p ≡ Some k → Clear p (reach (lex k c p))
reach_clear k c p h =
    elim (is_end k) [
      | Ok e ↦ subst (λ (j : yaml_lexeme_kind_t). Clear p (reach (lex j c p))) (sym e) (end_reach c p)
      | Err other ↦ reach_of p (lex k c p) (start_clear k c p h) (lexeme_holds k c p (kind_says (in_flow c) k p h) other.0).held
    ]

-- in a text
before_is : (n : ℕ) (text : List ℕ) → suc n ≤ length text → slice_index (take (suc n) text) (length (take (suc n) text) - 1) ≡ slice_index text n
before_is n text h =
    let e : length (take (suc n) text) - 1 ≡ n = omega (arith, length-take (suc n) text) in
    ap (λ (i : ℕ). slice_index (take (suc n) text) i) e ∙ get_or-take (suc n) text n 0 (omega arith)

after_is : (n : ℕ) (text : List ℕ) → slice_index (drop n text) 0 ≡ slice_index text n
after_is n text = let e : n + 0 ≡ n = omega arith in get_or-drop n text 0 0 ∙ ap (λ (i : ℕ). slice_index text i) e

cut_is : (n : ℕ) (text : List ℕ) → suc n ≤ length text → cuts_break (take (suc n) text) (drop (suc n) text) ≡ is_crlf (slice_index text n) (slice_index text (suc n))
cut_is n text h =
    ap (λ (c : ℕ). is_crlf c (slice_index (drop (suc n) text) 0)) (before_is n text h) ∙ ap (λ (d : ℕ). is_crlf (slice_index text n) d) (after_is (suc n) text)

far : (text : List ℕ) (n i : ℕ) → slice_index (place_at text n).rest i ≡ slice_index text (n + i)
far text n i = ap (λ (cs : List ℕ). slice_index cs i) (rest_skip n (start text)) ∙ get_or-drop n text i 0

no_cut : (text : List ℕ) (index n k : ℕ) → IsPlaceAt text index n → n + k ≤ length text → parts (place_at text n).rest k ≡ false → cuts_break (take (n + k) text) (drop (n + k) text) ≡ false
no_cut text index n zero at l h = let e : n + 0 ≡ n = omega arith in rw e at.whole
no_cut text index n (suc k) at l h =
    let e : n + suc k ≡ suc (n + k) = omega arith in
    rw e (cut_is (n + k) text (omega arith)
    ∙ ap (λ (c : ℕ). is_crlf c (slice_index text (suc (n + k)))) (sym (far text n k))
    ∙ ap (λ (d : ℕ). is_crlf (slice_index (place_at text n).rest k) d) (ap (λ (i : ℕ). slice_index text i) (sym e) ∙ sym (far text n (suc k))) ∙ h)

is_whole : (text : List ℕ) (index n : ℕ) (q : Place) → IsPlaceAt text index n → Clear (place_at text n) q → IsWhole text n q
is_whole text index n q at a =
    let len : length (place_at text n).rest ≡ length text - n = length_skip n (start text) in
    let l : n + a.count ≤ length text = omega (arith, len, a.within, at.within) in
    record {
      count = n + a.count;
      least = omega arith;
      index = length (utf8 (take (n + a.count) text));
      place = record { within = l; index_is = refl; whole = no_cut text index n a.count at l a.whole };
      is = a.is ∙ skip_skip n a.count (start text);
    }

pub gap_is_whole : GapIsWhole
gap_is_whole flow allowed text index n at = is_whole text index n (gap flow allowed (place_at text n)).0 at (gap_clear flow allowed (place_at text n))

pub reach_is_whole : ReachIsWhole
reach_is_whole k c text index n at h = is_whole text index n (reach (lex k c (place_at text n))) at (reach_clear k c (place_at text n) h)

pub end_is_whole : EndIsWhole
end_is_whole k c text index n f at h other e =
    let m = (lexeme_is k c (place_at text n) f h other e).2 in
    record { at = m.at; is = m.is; whole = is_whole text index n m.at at (clear_trans (start_clear k c (place_at text n) h) m.taken) }

counted : (text : List ℕ) (n : ℕ) (mark : yaml_mark_t) (q : Place) → mark ≡ q.mark → IsWhole text n q → IsCounted text n mark
counted text n mark q e w =
    let m : mark ≡ mark_at text w.count = e ∙ ap (λ (x : Place). x.mark) w.is ∙ (places_counted text w.index w.count w.place).0 in
    record {
      count = w.count;
      least = w.least;
      at = record { place = record { within = w.place.within; index_is = ap (λ (x : yaml_mark_t). x.index) m; whole = w.place.whole }; mark_is = m };
    }

pub gap_is_counted : GapIsCounted
gap_is_counted flow allowed text index n at = counted text n _ (gap flow allowed (place_at text n)).0 refl (gap_is_whole flow allowed text index n at)

pub lexeme_is_counted : LexemeIsCounted
lexeme_is_counted k c text index n f at h other e =
    let p = place_at text n in
    let l = lexeme_is k c p f h other e in
    let m = l.2 in
    let s = start_clear k c p h in
    (counted text n _ p l.0 (is_whole text index n p at (clear_here p)), counted text n _ m.at m.is (is_whole text index n m.at at (clear_trans s m.taken)), counted text n _ f.end l.1 (is_whole text index n f.end at (clear_trans s (marked_end m))))

pub problem_is_counted : ProblemIsCounted
problem_is_counted k c text index n e at h o =
    let p = place_at text n in
    let a = subst (λ (r : Read Lexeme). Clear p (reach r)) o (reach_clear k c p h) in
    counted text n _ e.at refl (is_whole text index n e.at at a)
