-- Without what the layout inserted, the tokens that are returned are those of the lexemes.
use Rattle.std.proofs.Common.{◌≡◌, ℕ, Bool, true, false, not, ◌&&◌, List, [], ◌∷◌, map, reverse, filter, Option, Some, None, refl, ap, sym, ◌∙◌, subst, arith, eqb, eqb-true, eq-eqb, inl, inr}
use Rattle.std.proofs.lemmas.Bool.{cases_Bool, and_parts, and_from}
use Rattle.std.proofs.lemmas.List.{map-append}
use Rattle.std.proofs.lemmas.List.Elements.{filter-append}
use Rattle.yaml_text.specs.Fault.{Fault}
use Rattle.yaml_text.specs.declared.types.yaml_mark_t.{yaml_mark_t}
use Rattle.yaml_text.specs.declared.types.yaml_encoding_t.{yaml_encoding_t}
use Rattle.yaml_scan.specs.Settled.{tokens_of}
use Rattle.yaml_scan.specs.Course.{Input, course}
use Rattle.yaml_scan.specs.Kind.{is_key}
use Rattle.yaml_scan.specs.Token.{yaml_token_t, type_of}
use Rattle.yaml_scan.specs.TokenTypes.{is_key_type}
use Rattle.yaml_scan.specs.Laid.{Laid, Lexeme}
use Rattle.yaml_scan.specs.Groups.{Token, handed_out, offline}
use Rattle.yaml_scan.specs.Groups.Token.{StreamStart, BlockEnd, BlockSequenceStart, BlockMappingStart, InsertedKey}
use Rattle.yaml_scan.specs.Groups.Token.{OfLexeme}
use Rattle.yaml_scan.specs.Begins.{Begins}
use Rattle.yaml_scan.specs.Cut.{cut, KeepsOrder}
use Rattle.yaml_scan.specs.Answers.{answers}
use Rattle.yaml_scan.specs.Laws.{is_of_lexeme}
use Rattle.yaml_scan.specs.SessionLaws.{FaultOfRefused}
use Rattle.yaml_scan.specs.SessionLaws.FaultOfRefused.{at_once, near, far}
use Rattle.yaml_scan.specs.AnswerLaws.{same_mark, is_of_text, of_text_among, tokens_of_cut, AnswersTellLexemes, AnswersTellAll}
use Rattle.yaml_scan.proofs.History.KindTests.{key_not_end}
use Rattle.yaml_scan.proofs.TokenList.NeverRevised.{Begins-trans}
use Rattle.yaml_scan.proofs.TokenList.SettledStays.{before-offline}
use Rattle.yaml_scan.proofs.TokenList.OneLexemeMore.{lexemes_come_in_order}
use Rattle.yaml_scan.proofs.Course.LongestCut.{cut_is_history}
use Rattle.yaml_scan.proofs.Course.CourseSteps.{front_is_cut, accepted_is_cut, refused_has_fault, ends_or_faults}
use Rattle.yaml_scan.proofs.Course.AnswerOrder.{Fits, TokenFits, TokensFit, fit_course}

-- BEGINNINGS
filter_begins : {A : Type 0} (p : A → Bool) (xs ys : List A) → Begins xs ys → Begins (filter p xs) (filter p ys)
filter_begins p xs ys b = record { rest = filter p b.rest; is = ap (λ z. filter p z) b.is ∙ filter-append p xs b.rest }

map_begins : {A B : Type 0} (f : A → B) (xs ys : List A) → Begins xs ys → Begins (map f xs) (map f ys)
map_begins f xs ys b = record { rest = map f b.rest; is = ap (λ z. map f z) b.is ∙ map-append f xs b.rest }

pub of_text_begins : (xs ys : List yaml_token_t) → Begins xs ys → Begins (of_text_among xs) (of_text_among ys)
unfolding of_text_among
of_text_begins xs ys b = filter_begins is_of_text xs ys b

-- WHAT CAN BE SEEN OF A TOKEN
same_self : (m : yaml_mark_t) → same_mark m m ≡ true
same_self m = and_from _ _ (eq-eqb m.index m.index refl) (and_from _ _ (eq-eqb m.line m.line refl) (eq-eqb m.column m.column refl))

-- a lexeme takes a byte, so a KEY of the text has two marks
not_put_in : (x : Lexeme) → Fits x → (b : Bool) → is_key_type (type_of x.token_data) ≡ b → (b && same_mark x.start x.end) ≡ false
not_put_in x f false q = refl
not_put_in x f true q = elim (cases_Bool (same_mark x.start x.end)) [
  | inr r ↦ r
  | inl r ↦ (let k : is_key x.kind ≡ true = sym f.says.key ∙ q in
      let c = f.takes (key_not_end x.kind k) in
      let d = eqb-true x.start.index x.end.index (and_parts (eqb x.start.index x.end.index) (eqb x.start.line x.end.line && eqb x.start.column x.end.column) r).0 in
      absurd (omega arith))
]

text_test : (e : yaml_encoding_t) (t : Token) → TokenFits t → is_of_text (handed_out e t) ≡ is_of_lexeme t
text_test e StreamStart f = refl
text_test e (BlockEnd m) f = refl
text_test e (BlockSequenceStart m) f = refl
text_test e (BlockMappingStart m) f = refl
text_test e (InsertedKey m) f = ap not (same_self m)
text_test e (OfLexeme x) f = rw (f.says.no_end, f.says.no_start) (ap not (not_put_in x f (is_key_type (type_of x.token_data)) refl))

of_text_same : (e : yaml_encoding_t) (ts : List Token) → TokensFit ts → of_text_among (map (handed_out e) ts) ≡ map (handed_out e) (filter is_of_lexeme ts)
unfolding of_text_among
of_text_same e [] f = refl
of_text_same e (t ∷ ts) f = elim (cases_Bool (is_of_lexeme t)) [
  | inl b ↦ rw (text_test e t f.0, b) (ap (λ (z : List yaml_token_t). handed_out e t ∷ z) (of_text_same e ts f.1))
  | inr b ↦ rw (text_test e t f.0, b) (of_text_same e ts f.1)
]

-- THE TOKENS OF AN INPUT
-- the tokens that are settled are the first ones of the whole text
course_begins : (limit : ℕ) (input : Input) → KeepsOrder input.source
    → Begins (filter is_of_lexeme (tokens_of limit (course limit input))) (StreamStart ∷ map (λ i. OfLexeme i.lexeme) (reverse (cut input.source limit).read))
course_begins limit input k =
    let H = (cut input.source limit).read in
    let b = Begins-trans _ _ _ (front_is_cut limit input k) (before-offline limit H (cut_is_history input.source limit k)) in
    subst (λ (z : List Token). Begins (filter is_of_lexeme (tokens_of limit (course limit input))) z) (lexemes_come_in_order H)
    (filter_begins is_of_lexeme (tokens_of limit (course limit input)) (offline H) b)

pub answers_tell_lexemes : AnswersTellLexemes
unfolding answers tokens_of_cut
answers_tell_lexemes limit input k =
    subst (λ (z : List yaml_token_t). Begins z (tokens_of_cut limit input)) (sym (of_text_same input.encoding (tokens_of limit (course limit input)) (fit_course limit input k)))
    (map_begins (handed_out input.encoding) _ _ (course_begins limit input k))

-- an input with no fault is accepted
some_not_none : (f : Fault) → Some f ≡ None → ⊥
some_not_none f e = cc

refused_not_none : (limit : ℕ) (input : Input) (f : Fault) → FaultOfRefused limit input f (course limit input) → (course limit input).fault ≡ None → ⊥
refused_not_none limit input f (at_once b s e) n = some_not_none _ (sym e ∙ n)
refused_not_none limit input f (near b s e) n = some_not_none _ (sym e ∙ n)
refused_not_none limit input f (far o b s p e) n = some_not_none _ (sym e ∙ n)

pub accepted : (limit : ℕ) (input : Input) → KeepsOrder input.source → (course limit input).fault ≡ None → (o : Option Fault) → input.refusal ≡ o → input.refusal ≡ None
accepted limit input k n None q = q
accepted limit input k n (Some f) q = absurd (refused_not_none limit input f (refused_has_fault limit input f k q) n)

pub answers_tell_all : AnswersTellAll
unfolding answers tokens_of_cut
answers_tell_all limit input k n =
    let r = ends_or_faults limit input k n in
    let q = (accepted_is_cut limit input (accepted limit input k n input.refusal refl)).0 in
    of_text_same input.encoding (tokens_of limit (course limit input)) (fit_course limit input k)
    ∙ ap (λ (z : List Token). map (handed_out input.encoding) (filter is_of_lexeme z)) r.2
    ∙ ap (λ (z : List Token). map (handed_out input.encoding) z) (lexemes_come_in_order (course limit input).read)
    ∙ ap (λ (z : List Laid). map (handed_out input.encoding) (StreamStart ∷ map (λ i. OfLexeme i.lexeme) (reverse z))) q
