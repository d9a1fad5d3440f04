-- Lexemes of every kind are local, and their problems are ahead.
use Rattle.std.proofs.Common.{◌≡◌, ℕ, ◌+◌, refl, true, false, Ok, Err, sym, ap, ◌∙◌, subst}
use Rattle.yaml_lexeme.specs.declared.kind.yaml_lexeme_kind_t.TheVariants as kind
use Rattle.yaml_text.specs.Token.{TokenData as token}
use Rattle.yaml_lexeme.proofs.MarkOrder.ReadingAhead.{ahead_any}
use Rattle.yaml_lexeme.proofs.Locality.BlockLocality.{block_good}
use Rattle.yaml_lexeme.proofs.Locality.QuotedLocality.{quoted_good}
use Rattle.yaml_lexeme.proofs.Locality.DirectiveLocality.{directive_good}
use Rattle.yaml_lexeme.proofs.Locality.AgreeingPlaces.{Agree}
use Rattle.yaml_lexeme.proofs.Locality.ComposedReaders.{local_of, good_local}
use Rattle.yaml_lexeme.proofs.Locality.LocalReaders.{agree_skip, EndsAt, Local, IsLocalTo, is_local_to, is_local}
use Rattle.yaml_lexeme.proofs.Locality.NameLocality.{name_good}
use Rattle.yaml_lexeme.proofs.Locality.TagLocality.{tag_good}
use Rattle.yaml_lexeme.proofs.Places.PlaceMoves.{skip_none}
use Rattle.yaml_lexeme.proofs.Locality.PlainLocality.{plain_like}
use Rattle.yaml_lexeme.specs.Block.{block}
use Rattle.yaml_lexeme.specs.Directive.{directive}
use Rattle.yaml_lexeme.specs.Lex.{lex, in_flow, least, says_of}
use Rattle.yaml_lexeme.specs.KindSets.{quoted_as}
use Rattle.yaml_lexeme.specs.StreamEnd.{stream_end, at_end}
use Rattle.yaml_lexeme.specs.Locality.{move, LexIsLocal}
use Rattle.yaml_lexeme.specs.Name.{name}
use Rattle.yaml_lexeme.specs.Order.{IsBeyond, OffenceIsBeyond}
use Rattle.yaml_lexeme.specs.Place.{Place, skip}
use Rattle.yaml_lexeme.specs.Plain.{plain}
use Rattle.yaml_lexeme.specs.Quoted.{quoted}
use Rattle.yaml_lexeme.specs.Reading.{Read, found}
use Rattle.yaml_lexeme.specs.Tag.{tag}
use Rattle.yaml_lexeme.specs.declared.kind.yaml_lexeme_kind_t.{yaml_lexeme_kind_t}
use Rattle.yaml_lexeme.specs.declared.lex.yaml_context_t.{yaml_context_t}
use Rattle.yaml_lexeme.specs.Lexeme.{Lexeme, lexeme, whole_of, whole, scalar_to, directive_to}
use Rattle.yaml_text.specs.declared.types.yaml_mark_t.{yaml_mark_t}
use Rattle.yaml_text.specs.declared.types.yaml_scalar_style_t.TheVariants.{YAML_PLAIN_SCALAR_STYLE, YAML_SINGLE_QUOTED_SCALAR_STYLE, YAML_DOUBLE_QUOTED_SCALAR_STYLE, YAML_LITERAL_SCALAR_STYLE, YAML_FOLDED_SCALAR_STYLE}

-- a reader, and the lexeme that is made of it
made_ends : {A : Type 0} (make : yaml_mark_t → A → yaml_mark_t → Lexeme) (k : ℕ) (p : Place) (r : Read A) → EndsAt k p r → EndsAt k p (lexeme make p r)
made_ends make k p (Ok f) h = h
made_ends make k p (Err e) h = h

made_same : {A : Type 0} (make : yaml_mark_t → A → yaml_mark_t → Lexeme) (k : ℕ) (p q : Place) (r : Read A) → p.mark ≡ q.mark → EndsAt k p r → Agree (k + 8) p q → lexeme make q (move r (skip k q)) ≡ move (lexeme make p r) (skip k q)
made_same make k p q (Ok f) m e a =
    let end : (skip k q).mark ≡ f.end.mark = sym ((agree_skip k 7 p q a).mark) ∙ ap (λ (x : Place). x.mark) (sym e) in
    ap (λ (n : yaml_mark_t). found (make n f.value (skip k q).mark) (skip k q)) (sym m) ∙ ap (λ (n : yaml_mark_t). found (make p.mark f.value n) (skip k q)) end
made_same make k p q (Err o) m e a = refl

made_local : {A : Type 0} (make : yaml_mark_t → A → yaml_mark_t → Lexeme) (read : Place → Read A) (p : Place) → Local read p → Local (λ x. lexeme make x (read x)) p
made_local make read p l = record {
  count = l.count;
  ends = made_ends make l.count p (read p) l.ends;
  same = λ q a. ap (lexeme make q) (l.same q a) ∙ made_same make l.count p q (read p) a.mark l.ends a;
}

some_local : (k : yaml_lexeme_kind_t) (i : ℕ) (p : Place) → Local (λ x. lexeme (whole says_of) x (found k (skip i x))) p
some_local k i p = made_local (whole says_of) (λ x. found k (skip i x)) p (record { count = i; ends = refl; same = λ q a. refl })

end_local : (p : Place) → Local at_end p
end_local p = record {
  count = 0;
  ends = sym (skip_none p);
  same = λ q a. ap (λ (e : yaml_mark_t). found (whole_of token.STREAM_END (stream_end e) (stream_end e)) q) (sym a.mark) ∙ ap (λ (x : Place). found (whole_of token.STREAM_END (stream_end p.mark) (stream_end p.mark)) x) (sym (skip_none q));
}

lex_local : (k : yaml_lexeme_kind_t) (c : yaml_context_t) (p : Place) → Local (lex k c) p
unfolding lex
lex_local kind.STREAM_END c p = end_local p
lex_local kind.DIRECTIVE c p = made_local directive_to directive p (good_local directive directive_good p)
lex_local kind.DOCUMENT_START c p = some_local kind.DOCUMENT_START 3 p
lex_local kind.DOCUMENT_END c p = some_local kind.DOCUMENT_END 3 p
lex_local kind.FLOW_SEQUENCE_START c p = some_local kind.FLOW_SEQUENCE_START 1 p
lex_local kind.FLOW_MAPPING_START c p = some_local kind.FLOW_MAPPING_START 1 p
lex_local kind.FLOW_SEQUENCE_END c p = some_local kind.FLOW_SEQUENCE_END 1 p
lex_local kind.FLOW_MAPPING_END c p = some_local kind.FLOW_MAPPING_END 1 p
lex_local kind.FLOW_ENTRY c p = some_local kind.FLOW_ENTRY 1 p
lex_local kind.BLOCK_ENTRY c p = some_local kind.BLOCK_ENTRY 1 p
lex_local kind.KEY c p = some_local kind.KEY 1 p
lex_local kind.VALUE c p = some_local kind.VALUE 1 p
lex_local kind.ALIAS c p = made_local (whole token.ALIAS) name p (good_local name name_good p)
lex_local kind.ANCHOR c p = made_local (whole token.ANCHOR) name p (good_local name name_good p)
lex_local kind.TAG c p = made_local (whole (λ t. t)) (tag (in_flow c)) p (good_local (tag (in_flow c)) (tag_good (in_flow c)) p)
lex_local kind.SINGLE_QUOTED c p = made_local (whole (quoted_as YAML_SINGLE_QUOTED_SCALAR_STYLE)) (quoted true) p (good_local (quoted true) (quoted_good true) p)
lex_local kind.DOUBLE_QUOTED c p = made_local (whole (quoted_as YAML_DOUBLE_QUOTED_SCALAR_STYLE)) (quoted false) p (good_local (quoted false) (quoted_good false) p)
lex_local kind.LITERAL c p = made_local (scalar_to YAML_LITERAL_SCALAR_STYLE) (block false c.level) p (good_local (block false c.level) (block_good false c.level) p)
lex_local kind.FOLDED c p = made_local (scalar_to YAML_FOLDED_SCALAR_STYLE) (block true c.level) p (good_local (block true c.level) (block_good true c.level) p)
lex_local kind.PLAIN c p = made_local (scalar_to YAML_PLAIN_SCALAR_STYLE) (plain (in_flow c) (least c)) p (local_of (plain (in_flow c) (least c)) (plain_like (in_flow c) (least c)) p)

pub lex_local_to : (k : yaml_lexeme_kind_t) (c : yaml_context_t) → IsLocalTo (lex k c)
lex_local_to k c = is_local_to (lex k c) (lex_local k c)

pub lex_is_local : LexIsLocal
lex_is_local k c = is_local (lex k c) (lex_local k c)

-- an offence is ahead
abbrev Offends : Place → Read Lexeme → Type 0
Offends p (Ok f) = Unit {0}
Offends p (Err e) = IsBeyond 0 p e.at

offends : (p : Place) (n : ℕ) (r : Read Lexeme) → EndsAt n p r → Offends p r
offends p n (Ok f) h = tt
offends p n (Err e) h = subst (λ (x : Place). IsBeyond 0 p x) (sym h) (ahead_any n p)

pub offence_is_ahead : OffenceIsBeyond
offence_is_ahead k c p e h = let l = lex_local k c p in subst (λ (r : Read Lexeme). Offends p r) h (offends p l.count (lex k c p) l.ends)
