-- Where reading a lexeme ends or is refused, and what the lexeme says.
use Rattle.std.proofs.Common.{◌≡◌, ℕ, ◌==◌, ◌++◌, Bool, true, false, if◌then◌else◌, not, ◌&&◌, ◌||◌, List, [], ◌∷◌, length, Option, Ok, Err, refl, ap, sym, ◌∙◌, subst, arith}
use Rattle.std.specs.Prelude.{Result, codes}
use Rattle.std.specs.Str.{bytes_eq}
use Rattle.yaml_text.specs.Classes.{is_alpha, is_blank}
use Rattle.yaml_text.specs.declared.types.yaml_scalar_style_t.TheVariants.{YAML_PLAIN_SCALAR_STYLE, YAML_SINGLE_QUOTED_SCALAR_STYLE, YAML_DOUBLE_QUOTED_SCALAR_STYLE, YAML_LITERAL_SCALAR_STYLE, YAML_FOLDED_SCALAR_STYLE}
use Rattle.yaml_text.specs.declared.types.yaml_token_type_t.{yaml_token_type_t}
use Rattle.yaml_text.specs.declared.types.yaml_token_type_t.TheVariants.{YAML_TAG_TOKEN, YAML_VERSION_DIRECTIVE_TOKEN, YAML_TAG_DIRECTIVE_TOKEN}
use Rattle.yaml_text.specs.Token.{TokenData as unnamed_yaml_token_t_data}
use Rattle.yaml_text.specs.Token.{TokenData as token}
use Rattle.yaml_lexeme.specs.declared.kind.yaml_lexeme_kind_t.TheVariants as kind
use Rattle.yaml_lexeme.specs.declared.lex.yaml_context_t.{yaml_context_t}
use Rattle.yaml_lexeme.specs.Lexeme.{Lexeme as yaml_lexeme_t}
use Rattle.yaml_lexeme.specs.Classes.{ends}
use Rattle.yaml_lexeme.specs.Place.{Place, first, place_at, skip, run, after_run}
use Rattle.yaml_lexeme.specs.Reading.{Found, Read, Offence, found, refuse, ◌>>=◌}
use Rattle.yaml_lexeme.specs.Block.{block, after_line}
use Rattle.yaml_lexeme.specs.Plain.{plain}
use Rattle.yaml_lexeme.specs.Quoted.{quoted}
use Rattle.yaml_lexeme.specs.Name.{name}
use Rattle.yaml_lexeme.specs.Uri.{uri, some_uri}
use Rattle.yaml_lexeme.specs.Tag.{tag, angled, handled, lone}
use Rattle.yaml_lexeme.specs.Directive.{directive, named, version_at, tag_directive_at, number, handle_at}
use Rattle.std.proofs.lemmas.Bool.{false≢true}
use Rattle.yaml_lexeme.specs.Lex.{lex, in_flow, least}
use Rattle.yaml_lexeme.specs.KindSets.{quoted_as}
use Rattle.yaml_lexeme.specs.Decider.{decides}
use Rattle.yaml_lexeme.specs.Lexeme.{whole_of, scalar_to, directive_to}
use Rattle.yaml_lexeme.specs.StreamEnd.{stream_end}
use Rattle.yaml_lexeme.specs.Locality.{reach}
use Rattle.yaml_lexeme.proofs.Places.PlaceMoves.{skip_none}
use Rattle.yaml_lexeme.proofs.Locality.LocalReaders.{EndsAt}
use Rattle.yaml_lexeme.proofs.Locality.ComposedReaders.{IsLike, local_of, Good, good_local}
use Rattle.yaml_lexeme.proofs.Locality.BlockLocality.{block_good}
use Rattle.yaml_lexeme.proofs.Locality.QuotedLocality.{quoted_good}
use Rattle.yaml_lexeme.proofs.Locality.DirectiveLocality.{directive_good}
use Rattle.yaml_lexeme.proofs.Locality.NameLocality.{name_good}
use Rattle.yaml_lexeme.proofs.Locality.TagLocality.{tag_good}
use Rattle.yaml_lexeme.proofs.Locality.PlainLocality.{plain_like}
use Rattle.yaml_scan.specs.Kind.{Kind}
use Rattle.yaml_scan.specs.Token.{type_of}
use Rattle.yaml_scan.specs.TokenTypes.{is_last_type}
use Rattle.yaml_scan.specs.TokenTypes.{is_end_type, is_start_type, is_key_type, is_value_type}
use Rattle.yaml_scan.specs.Cut.{SaysKind}
use Rattle.yaml_scan.specs.Source.{Reading, Offence as told_offence}
use Rattle.yaml_scan.specs.SourceOf.{count_to, reading, reading_of, source_of}
use Rattle.yaml_scan.specs.Sink.{said_len}
use Rattle.yaml_scan.specs.inside.TextReads.{IsRead}

-- WHERE IT ENDS
abbrev pub GoesOn : {A : Type 0} → Place → Read A → Type 0
GoesOn p r = (n : ℕ) × (reach r ≡ skip n p)

ends_on : {A : Type 0} (p : Place) (r : Read A) (n : ℕ) → EndsAt n p r → GoesOn p r
ends_on p (Ok f) n e = (n, e)
ends_on p (Err o) n e = (n, e)

-- by a good reader
good_on : {A : Type 0} (p : Place) (read : Place → Read A) → Good read → GoesOn p (read p)
good_on p read g = let x = good_local read g p in ends_on p (read p) x.count x.ends

like_on : {A : Type 0} (p : Place) (read : Place → Read A) → IsLike read → GoesOn p (read p)
like_on p read l = let x = local_of read l p in ends_on p (read p) x.count x.ends

-- and what is made of it
made_on : {A B : Type 0} (p : Place) (r : Read A) (make : Found A → B) → GoesOn p r → GoesOn p (r >>= λ x. found (make x) x.end)
made_on p (Ok x) make g = g
made_on p (Err o) make g = g

pub lex_goes_on : (k : Kind) (c : yaml_context_t) (p : Place) → GoesOn p (lex k c p)
unfolding lex
lex_goes_on kind.STREAM_END c p = (0, sym (skip_none p))
lex_goes_on kind.DIRECTIVE c p = made_on p (directive p) (λ x. directive_to p.mark x.value x.end.mark) (good_on p directive directive_good)
lex_goes_on kind.DOCUMENT_START c p = (3, refl)
lex_goes_on kind.DOCUMENT_END c p = (3, refl)
lex_goes_on kind.FLOW_SEQUENCE_START c p = (1, refl)
lex_goes_on kind.FLOW_MAPPING_START c p = (1, refl)
lex_goes_on kind.FLOW_SEQUENCE_END c p = (1, refl)
lex_goes_on kind.FLOW_MAPPING_END c p = (1, refl)
lex_goes_on kind.FLOW_ENTRY c p = (1, refl)
lex_goes_on kind.BLOCK_ENTRY c p = (1, refl)
lex_goes_on kind.KEY c p = (1, refl)
lex_goes_on kind.VALUE c p = (1, refl)
lex_goes_on kind.ALIAS c p = made_on p (name p) (λ x. whole_of (token.ALIAS x.value) p.mark x.end.mark) (good_on p name name_good)
lex_goes_on kind.ANCHOR c p = made_on p (name p) (λ x. whole_of (token.ANCHOR x.value) p.mark x.end.mark) (good_on p name name_good)
lex_goes_on kind.TAG c p = made_on p (tag (in_flow c) p) (λ x. whole_of x.value p.mark x.end.mark) (good_on p (tag (in_flow c)) (tag_good (in_flow c)))
lex_goes_on kind.LITERAL c p = made_on p (block false c.level p) (λ x. scalar_to YAML_LITERAL_SCALAR_STYLE p.mark x.value x.end.mark) (good_on p (block false c.level) (block_good false c.level))
lex_goes_on kind.FOLDED c p = made_on p (block true c.level p) (λ x. scalar_to YAML_FOLDED_SCALAR_STYLE p.mark x.value x.end.mark) (good_on p (block true c.level) (block_good true c.level))
lex_goes_on kind.SINGLE_QUOTED c p = made_on p (quoted true p) (λ x. whole_of (quoted_as YAML_SINGLE_QUOTED_SCALAR_STYLE x.value) p.mark x.end.mark) (good_on p (quoted true) (quoted_good true))
lex_goes_on kind.DOUBLE_QUOTED c p = made_on p (quoted false p) (λ x. whole_of (quoted_as YAML_DOUBLE_QUOTED_SCALAR_STYLE x.value) p.mark x.end.mark) (good_on p (quoted false) (quoted_good false))
lex_goes_on kind.PLAIN c p = made_on p (plain (in_flow c) (least c) p) (λ x. scalar_to YAML_PLAIN_SCALAR_STYLE p.mark x.value x.end.mark) (like_on p (plain (in_flow c) (least c)) (plain_like (in_flow c) (least c)))

-- WHAT IT SAYS
-- what is read passes a test
pub record Gives {A : Type 0} (test : A → Bool) (r : Result A Offence) : Type 0 where
  pub is : (x : A) → r ≡ Ok x → test x ≡ true

ok_same : {A : Type 0} (x y : A) (r : Result A Offence) → r ≡ Ok x → r ≡ Ok y → x ≡ y
ok_same x y r e f = cc

err_ok : {A : Type 0} {X : Type 0} (o : Offence) (x : A) (r : Result A Offence) → r ≡ Err o → r ≡ Ok x → X
err_ok o x r e f = cc

abbrev pub is_tag_type : yaml_token_type_t → Bool
is_tag_type YAML_TAG_TOKEN = true
is_tag_type _ = false

abbrev pub is_directive_type : yaml_token_type_t → Bool
is_directive_type YAML_VERSION_DIRECTIVE_TOKEN = true
is_directive_type YAML_TAG_DIRECTIVE_TOKEN = true
is_directive_type _ = false

found_gives : {A : Type 0} {test : Found A → Bool} {a : A} {q : Place} → test (record { value = a; end = q }) ≡ true → Gives test (found a q)
found_gives {A} {test} {a} {q} t = record { is = λ x e. ap test (sym (ok_same (record { value = a; end = q }) x (found a q) refl e)) ∙ t }

refuse_gives : {A : Type 0} {test : A → Bool} {problem : _} {q : Place} → Gives test (refuse problem q)
refuse_gives {A} {test} {problem} {q} = record { is = λ x e. err_ok (record { problem = problem; at = q }) x (refuse problem q) refl e }

if_gives : {A : Type 0} {test : A → Bool} {x y : Result A Offence} → (b : Bool) → Gives test x → Gives test y → Gives test (if b then x else y)
if_gives true g h = g
if_gives false g h = h

bind_gives : {A B : Type 0} {was : A → Bool} {test : B → Bool} {r : Result A Offence} {f : A → Result B Offence} → Gives was r → ((x : A) → was x ≡ true → Gives test (f x)) → Gives test (r >>= f)
bind_gives {A} {B} {was} {test} {r} {f} g k = go r refl
  where
    go : (s : Result A Offence) → r ≡ s → Gives test (s >>= f)
    go (Ok x) e = k x (g.is x e)
    go (Err o) e = record { is = λ x q. err_ok o x (Err o) refl q }

abbrev any : {A : Type 0} → A → Bool
any x = true

any_gives : {A : Type 0} (r : Result A Offence) → Gives any r
any_gives r = record { is = λ x e. refl }

-- TAGS AND DIRECTIVES
abbrev pub is_tag : Found unnamed_yaml_token_t_data → Bool
is_tag x = is_tag_type (type_of x.value)

abbrev pub is_directive : Found unnamed_yaml_token_t_data → Bool
is_directive x = is_directive_type (type_of x.value)

lone_is : (cs : List ℕ) → is_tag_type (type_of (lone cs)) ≡ true
lone_is [] = refl
lone_is (c ∷ cs) = refl

angled_gives : (p : Place) → Gives is_tag (angled p)
unfolding angled
angled_gives p = bind_gives (any_gives (some_uri true (skip 1 p))) (λ (r : Found (List ℕ)) e. if_gives (first r.end == 0x3E) (found_gives refl) refuse_gives)

handled_gives : (p : Place) → Gives is_tag (handled p)
unfolding handled
handled_gives p = if_gives (first (after_run is_alpha p) == 0x21)
    (bind_gives (any_gives (some_uri false (skip 1 (after_run is_alpha p)))) (λ (r : Found (List ℕ)) e. found_gives refl))
    (bind_gives (any_gives (uri false (after_run is_alpha p))) (λ (r : Found (List ℕ)) e. found_gives (lone_is (run is_alpha p ++ r.value))))

pub tag_gives : (flow : Bool) (p : Place) → Gives is_tag (tag flow p)
unfolding tag
tag_gives flow p = bind_gives {was = is_tag} (if_gives (first (skip 1 p) == 0x3C) (angled_gives (skip 1 p)) (handled_gives (skip 1 p))) (λ (t : Found unnamed_yaml_token_t_data) e. if_gives (ends (first t.end) || (flow && first t.end == 0x2C)) (found_gives e) refuse_gives)

version_gives : (p : Place) → Gives is_directive (version_at p)
unfolding version_at
version_gives p = bind_gives (any_gives (number (after_run is_blank p))) (λ (a : Found ℕ) e. if_gives (not (first a.end == 0x2E)) refuse_gives (bind_gives (any_gives (number (skip 1 a.end))) (λ (b : Found ℕ) d. found_gives refl)))

tag_directive_gives : (p : Place) → Gives is_directive (tag_directive_at p)
unfolding tag_directive_at
tag_directive_gives p = bind_gives (any_gives (handle_at (after_run is_blank p))) (λ (a : Found (List ℕ)) e. if_gives (not (is_blank (first a.end))) refuse_gives (bind_gives (any_gives (some_uri true (after_run is_blank a.end))) (λ (b : Found (List ℕ)) d. if_gives (not (ends (first b.end))) refuse_gives (found_gives refl))))

named_gives : (letters : List ℕ) (p : Place) → Gives is_directive (named letters p)
unfolding named
named_gives letters p = if_gives (bytes_eq letters (codes "YAML")) (version_gives p) (if_gives (bytes_eq letters (codes "TAG")) (tag_directive_gives p) refuse_gives)

-- of what a directive says
abbrev pub GivesIn : {A : Type 0} → Read A → (A → unnamed_yaml_token_t_data) → Type 0
GivesIn r says = Gives (λ x. is_directive_type (type_of (says x.value))) r

pub directive_gives : (p : Place) → GivesIn (directive p) (λ d. d.says)
unfolding directive
directive_gives p =
    let letters = run is_alpha (skip 1 p) in
    let end = after_run is_alpha (skip 1 p) in
    if_gives (length letters == 0) refuse_gives (if_gives (not (ends (first end))) refuse_gives
    (bind_gives {was = is_directive} (named_gives letters end) (λ (d : Found unnamed_yaml_token_t_data) e. bind_gives (any_gives (after_line d.end)) (λ (next : Place) u. found_gives e))))

-- EVERY KIND
-- what is made of what was read
made_says : {A : Type 0} (k : Kind) (r : Read A) (make : Found A → yaml_lexeme_t) (f : Found yaml_lexeme_t) → ((x : Found A) → r ≡ Ok x → SaysKind k (make x).token_data)
    → (r >>= λ x. found (make x) x.end) ≡ Ok f → SaysKind k f.value.token_data
made_says k r make f s e = go r refl e
  where
    go : (x : Read _) → r ≡ x → (x >>= λ y. found (make y) y.end) ≡ Ok f → SaysKind k f.value.token_data
    go (Ok x) q e = subst (λ (y : Found yaml_lexeme_t). SaysKind k y.value.token_data) (ok_same (record { value = make x; end = x.end }) f (found (make x) x.end) refl e) (s x q)
    go (Err o) q e = err_ok o f (Err o) refl e

found_says : (k : Kind) (l : yaml_lexeme_t) (q : Place) (f : Found yaml_lexeme_t) → SaysKind k l.token_data → found l q ≡ Ok f → SaysKind k f.value.token_data
found_says k l q f s e = subst (λ (x : Found yaml_lexeme_t). SaysKind k x.value.token_data) (ok_same (record { value = l; end = q }) f (found l q) refl e) s

tag_says : (t : yaml_token_type_t) → is_tag_type t ≡ true → (is_key_type t ≡ false) × (is_value_type t ≡ false) × (is_last_type t ≡ false) × (is_start_type t ≡ false) × (is_end_type t ≡ false)
tag_says t e = (grind arith, grind arith, grind arith, grind arith, grind arith)

directive_says : (t : yaml_token_type_t) → is_directive_type t ≡ true → (is_key_type t ≡ false) × (is_value_type t ≡ false) × (is_last_type t ≡ false) × (is_start_type t ≡ false) × (is_end_type t ≡ false)
directive_says t e = (grind arith, grind arith, grind arith, grind arith, grind arith)

pub says_kind : (k : Kind) (c : yaml_context_t) (p : Place) (f : Found yaml_lexeme_t) → lex k c p ≡ Ok f → SaysKind k f.value.token_data
unfolding lex
says_kind kind.STREAM_END c p f e = found_says kind.STREAM_END (whole_of token.STREAM_END (stream_end p.mark) (stream_end p.mark)) p f (record { key = refl; value = refl; last = refl; no_start = refl; no_end = refl }) e
says_kind kind.DOCUMENT_START c p f e = found_says kind.DOCUMENT_START (whole_of token.DOCUMENT_START p.mark (skip 3 p).mark) (skip 3 p) f (record { key = refl; value = refl; last = refl; no_start = refl; no_end = refl }) e
says_kind kind.DOCUMENT_END c p f e = found_says kind.DOCUMENT_END (whole_of token.DOCUMENT_END p.mark (skip 3 p).mark) (skip 3 p) f (record { key = refl; value = refl; last = refl; no_start = refl; no_end = refl }) e
says_kind kind.FLOW_SEQUENCE_START c p f e = found_says kind.FLOW_SEQUENCE_START (whole_of token.FLOW_SEQUENCE_START p.mark (skip 1 p).mark) (skip 1 p) f (record { key = refl; value = refl; last = refl; no_start = refl; no_end = refl }) e
says_kind kind.FLOW_MAPPING_START c p f e = found_says kind.FLOW_MAPPING_START (whole_of token.FLOW_MAPPING_START p.mark (skip 1 p).mark) (skip 1 p) f (record { key = refl; value = refl; last = refl; no_start = refl; no_end = refl }) e
says_kind kind.FLOW_SEQUENCE_END c p f e = found_says kind.FLOW_SEQUENCE_END (whole_of token.FLOW_SEQUENCE_END p.mark (skip 1 p).mark) (skip 1 p) f (record { key = refl; value = refl; last = refl; no_start = refl; no_end = refl }) e
says_kind kind.FLOW_MAPPING_END c p f e = found_says kind.FLOW_MAPPING_END (whole_of token.FLOW_MAPPING_END p.mark (skip 1 p).mark) (skip 1 p) f (record { key = refl; value = refl; last = refl; no_start = refl; no_end = refl }) e
says_kind kind.FLOW_ENTRY c p f e = found_says kind.FLOW_ENTRY (whole_of token.FLOW_ENTRY p.mark (skip 1 p).mark) (skip 1 p) f (record { key = refl; value = refl; last = refl; no_start = refl; no_end = refl }) e
says_kind kind.BLOCK_ENTRY c p f e = found_says kind.BLOCK_ENTRY (whole_of token.BLOCK_ENTRY p.mark (skip 1 p).mark) (skip 1 p) f (record { key = refl; value = refl; last = refl; no_start = refl; no_end = refl }) e
says_kind kind.KEY c p f e = found_says kind.KEY (whole_of token.KEY p.mark (skip 1 p).mark) (skip 1 p) f (record { key = refl; value = refl; last = refl; no_start = refl; no_end = refl }) e
says_kind kind.VALUE c p f e = found_says kind.VALUE (whole_of token.VALUE p.mark (skip 1 p).mark) (skip 1 p) f (record { key = refl; value = refl; last = refl; no_start = refl; no_end = refl }) e
says_kind kind.DIRECTIVE c p f e = made_says kind.DIRECTIVE (directive p) (λ x. directive_to p.mark x.value x.end.mark) f (λ x q. let t = directive_says (type_of x.value.says) ((directive_gives p).is x q) in record { key = t.0; value = t.1; last = t.2; no_start = t.3; no_end = t.4 }) e
says_kind kind.TAG c p f e = made_says kind.TAG (tag (in_flow c) p) (λ x. whole_of x.value p.mark x.end.mark) f (λ x q. let t = tag_says (type_of x.value) ((tag_gives (in_flow c) p).is x q) in record { key = t.0; value = t.1; last = t.2; no_start = t.3; no_end = t.4 }) e
says_kind kind.ALIAS c p f e = made_says kind.ALIAS (name p) (λ x. whole_of (token.ALIAS x.value) p.mark x.end.mark) f (λ x q. record { key = refl; value = refl; last = refl; no_start = refl; no_end = refl }) e
says_kind kind.ANCHOR c p f e = made_says kind.ANCHOR (name p) (λ x. whole_of (token.ANCHOR x.value) p.mark x.end.mark) f (λ x q. record { key = refl; value = refl; last = refl; no_start = refl; no_end = refl }) e
says_kind kind.LITERAL c p f e = made_says kind.LITERAL (block false c.level p) (λ x. scalar_to YAML_LITERAL_SCALAR_STYLE p.mark x.value x.end.mark) f (λ x q. record { key = refl; value = refl; last = refl; no_start = refl; no_end = refl }) e
says_kind kind.FOLDED c p f e = made_says kind.FOLDED (block true c.level p) (λ x. scalar_to YAML_FOLDED_SCALAR_STYLE p.mark x.value x.end.mark) f (λ x q. record { key = refl; value = refl; last = refl; no_start = refl; no_end = refl }) e
says_kind kind.SINGLE_QUOTED c p f e = made_says kind.SINGLE_QUOTED (quoted true p) (λ x. whole_of (quoted_as YAML_SINGLE_QUOTED_SCALAR_STYLE x.value) p.mark x.end.mark) f (λ x q. record { key = refl; value = refl; last = refl; no_start = refl; no_end = refl }) e
says_kind kind.DOUBLE_QUOTED c p f e = made_says kind.DOUBLE_QUOTED (quoted false p) (λ x. whole_of (quoted_as YAML_DOUBLE_QUOTED_SCALAR_STYLE x.value) p.mark x.end.mark) f (λ x q. record { key = refl; value = refl; last = refl; no_start = refl; no_end = refl }) e
says_kind kind.PLAIN c p f e = made_says kind.PLAIN (plain (in_flow c) (least c) p) (λ x. scalar_to YAML_PLAIN_SCALAR_STYLE p.mark x.value x.end.mark) f (λ x q. record { key = refl; value = refl; last = refl; no_start = refl; no_end = refl }) e

abbrev ok_reading : Reading → Result Reading told_offence
ok_reading a = Ok a

one_reading : (a b : Reading) → ok_reading a ≡ ok_reading b → a ≡ b
one_reading a b e = cc

-- a lexeme that was read says its kind
pub read_says : (cs : List ℕ) (k : Kind) (d : ℕ) (l : Option ℕ) (p : ℕ) (x : yaml_lexeme_t) → IsRead cs k d l p x → SaysKind k x.token_data
unfolding source_of
read_says cs k d l p x r = go (lex k (record { depth = d; level = l }) (place_at cs p)) refl r.1
  where
    go : (o : Read yaml_lexeme_t) → lex k (record { depth = d; level = l }) (place_at cs p) ≡ o → reading_of (length cs) k (place_at cs p) o ≡ Ok (reading x r.0) → SaysKind k x.token_data
    go (Ok f) e q = let w : f.value.token_data ≡ x.token_data = same q in subst (λ (z : unnamed_yaml_token_t_data). SaysKind k z) w (says_kind k (record { depth = d; level = l }) (place_at cs p) f e)
      where
        same : reading_of (length cs) k (place_at cs p) (Ok f) ≡ Ok (reading x r.0) → f.value.token_data ≡ x.token_data
        same q = ap (λ (z : Reading). z.token_data) (one_reading (reading f.value (count_to (length cs) f.end)) (reading x r.0) q)
    go (Err e) w q = absurd (cc)

-- what decides whether a candidate is a key has no text
found_silent : (l : yaml_lexeme_t) (q : Place) (f : Found yaml_lexeme_t) → said_len l.token_data ≡ 0 → found l q ≡ Ok f → said_len f.value.token_data ≡ 0
found_silent l q f s e = subst (λ (x : Found yaml_lexeme_t). said_len x.value.token_data ≡ 0) (ok_same (record { value = l; end = q }) f (found l q) refl e) s

decider_found : (flow : Bool) (k : Kind) (c : yaml_context_t) (p : Place) (f : Found yaml_lexeme_t) → decides flow k ≡ true → lex k c p ≡ Ok f → said_len f.value.token_data ≡ 0
unfolding lex
decider_found flow kind.VALUE c p f d e = found_silent (whole_of token.VALUE p.mark (skip 1 p).mark) (skip 1 p) f refl e
decider_found flow kind.FLOW_ENTRY c p f d e = found_silent (whole_of token.FLOW_ENTRY p.mark (skip 1 p).mark) (skip 1 p) f refl e
decider_found flow kind.FLOW_SEQUENCE_END c p f d e = found_silent (whole_of token.FLOW_SEQUENCE_END p.mark (skip 1 p).mark) (skip 1 p) f refl e
decider_found flow kind.FLOW_MAPPING_END c p f d e = found_silent (whole_of token.FLOW_MAPPING_END p.mark (skip 1 p).mark) (skip 1 p) f refl e
decider_found flow k c p f d e = absurd (false≢true d)

pub decider_silent : (cs : List ℕ) (flow : Bool) (k : Kind) (d : ℕ) (l : Option ℕ) (p : ℕ) (x : yaml_lexeme_t) → decides flow k ≡ true → IsRead cs k d l p x → said_len x.token_data ≡ 0
unfolding source_of
decider_silent cs flow k d l p x D r = go (lex k (record { depth = d; level = l }) (place_at cs p)) refl r.1
  where
    go : (o : Read yaml_lexeme_t) → lex k (record { depth = d; level = l }) (place_at cs p) ≡ o → reading_of (length cs) k (place_at cs p) o ≡ Ok (reading x r.0) → said_len x.token_data ≡ 0
    go (Ok f) e q = let w : f.value.token_data ≡ x.token_data = same q in subst (λ (z : unnamed_yaml_token_t_data). said_len z ≡ 0) w (decider_found flow k (record { depth = d; level = l }) (place_at cs p) f D e)
      where
        same : reading_of (length cs) k (place_at cs p) (Ok f) ≡ Ok (reading x r.0) → f.value.token_data ≡ x.token_data
        same q = ap (λ (z : Reading). z.token_data) (one_reading (reading f.value (count_to (length cs) f.end)) (reading x r.0) q)
    go (Err e) w q = absurd (cc)
