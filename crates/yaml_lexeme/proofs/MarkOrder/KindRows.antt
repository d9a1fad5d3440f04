-- What the kind that is at a place says of the characters there.
use Rattle.std.proofs.Common.{◌≡◌, ℕ, Bool, true, false, not, ◌==◌, ◌&&◌, ◌||◌, if◌then◌else◌, inl, inr, Option, Some, None, refl, subst, arith, eqb-true}
use Rattle.std.proofs.lemmas.Bool.{cases_Bool, and_parts}
use Rattle.std.proofs.lemmas.Bool.Decides.{nat_tests}
use Rattle.yaml_lexeme.proofs.CountedMarks.WholePlaces.{is_not}
use Rattle.yaml_lexeme.specs.Classes.{ends}
use Rattle.yaml_lexeme.specs.Kind.{is_marker_of, is_indicator, starts_plain, kind_at}
use Rattle.yaml_lexeme.specs.Place.{Place, first, peek}
use Rattle.yaml_lexeme.specs.Plain.{is_chunk}
use Rattle.yaml_lexeme.specs.declared.kind.yaml_lexeme_kind_t.{yaml_lexeme_kind_t}
use Rattle.yaml_lexeme.specs.declared.kind.yaml_lexeme_kind_t.TheVariants as kind
use Rattle.yaml_text.specs.Classes.{is_z}

-- no lexeme begins with a CR
no_kind : (flow : Bool) (p : Place) → first p ≡ 0x0D → kind_at flow p ≡ None
unfolding kind_at
no_kind true p h = elim (cases_Bool (p.mark.column == 0)) [ inl c ↦ rw (h, c) refl | inr c ↦ rw (h, c) refl ]
no_kind false p h = elim (cases_Bool (p.mark.column == 0)) [ inl c ↦ rw (h, c) refl | inr c ↦ rw (h, c) refl ]

is_cr : (c : ℕ) → (c == 0x0D) ≡ true → c ≡ 0x0D
is_cr c h = grind (arith, nat_tests)

pub starts : (flow : Bool) (k : yaml_lexeme_kind_t) (p : Place) → kind_at flow p ≡ Some k → (first p == 0x0D) ≡ false
starts flow k p h =
    elim (cases_Bool (first p == 0x0D)) [
      | inl e ↦ let none : kind_at flow p ≡ None = no_kind flow p (is_cr (first p) e) in absurd (cc (none, h))
      | inr f ↦ f
    ]

-- the third character of a document marker is no CR
pub third : (c : ℕ) (p : Place) → (c == 0x0D) ≡ false → is_marker_of c p ≡ true → (peek p 2 == 0x0D) ≡ false
third c p n h = is_not (peek p 2) c n (and_parts (peek p 2 == c) (ends (peek p 3)) (and_parts (p.mark.column == 0 && (peek p 0 == c && peek p 1 == c)) (peek p 2 == c && ends (peek p 3)) h).1).0

chunk_from : (flow : Bool) (c d : ℕ) → (c == 0x3A && (flow || ends d)) ≡ false → (not (ends c || is_indicator c) || (c == 0x2D || (not flow && (c == 0x3F || c == 0x3A)))) ≡ true → is_chunk flow c d ≡ true
chunk_from true c d h s = grind (arith, nat_tests)
chunk_from false c d h s = grind (arith, nat_tests)

-- at a stream end there is no character, a document marker is its three characters, and a plain scalar starts with a character of a chunk
abbrev pub KindFact : Bool → Place → yaml_lexeme_kind_t → Type 0
KindFact flow p kind.STREAM_END = first p ≡ 0
KindFact flow p kind.DOCUMENT_START = is_marker_of 0x2D p ≡ true
KindFact flow p kind.DOCUMENT_END = is_marker_of 0x2E p ≡ true
KindFact flow p kind.PLAIN = is_chunk flow (first p) (peek p 1) ≡ true
KindFact flow p k = Unit {0}

row : (F : yaml_lexeme_kind_t → Type 0) (b : Bool) (j k : yaml_lexeme_kind_t) (rest : Option yaml_lexeme_kind_t) → (if b then Some j else rest) ≡ Some k → (b ≡ true → F j) → (b ≡ false → rest ≡ Some k → F k) → F k
row F true j k rest h this next = let e : j ≡ k = cc in subst F e (this refl)
row F false j k rest h this next = next refl h

pub kind_says : (flow : Bool) (k : yaml_lexeme_kind_t) (p : Place) → kind_at flow p ≡ Some k → KindFact flow p k
unfolding kind_at
kind_says flow k p h =
    let c = first p in
    let alone = ends (peek p 1) in
    let F : yaml_lexeme_kind_t → Type 0 = λ i. KindFact flow p i in
    row F (is_z c) kind.STREAM_END k _ h (λ e. eqb-true c 0 e) (λ off h1.
    row F (p.mark.column == 0 && c == 0x25) kind.DIRECTIVE k _ h1 (λ e. tt) (λ off h2.
    row F (is_marker_of 0x2D p) kind.DOCUMENT_START k _ h2 (λ e. e) (λ off h3.
    row F (is_marker_of 0x2E p) kind.DOCUMENT_END k _ h3 (λ e. e) (λ off h4.
    row F (c == 0x5B) kind.FLOW_SEQUENCE_START k _ h4 (λ e. tt) (λ off h5.
    row F (c == 0x7B) kind.FLOW_MAPPING_START k _ h5 (λ e. tt) (λ off h6.
    row F (c == 0x5D) kind.FLOW_SEQUENCE_END k _ h6 (λ e. tt) (λ off h7.
    row F (c == 0x7D) kind.FLOW_MAPPING_END k _ h7 (λ e. tt) (λ off h8.
    row F (c == 0x2C) kind.FLOW_ENTRY k _ h8 (λ e. tt) (λ off h9.
    row F (c == 0x2D && alone) kind.BLOCK_ENTRY k _ h9 (λ e. tt) (λ off h10.
    row F (c == 0x3F && (flow || alone)) kind.KEY k _ h10 (λ e. tt) (λ off h11.
    row F (c == 0x3A && (flow || alone)) kind.VALUE k _ h11 (λ e. tt) (λ colon h12.
    row F (c == 0x2A) kind.ALIAS k _ h12 (λ e. tt) (λ off h13.
    row F (c == 0x26) kind.ANCHOR k _ h13 (λ e. tt) (λ off h14.
    row F (c == 0x21) kind.TAG k _ h14 (λ e. tt) (λ off h15.
    row F (c == 0x7C && not flow) kind.LITERAL k _ h15 (λ e. tt) (λ off h16.
    row F (c == 0x3E && not flow) kind.FOLDED k _ h16 (λ e. tt) (λ off h17.
    row F (c == 0x27) kind.SINGLE_QUOTED k _ h17 (λ e. tt) (λ off h18.
    row F (c == 0x22) kind.DOUBLE_QUOTED k _ h18 (λ e. tt) (λ off h19.
    row F (starts_plain flow c) kind.PLAIN k _ h19 (λ e. chunk_from flow c (peek p 1) colon e) (λ off h20.
    absurd cc))))))))))))))))))))
