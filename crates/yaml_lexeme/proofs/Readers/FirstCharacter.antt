-- A lexeme of one character begins with one of ASCII that is no break.
use Rattle.std.proofs.Common.{◌≡◌, ℕ, ◌<◌, Bool, true, false, not, ◌==◌, ◌&&◌, ◌||◌, if◌then◌else◌, Option, Some, refl, sym, ◌∙◌, subst, arith}
use Rattle.std.proofs.lemmas.Bool.{and_parts, false≢true}
use Rattle.std.proofs.Common.{eqb-true}
use Rattle.yaml_text.specs.Classes.{is_break, is_z}
use Rattle.yaml_lexeme.specs.Classes.{ends}
use Rattle.yaml_lexeme.specs.Kind.{is_marker_of, starts_plain, kind_at}
use Rattle.yaml_lexeme.specs.KindSets.{is_character}
use Rattle.yaml_lexeme.specs.Place.{Place, first, peek}
use Rattle.yaml_lexeme.specs.declared.kind.yaml_lexeme_kind_t.{yaml_lexeme_kind_t}
use Rattle.yaml_lexeme.specs.declared.kind.yaml_lexeme_kind_t.TheVariants as kind

pub record IsSingle (c : ℕ) : Type 0 where
  pub some : 0 < c
  pub ascii : c < 0x80
  pub inside : is_break c ≡ false

-- a row of another kind, and one of a character
other : (b : Bool) (j k : yaml_lexeme_kind_t) (rest : Option yaml_lexeme_kind_t) (c : ℕ) → (if b then Some j else rest) ≡ Some k → is_character k ≡ true → is_character j ≡ false → (rest ≡ Some k → IsSingle c) → IsSingle c
other true j k rest c h o e f = let q : j ≡ k = cc in absurd (false≢true (sym e ∙ subst (λ (z : yaml_lexeme_kind_t). is_character z ≡ true) (sym q) o))
other false j k rest c h o e f = f h

this : (b : Bool) (j k : yaml_lexeme_kind_t) (rest : Option yaml_lexeme_kind_t) (c : ℕ) → (if b then Some j else rest) ≡ Some k → (b ≡ true → IsSingle c) → (rest ≡ Some k → IsSingle c) → IsSingle c
this true j k rest c h g f = g refl
this false j k rest c h g f = f h

pub single : (n c : ℕ) → (c == n) ≡ true → IsSingle n → IsSingle c
single n c e i = subst IsSingle (sym (eqb-true c n e)) i

pub first_single : (flow : Bool) (p : Place) (k : yaml_lexeme_kind_t) → kind_at flow p ≡ Some k → is_character k ≡ true → IsSingle (first p)
unfolding kind_at
first_single flow p k h o =
    let c = first p in
    let alone = ends (peek p 1) in
    other (is_z c) kind.STREAM_END k _ c h o refl (λ h1.
    other (p.mark.column == 0 && c == 0x25) kind.DIRECTIVE k _ c h1 o refl (λ h2.
    other (is_marker_of 0x2D p) kind.DOCUMENT_START k _ c h2 o refl (λ h3.
    other (is_marker_of 0x2E p) kind.DOCUMENT_END k _ c h3 o refl (λ h4.
    this (c == 0x5B) kind.FLOW_SEQUENCE_START k _ c h4 (λ e. single 0x5B c e (record { some = omega arith; ascii = omega arith; inside = refl })) (λ h5.
    this (c == 0x7B) kind.FLOW_MAPPING_START k _ c h5 (λ e. single 0x7B c e (record { some = omega arith; ascii = omega arith; inside = refl })) (λ h6.
    this (c == 0x5D) kind.FLOW_SEQUENCE_END k _ c h6 (λ e. single 0x5D c e (record { some = omega arith; ascii = omega arith; inside = refl })) (λ h7.
    this (c == 0x7D) kind.FLOW_MAPPING_END k _ c h7 (λ e. single 0x7D c e (record { some = omega arith; ascii = omega arith; inside = refl })) (λ h8.
    this (c == 0x2C) kind.FLOW_ENTRY k _ c h8 (λ e. single 0x2C c e (record { some = omega arith; ascii = omega arith; inside = refl })) (λ h9.
    this (c == 0x2D && alone) kind.BLOCK_ENTRY k _ c h9 (λ e. single 0x2D c (and_parts _ _ e).0 (record { some = omega arith; ascii = omega arith; inside = refl })) (λ h10.
    this (c == 0x3F && (flow || alone)) kind.KEY k _ c h10 (λ e. single 0x3F c (and_parts _ _ e).0 (record { some = omega arith; ascii = omega arith; inside = refl })) (λ h11.
    this (c == 0x3A && (flow || alone)) kind.VALUE k _ c h11 (λ e. single 0x3A c (and_parts _ _ e).0 (record { some = omega arith; ascii = omega arith; inside = refl })) (λ h12.
    other (c == 0x2A) kind.ALIAS k _ c h12 o refl (λ h13.
    other (c == 0x26) kind.ANCHOR k _ c h13 o refl (λ h14.
    other (c == 0x21) kind.TAG k _ c h14 o refl (λ h15.
    other (c == 0x7C && not flow) kind.LITERAL k _ c h15 o refl (λ h16.
    other (c == 0x3E && not flow) kind.FOLDED k _ c h16 o refl (λ h17.
    other (c == 0x27) kind.SINGLE_QUOTED k _ c h17 o refl (λ h18.
    other (c == 0x22) kind.DOUBLE_QUOTED k _ c h18 o refl (λ h19.
    other (starts_plain flow c) kind.PLAIN k _ c h19 o refl (λ h20. absurd (cc)))))))))))))))))))))
