-- Headers of literal and folded scalars are good.
use Rattle.std.proofs.Common.{◌≡◌, ℕ, ◌-◌, true, false, not, ◌==◌, ◌&&◌, Option, Some, is_some, refl, sym, ap, arith}
use Rattle.std.proofs.lemmas.Bool.{and_parts, not-false}
use Rattle.yaml_lexeme.proofs.CountedMarks.WholePlaces.{parts, whole_after, other}
use Rattle.yaml_lexeme.proofs.Locality.ComposedReaders.{IsLike, like_found, found_here, refuse_here, like_case, like_if, like_on, like_bind, like_same, like_map}
use Rattle.yaml_lexeme.specs.Block.{header_of, is_sign, sign_of, digit_at, header_at}
use Rattle.yaml_lexeme.specs.Place.{Place, first, skip}
use Rattle.yaml_lexeme.specs.Reading.{found, ◌>>=◌}
use Rattle.yaml_lexeme.specs.declared.block.header_t.{header_t}
use Rattle.yaml_text.specs.Classes.{is_digit}

digit_like : IsLike digit_at
unfolding digit_at
digit_like n p q a =
    like_case (not (is_digit (first p))) (not (is_digit (first q))) (λ h. rw (a.same 0 (omega arith)) refl) (λ e. found_here) (λ e.
    like_if (first p == 0x30) (first q == 0x30) (λ h. rw (a.same 0 (omega arith)) refl) refuse_here
    (like_found 1 refl (whole_after 0 p (other is_digit refl (first p) (not-false (is_digit (first p)) e))) (λ h. refl) (λ h. ap (λ (c : ℕ). Some (c - 0x30)) (sym (a.same 0 (omega arith))))))

abbrev signed : ℕ → Option ℕ → header_t
signed c d = header_of (sign_of c) d

sign_whole : (p : Place) → is_sign (first p) ≡ true → parts p.rest 1 ≡ false
sign_whole p e = whole_after 0 p (other is_sign refl (first p) e)

pub header_like : IsLike header_at
unfolding header_at
header_like n p q a =
    like_case (is_sign (first p)) (is_sign (first q)) (λ h. rw (a.same 0 (omega arith)) refl)
    (λ e. like_same (λ h. ap (λ (c : ℕ). digit_at (skip 1 q) >>= λ d. found (signed c d.value) d.end) (sym (a.same 0 (omega arith))))
    (like_map (signed (first p)) (like_on digit_at digit_like n 1 p q a (sign_whole p e))))
    (λ e. like_bind _ _ a (digit_like n p q a) (λ x z m b.
    like_case (is_some x.value && is_sign (first x.end)) (is_some x.value && is_sign (first z)) (λ h. rw (b.same 0 (omega arith)) refl)
    (λ s. like_found 1 refl (sign_whole x.end (and_parts (is_some x.value) (is_sign (first x.end)) s).1) (λ h. refl) (λ h. ap (λ (c : ℕ). signed c x.value) (sym (b.same 0 (omega arith))))) (λ s. found_here)))
