use Rattle.std.proofs.Common.{◌≡◌, ℕ, Bool, true, false, not, ◌||◌, ◌==◌, ◌∙◌, refl, arith}
use Rattle.std.proofs.lemmas.Bool.Decides.{nat_tests}
use Rattle.yaml_lexeme.proofs.Readers.QuotedBody.{at_char, takes_char}
use Rattle.yaml_lexeme.specs.Classes.{is_white}
use Rattle.yaml_lexeme.specs.Place.{first, skip}
use Rattle.yaml_lexeme.specs.Quoted.{quote, body_part}
use Rattle.yaml_text.specs.Classes.{is_z}
use Rattle.yaml_lexeme.proofs.quoted.take_part.Goals as goal
use Rattle.yaml_lexeme.proofs.quoted.take_part.Goals.{else-not-single-via-then-not-single+else-c-eq92, else-not-single-via-else-not-single}

other_plain : (single : Bool) (c : ℕ) → (c ≡ 0x5C → ⊥) → (single || not (c == 0x5C)) ≡ true
other_plain single c h = grind (arith, nat_tests)

single_plain : (single : Bool) (c : ℕ) → single ≡ true → (single || not (c == 0x5C)) ≡ true
single_plain single c h = rw h refl

pub returns : goal.returns
returns c =
    let p = c.args.cursor.now in
    let here : c.peek-c.result ≡ first p = c.peek-c.ensures in
    let more : is_z (first p) ≡ false = grind (arith, nat_tests) in
    let other : is_white (first p) ≡ false = cc in
    let inside : (first p == quote c.args.single) ≡ false = grind (arith, nat_tests) in
    let plain : (c.args.single || not (first p == 0x5C)) ≡ true =
    elim c.else-not-single.branch [
      | else-not-single-via-then-not-single+else-c-eq92 w ↦ other_plain c.args.single (first p) (λ e. w.if-c-eq92.false (here ∙ e))
      | else-not-single-via-else-not-single w ↦ single_plain c.args.single (first p) w.if-not-single.false
    ] in
    rw c.advance.ensures (takes_char (body_part c.args.single p) (first p) _ _ p (skip 1 p) (at_char c.args.single p more other inside plain) (rw here at c.in_ok-push_char-2.ensures))
