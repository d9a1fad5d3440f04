use Rattle.std.proofs.Common.{◌≡◌, ◌<◌, ◌∙◌, ◌==◌, sym, ap, false, length, arith}
use Rattle.std.proofs.lemmas.Bool.Decides.{nat_tests}
use Rattle.yaml_lexeme.proofs.Readers.TagUris.{NoHandle, tag_found, tag_refused, lone_sign, lone_suffix}
use Rattle.yaml_lexeme.specs.Place.{Place, first, after_run}
use Rattle.yaml_text.specs.Classes.{is_alpha}
use Rattle.yaml_text.specs.Token.TokenData.{TAG}
use Rattle.yaml_lexeme.proofs.tag.take_handled.Goals as goal
use Rattle.yaml_lexeme.proofs.tag.take_handled.Goals.{Else-peek-eq33}

none : (c : Else-peek-eq33) → NoHandle c.args.cursor.now
none c =
    let here = c.take_letters-letters.ensures.end ∙ ap (after_run is_alpha) c.again-after.ensures in
    let no : (first c.take_letters-letters.new.cursor == 0x21) ≡ false = grind (arith, nat_tests) in
    ap (λ (x : Place). first x == 0x21) (sym here) ∙ no

pub returns-in-Err-take_uri : goal.returns-in-Err-take_uri
returns-in-Err-take_uri c =
    rw c.refused-in-Err-take_uri.ensures (tag_refused c.in-Err-take_uri.refusal c.args.cursor.now c.take_uri.new.cursor (none (goal.at.returns-in-Err-take_uri c).Else-peek-eq33) c.in-Err-take_uri.ensures)

pub returns-then-is_empty : goal.returns-then-is_empty
returns-then-is_empty c =
    let suffix = c.in-Ok-take_uri.suffix.items in
    let nothing : length suffix ≡ 0 = grind (arith, nat_tests) in
    let says = lone_sign suffix nothing ∙ ap (λ x. TAG suffix x) (sym c.in_ok-sign.ensures.items) ∙ sym c.make_tag-then-is_empty.ensures in
    rw (← says) (tag_found c.args.cursor.now c.take_uri.new.cursor suffix (none (goal.at.returns-then-is_empty c).Else-peek-eq33) c.in-Ok-take_uri.ensures)

pub returns : goal.returns
returns c =
    let suffix = c.in-Ok-take_uri.suffix.items in
    let some : 0 < length suffix = grind (arith, nat_tests) in
    let says = lone_suffix suffix some ∙ ap (λ x. TAG x suffix) (sym c.in_ok-sign.ensures.items) ∙ sym c.make_tag-2.ensures in
    rw (← says) (tag_found c.args.cursor.now c.take_uri.new.cursor suffix (none (goal.at.returns c).Else-peek-eq33) c.in-Ok-take_uri.ensures)
