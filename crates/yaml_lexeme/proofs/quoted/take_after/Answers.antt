use Rattle.std.proofs.Common.{◌≡◌, ℕ, Bool, List, ◌∙◌, [], sym, ap, take, length, arith}
use Rattle.yaml_text.specs.Chars.{utf8}
use Rattle.yaml_lexeme.specs.Place.{Place, skip}
use Rattle.yaml_lexeme.specs.Quoted.{body_part, spelled}
use Rattle.yaml_lexeme.specs.Reading.{many}
use Rattle.yaml_lexeme.specs.inside.Words.{GoesOn, LeadsOn}
use Rattle.yaml_lexeme.proofs.Parts.PartByPart.{begins}
use Rattle.yaml_lexeme.proofs.quoted.take_after.Goals as goal

leads_on : (single : Bool) (p q : Place) (value left : List ℕ) → left ≡ utf8 (skip 1 p).rest → GoesOn single (skip 1 p) [] q value → value ≡ take (length value) (utf8 (skip 1 p).rest) → LeadsOn single p (take (length value) left) q
leads_on single p q value left e goes front =
    let one = body_part single in
    let read = goes (spelled (many one (skip 1 p))) (begins utf8 one (skip 1 p)) in
    let same : take (length value) left ≡ value = ap (λ (x : List ℕ). take (length value) x) e ∙ sym front in
    rw same read

pub take_apart-requires : goal.take_apart-requires
take_apart-requires c =
    omega (arith, c.unblanked-len.ensures.within (skip 1 c.requires.0) c.requires.1.0, ap (λ (x : List ℕ). length x) c.requires.1.1)

pub take_apart-requires-else-single : goal.take_apart-requires-else-single
take_apart-requires-else-single c =
    omega (arith, c.unblanked-len.ensures.within (skip 1 c.requires.0) c.requires.1.0, ap (λ (x : List ℕ). length x) c.requires.1.1)

pub returns-then-single : goal.returns-then-single
returns-then-single c = λ p is e.
    let read = leads_on c.args.single p c.args.cursor.now c.unblanked-len.result.now c.args.left.now e (c.unblanked-len.ensures.goes (skip 1 p) [] is) (c.unblanked-len.ensures.front (skip 1 p) is) in
    rw c.if-single.true (c.take_apart.ensures p (rw c.if-single.true at read))

pub returns-else-single : goal.returns-else-single
returns-else-single c = λ p is e.
    let read = leads_on c.args.single p c.args.cursor.now c.unblanked-len.result.now c.args.left.now e (c.unblanked-len.ensures.goes (skip 1 p) [] is) (c.unblanked-len.ensures.front (skip 1 p) is) in
    rw c.if-single.false (c.take_apart-else-single.ensures p (rw c.if-single.false at read))
