use Rattle.std.proofs.Common.{◌<◌, ℕ, List, length, ◌∙◌, sym, subst, arith, get_or}
use Rattle.std.specs.Str.{chars}
use Rattle.std.specs.Char.{InScalarRange}
use Rattle.std.proofs.lemmas.Str.{len_utf8_bounds}
use Rattle.yaml_text.specs.TextBytes.{IsText}
use Rattle.yaml_text.specs.Utf8.{width_of}
use Rattle.yaml_lexeme.proofs.Places.FirstCharacters.{head, code_is, scalar_range}
use Rattle.yaml_lexeme.proofs.place.wide_char.Goals as goal

some_width : (bytes : List ℕ) → IsText bytes → 0 < length bytes → 0 < width_of (get_or bytes 0 0)
some_width bytes text some =
    let h = head bytes text some in
    omega (arith, h.width, len_utf8_bounds (get_or (chars bytes) 0 0))

pub code_of-requires-clause-some : goal.code_of-requires-clause-some
code_of-requires-clause-some c =
    let h = head c.args.bytes.now c.requires.text c.requires.some in
    omega (arith, h.width, len_utf8_bounds (get_or (chars c.args.bytes.now) 0 0), c.width_from.ensures.is (some_width c.args.bytes.now c.requires.text c.requires.some))

pub code_of-requires-clause-whole : goal.code_of-requires-clause-whole
code_of-requires-clause-whole c =
    let h = head c.args.bytes.now c.requires.text c.requires.some in
    omega (arith, h.width, h.within, c.width_from.ensures.is (some_width c.args.bytes.now c.requires.text c.requires.some))

pub unwrap-requires : goal.unwrap-requires
unwrap-requires c =
    let some = c.requires.some in
    let e = code_is c.args.bytes.now c.width_from.result c.code_of.result c.requires.text some (c.width_from.ensures.is (some_width c.args.bytes.now c.requires.text some)) c.code_of.ensures.value in
    let h = head c.args.bytes.now c.requires.text some in
    c.from_u32.ensures.succeeds (subst InScalarRange (sym e) (scalar_range (get_or (chars c.args.bytes.now) 0 0) h.scalar))

pub returns : goal.returns
returns c =
    let some = c.requires.some in
    let e = code_is c.args.bytes.now c.width_from.result c.code_of.result c.requires.text some (c.width_from.ensures.is (some_width c.args.bytes.now c.requires.text some)) c.code_of.ensures.value in
    (rw c.unwrap.ensures at c.from_u32.ensures.value).1 ∙ e
