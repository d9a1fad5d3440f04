use Rattle.std.proofs.Common.{◌≡◌, ℕ, false, List, ◌∙◌, refl, [], sym, ap, take, length, arith}
use Rattle.yaml_text.specs.Chars.{utf8}
use Rattle.yaml_text.specs.Classes.{is_break}
use Rattle.yaml_lexeme.specs.Place.{first, skip}
use Rattle.yaml_lexeme.specs.Quoted.{body_part, spelled}
use Rattle.yaml_lexeme.specs.Reading.{many}
use Rattle.yaml_lexeme.proofs.Readers.QuotedBody.{body_shortens, quoted_all}
use Rattle.yaml_lexeme.proofs.Readers.QuotedLines.{quote_passes, run_goes_on}
use Rattle.yaml_lexeme.proofs.Readers.LineFronts.{piece_front}
use Rattle.yaml_lexeme.proofs.Parts.PartByPart.{begins, reads_all, over_taken}
use Rattle.yaml_lexeme.proofs.quoted.close.Goals as goal

pub copied_front-requires : goal.copied_front-requires
copied_front-requires c =
    let h = piece_front c.args.single (skip 1 c.requires.piece.0) c.args.cursor.now c.args.piece.now c.requires.piece.1.0 in
    omega (arith, h.within, ap (λ (x : List ℕ). length x) c.requires.piece.1.1)

pub pass-requires-clause-some : goal.pass-requires-clause-some
pass-requires-clause-some c = rw c.requires.here (quote_passes c.args.single).0

pub pass-requires-clause-ascii : goal.pass-requires-clause-ascii
pass-requires-clause-ascii c = rw c.requires.here (quote_passes c.args.single).1

pub pass-requires-clause-inside : goal.pass-requires-clause-inside
pass-requires-clause-inside c = rw c.requires.here (quote_passes c.args.single).2

pub returns-in-Ok : goal.returns-in-Ok
returns-in-Ok c = λ p is e.
    let single = c.args.single in
    let one = body_part single in
    let start = skip 1 p in
    let q = c.args.cursor.now in
    let value = c.args.piece.now in
    let inside : is_break (first q) ≡ false = ap is_break c.requires.here ∙ (quote_passes single).2 in
    let whole = spelled (many one start) in
    let read = run_goes_on single start q [] value is.0 is.1 inside whole (begins utf8 one start) in
    let front = piece_front single start q value is in
    let same : c.in-Ok.value.items ≡ value = c.in-Ok.ensures ∙ ap (λ (x : List ℕ). take (length value) x) e ∙ sym front.taken in
    rw (same, c.pass.ensures) (quoted_all single p start q value refl (reads_all utf8 one (body_shortens single) q q value value whole (over_taken utf8 (one q) value q c.requires.over) read))
