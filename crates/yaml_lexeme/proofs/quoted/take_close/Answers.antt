use Rattle.std.proofs.Common.{◌≡◌, true, false, ◌∙◌, refl, [], ap}
use Rattle.yaml_text.specs.Chars.{utf8}
use Rattle.yaml_text.specs.Classes.{is_break}
use Rattle.yaml_lexeme.specs.Place.{first, skip}
use Rattle.yaml_lexeme.specs.Quoted.{body_part, spelled}
use Rattle.yaml_lexeme.specs.Reading.{many}
use Rattle.yaml_lexeme.proofs.Readers.QuotedBody.{body_shortens, quoted_all}
use Rattle.yaml_lexeme.proofs.Readers.QuotedLines.{quote_passes, run_goes_on}
use Rattle.yaml_lexeme.proofs.Parts.PartByPart.{begins, reads_all, over_taken}
use Rattle.yaml_lexeme.proofs.quoted.take_close.Goals as goal

pub pass-requires-clause-some : goal.pass-requires-clause-some
pass-requires-clause-some c = let yes : c.closes.result ≡ true = cc in rw (c.closes.ensures.here yes) (quote_passes c.args.single).0

pub pass-requires-clause-ascii : goal.pass-requires-clause-ascii
pass-requires-clause-ascii c = let yes : c.closes.result ≡ true = cc in rw (c.closes.ensures.here yes) (quote_passes c.args.single).1

pub pass-requires-clause-inside : goal.pass-requires-clause-inside
pass-requires-clause-inside c = let yes : c.closes.result ≡ true = cc in rw (c.closes.ensures.here yes) (quote_passes c.args.single).2

pub returns-clause-value : goal.returns-clause-value
returns-clause-value c = λ p done is.
    let single = c.args.single in
    let one = body_part single in
    let start = skip 1 p in
    let q = c.args.cursor.now in
    let value = c.args.piece.now in
    let yes : c.closes.result ≡ true = cc in
    let inside : is_break (first q) ≡ false = ap is_break (c.closes.ensures.here yes) ∙ (quote_passes single).2 in
    let whole = spelled (many one start) in
    let read = run_goes_on single start q [] value is.0 is.1 inside whole (begins utf8 one start) in
    rw c.pass.ensures (quoted_all single p start q value refl (reads_all utf8 one (body_shortens single) q q value value whole (over_taken utf8 (one q) value q (c.closes.ensures.over yes)) read))
