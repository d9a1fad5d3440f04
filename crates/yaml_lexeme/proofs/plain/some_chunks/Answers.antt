use Rattle.std.proofs.Common.{◌≡◌, ◌<◌, true, length, sym, ap, subst, arith}
use Rattle.yaml_lexeme.proofs.Places.PlaceMoves.{length_one}
use Rattle.yaml_lexeme.proofs.Readers.PlainLinks.{chunk_there}
use Rattle.yaml_lexeme.proofs.Readers.PlainLines.{goes_char, goes_none, goes_on, goes_shorter}
use Rattle.yaml_lexeme.specs.Place.{Place, first, peek}
use Rattle.yaml_lexeme.specs.Plain.{is_chunk}
use Rattle.yaml_lexeme.specs.inside.Words.{Goes}
use Rattle.yaml_lexeme.proofs.plain.some_chunks.Goals as goal

pub chunk-preserved : goal.chunk-preserved
chunk-preserved c =
    let flow = c.args.in_flow in
    let least = c.args.least in
    let p = c.args.cursor.now in
    let q = c.chunk.cursor in
    let h : is_chunk flow (first q) (peek q 1) ≡ true = cc in
    let one : Goes flow least q c.advance.new.self = subst (λ (r : Place). Goes flow least q r) (sym c.advance.ensures) (goes_char flow least q h) in
    goes_on flow least p q c.skip_words.new.cursor c.chunk.invariant (goes_on flow least q c.advance.new.self c.skip_words.new.cursor one c.skip_words.ensures)

pub chunk-smaller : goal.chunk-smaller
chunk-smaller c =
    let flow = c.args.in_flow in
    let q = c.chunk.cursor in
    let h : is_chunk flow (first q) (peek q 1) ≡ true = cc in
    let less : length c.skip_words.new.cursor.rest < length q.rest = omega (arith, goes_shorter flow c.args.least c.advance.new.self c.skip_words.new.cursor c.skip_words.ensures, ap (λ (r : Place). length r.rest) c.advance.ensures, length_one q, chunk_there flow q h) in
    less

pub chunk-init : goal.chunk-init
chunk-init c = goes_none c.args.in_flow c.args.least c.args.cursor.now
