use Rattle.std.proofs.Common.{◌≡◌, ◌∙◌, ◌==◌, false, arith}
use Rattle.std.proofs.lemmas.Bool.Decides.{nat_tests}
use Rattle.yaml_lexeme.proofs.Readers.UriRuns.{uri_from, uri_plain}
use Rattle.yaml_lexeme.specs.Place.{first}
use Rattle.yaml_lexeme.proofs.uri.take_uri.Goals as goal

pub returns-then-peek-eq37 : goal.returns-then-peek-eq37
returns-then-peek-eq37 c =
    let piece = c.uri_run-piece in
    let e = uri_from c.args.listed c.args.cursor.now piece.new.cursor piece.result.now piece.ensures.value piece.ensures.end in
    rw e (rw c.again-here.ensures at c.take_escaped-taken.ensures)

pub returns : goal.returns
returns c =
    let q = c.uri_run-piece.new.cursor in
    let none : (first q == 0x25) ≡ false = grind (arith, nat_tests) in
    uri_plain c.args.listed c.args.cursor.now q c.in_ok-from_slice.field-0.items (c.in_ok-from_slice.ensures.items ∙ c.uri_run-piece.ensures.value) c.uri_run-piece.ensures.end none
