use Rattle.std.proofs.Common.{◌≡◌, ◌==◌, ◌<◌, false, length, arith}
use Rattle.std.proofs.lemmas.Bool.Decides.{nat_tests}
use Rattle.std.proofs.lemmas.Result.{err_from_is_err_and}
use Rattle.yaml_lexeme.proofs.Readers.UriRuns.{Escapes, escapes_begin, escapes_more, escapes_none, escapes_all}
use Rattle.yaml_lexeme.specs.Place.{first}
use Rattle.yaml_lexeme.specs.Reading.{with_front}
use Rattle.yaml_lexeme.specs.Uri.{uri}
use Rattle.yaml_lexeme.proofs.uri.take_escaped.Goals as goal
use Rattle.yaml_lexeme.proofs.uri.take_escaped.Goals.{In_ok-push_uri_run}

pub escapes-init : goal.escapes-init
escapes-init c =
    rw (c.in_ok-extend_from_slice.ensures.items, c.in_ok-out.ensures.items) (escapes_begin c.args.listed c.args.cursor.now c.args.piece.now (omega arith))

pub returns-in_err-take_uri_escape : goal.returns-in_err-take_uri_escape
returns-in_err-take_uri_escape c =
    let e = err_from_is_err_and c.from_residual-in_err-take_uri_escape.result c.from_residual-in_err-take_uri_escape.ensures.1 in
    let here : first c.escapes.cursor ≡ 0x25 = omega arith in
    rw (e.1, e.2) (escapes_none c.in_err-take_uri_escape.field-0.0 c.args.listed c.escapes.cursor c.take_uri_escape.new.cursor c.escapes.out.items _ here c.in_err-take_uri_escape.ensures c.escapes.invariant)

next : (c : In_ok-push_uri_run) → (length c.push_uri_run.new.cursor.rest < length c.escapes.cursor.rest)
    × Escapes c.args.listed c.push_uri_run.new.cursor c.push_uri_run.new.out.items (with_front c.args.piece.now (uri c.args.listed c.args.cursor.now))
next c =
    let here : first c.escapes.cursor ≡ 0x25 = omega arith in
    let pushed = c.in_ok-push_uri_run.ensures in
    escapes_more c.args.listed c.escapes.cursor c.take_uri_escape.new.cursor c.push_uri_run.new.cursor c.escapes.out.items c.take_uri_escape.new.out.items c.push_uri_run.new.out.items _ here c.in_ok-take_uri_escape.ensures pushed.value pushed.end c.escapes.invariant

pub escapes-smaller : goal.escapes-smaller
escapes-smaller c = (next (goal.at.escapes-smaller c).In_ok-push_uri_run).0

pub escapes-preserved : goal.escapes-preserved
escapes-preserved c = (next (goal.at.escapes-preserved c).In_ok-push_uri_run).1

pub returns : goal.returns
returns c =
    let none : (first c.escapes.cursor == 0x25) ≡ false = grind (arith, nat_tests) in
    escapes_all c.args.listed c.escapes.cursor c.escapes.out.items _ none c.escapes.invariant
