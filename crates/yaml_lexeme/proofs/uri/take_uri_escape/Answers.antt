use Rattle.std.proofs.Common.{◌≡◌, ◌==◌, false, arith}
use Rattle.std.proofs.lemmas.Bool.Decides.{nat_tests}
use Rattle.std.proofs.lemmas.Result.{err_from_is_err_and}
use Rattle.yaml_lexeme.proofs.Readers.UriOctets.{no_lead, bad_lead, escape_done}
use Rattle.yaml_lexeme.proofs.uri.take_uri_escape.Goals as goal
use Rattle.yaml_text.specs.Utf8.{width_of}

pub returns-in_err-lead : goal.returns-in_err-lead
returns-in_err-lead c =
    let e = err_from_is_err_and c.from_residual.result c.from_residual.ensures.1 in
    rw (e.1, e.2) (no_lead c.in_err-lead.field-0.0 c.args.cursor.now c.in_err-lead.ensures)

pub returns-then-width-eq0 : goal.returns-then-width-eq0
returns-then-width-eq0 c =
    let none : width_of c.in_ok-lead.lead ≡ 0 = cc in
    rw c.offence.ensures (bad_lead c.in_ok-lead.lead c.args.cursor.now c.in_ok-lead.ensures none)

pub returns : goal.returns
returns c =
    let p = c.args.cursor.now in
    let some : (width_of c.in_ok-lead.lead == 0) ≡ false = grind (arith, nat_tests) in
    let width : c.WIDTH-width.result ≡ width_of c.in_ok-lead.lead = c.WIDTH-width.ensures.bytes in
    escape_done c.take_next_octets.result c.in_ok-lead.lead p c.take_next_octets.new.cursor c.args.out.now.items c.push_byte.new.out.items c.take_next_octets.new.out.items c.in_ok-lead.ensures some c.in_ok-push_byte.ensures
    (rw (c.skip.ensures, width) at c.take_next_octets.ensures)
