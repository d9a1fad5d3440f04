use Rattle.std.proofs.Common.{◌≡◌, ◌+◌, ◌*◌, ◌<◌, true, refl, arith}
use Rattle.std.proofs.lemmas.Bool.Decides.{nat_tests}
use Rattle.yaml_text.specs.Utf8.{is_scalar}
use Rattle.yaml_lexeme.proofs.Readers.ShortTurns.{four_spelled}
use Rattle.yaml_lexeme.proofs.escape.four_digits.Goals as goal

pub returns : goal.returns
returns c = λ p e.
    let la : c.digit-a.result < 16 = grind (arith, nat_tests) in
    let lb : c.digit-b.result < 16 = grind (arith, nat_tests) in
    let lc : c.digit-c.result < 16 = grind (arith, nat_tests) in
    let ld : c.digit-d.result < 16 = grind (arith, nat_tests) in
    let v = ((c.digit-a.result * 16 + c.digit-b.result) * 16 + c.digit-c.result) * 16 + c.digit-d.result in
    let scalar : is_scalar v ≡ true = grind (arith, nat_tests) in
    rw c.in_ok-code.ensures.value.1 (four_spelled p c.args.bytes.now c.digit-a.result c.digit-b.result c.digit-c.result c.digit-d.result v e (c.digit-a.ensures la) la (c.digit-b.ensures lb) lb (c.digit-c.ensures lc) lc (c.digit-d.ensures ld) ld refl scalar)
