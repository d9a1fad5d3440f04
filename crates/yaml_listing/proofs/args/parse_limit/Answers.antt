-- A word that spells a limit begins with a digit other than 0, and is read as that limit.
use Rattle.std.proofs.Common.{◌≡◌, ℕ, true, false, Ok, sym, ◌∙◌, subst}
use Rattle.std.specs.Prelude.{IsTrue}
use Rattle.std.proofs.lemmas.Bool.{false≢true}
use Rattle.yaml_listing.specs.Args.{is_limit}
use Rattle.yaml_listing.proofs.Limits.{limit_led, limit_parsed, limit_read}
use Rattle.yaml_listing.proofs.args.parse_limit.Goals as goal

pub returns-then-not-is_led-clause-none : goal.returns-then-not-is_led-clause-none
returns-then-not-is_led-clause-none c = λ n l e.
    let t : IsTrue c.is_led.result = c.is_led.ensures.1 (limit_led c.args.word.now n l e) in
    cc

pub returns-in-Ok-clause-some : goal.returns-in-Ok-clause-some
returns-in-Ok-clause-some c =
    let led = c.is_led.ensures.0 c.if-not-is_led.false in
    let parsed = limit_parsed c.args.word.now c.in-Ok.limit c.parse.result led c.parse.ensures.value.0 c.in-Ok.is in
    (parsed, sym c.is_limit.ensures ∙ c.if-is_limit.true)

pub returns-in_default-clause-none : goal.returns-in_default-clause-none
returns-in_default-clause-none c = λ n l e.
    let r : c.parse.result ≡ Ok n = limit_read c.args.word.now n c.parse.result l e c.parse.ensures.value.0 in
    let q : n ≡ c.in-Ok.limit = cc in
    let f : is_limit c.in-Ok.limit ≡ false = sym c.is_limit.ensures ∙ c.if-is_limit.false in
    false≢true (sym f ∙ subst (λ (x : ℕ). is_limit x ≡ true) q l)

pub returns-in_default-2-clause-none : goal.returns-in_default-2-clause-none
returns-in_default-2-clause-none c = λ n l e.
    let r : c.parse.result ≡ Ok n = limit_read c.args.word.now n c.parse.result l e c.parse.ensures.value.0 in
    cc
