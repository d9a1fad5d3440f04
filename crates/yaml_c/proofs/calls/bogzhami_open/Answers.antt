use Rattle.std.proofs.Common.{rules, ◌≡◌, sym, subst}
use Rattle.yaml_text.specs.declared.types.yaml_encoding_t.{yaml_encoding_t}
use Rattle.yaml_c.specs.Held.{IsAt, opened}
use Rattle.yaml_c.specs.Kinds.{Whole}
use Rattle.yaml_c.specs.declared.kinds.held_any_t.{held_any_t}
use Rattle.yaml_c.proofs.calls.bogzhami_open.Goals as goal

pub returns-in-Ok-clause-opened : goal.returns-in-Ok-clause-opened
returns-in-Ok-clause-opened c = λ e. (
  c.handle_of.ensures.live,
  λ x is.
      let same : c.in-Some.setting ≡ x = cc (c.in-Some.is, c.encoding_of.ensures.some x is) in
      subst (λ (h : held_any_t). Whole h (IsAt (opened c.args.input.now x c.args.key_limit))) (sym c.handle_of.ensures.value)
      (subst (λ (z : yaml_encoding_t). Whole c.in-Ok.held.value (IsAt (opened c.args.input.now z c.args.key_limit))) same c.in-Ok.ensures),
)

pub returns-in_default-clause-closed : goal.returns-in_default-clause-closed
returns-in_default-clause-closed c = search rules

pub returns-then-key_limit-lt1-clause-closed : goal.returns-then-key_limit-lt1-clause-closed
returns-then-key_limit-lt1-clause-closed c = search rules

pub returns-in-Err-clause-closed : goal.returns-in-Err-clause-closed
returns-in-Err-clause-closed c = search rules
