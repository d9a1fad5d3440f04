use Rattle.std.proofs.Common.{◌∙◌, sym, ap}
use Rattle.yaml_lexeme.specs.Gap.{gap}
use Rattle.yaml_lexeme.specs.Place.{Place}
use Rattle.yaml_lexeme.proofs.gap.long_gap.Goals as goal

pub returns-clause-mark : goal.returns-clause-mark
returns-clause-mark c n at =
    let e = c.again.ensures ∙ c.at-cursor.ensures.place n at in
    c.mark.ensures.value ∙ ap (λ r. r.0.mark) (sym (c.in-Some.ensures c.args.in_flow c.args.allowed)) ∙ ap (λ (x : Place). (gap c.args.in_flow c.args.allowed x).0.mark) e

pub returns-clause-broken : goal.returns-clause-broken
returns-clause-broken c n at =
    let e = c.again.ensures ∙ c.at-cursor.ensures.place n at in
    ap (λ r. r.1) (sym (c.in-Some.ensures c.args.in_flow c.args.allowed)) ∙ ap (λ (x : Place). (gap c.args.in_flow c.args.allowed x).1) e
