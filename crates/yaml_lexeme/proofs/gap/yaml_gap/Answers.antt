-- The gap that is found, short or long, is the longest text of gap lines.
use Rattle.std.proofs.Common.{subst}
use Rattle.yaml_lexeme.specs.GapText.{EndsLongestGap}
use Rattle.yaml_lexeme.specs.Place.{Place, place_at}
use Rattle.yaml_lexeme.proofs.LongestLists.GapLongest.{ends_longest, gap_ends_longest}
use Rattle.yaml_lexeme.proofs.gap.yaml_gap.Goals as goal

pub returns-in-Some-clause-longest : goal.returns-in-Some-clause-longest
returns-in-Some-clause-longest c n at =
    let place = c.at-cursor.ensures.place n at in
    subst (λ (p : Place). EndsLongestGap c.args.in_flow c.args.allowed p c.mark.result c.in-Some.broken) place
    (gap_ends_longest c.args.in_flow c.args.allowed _ c.in-Some.next c.mark.result c.in-Some.broken c.mark.ensures.value (c.in-Some.ensures c.args.in_flow c.args.allowed))

pub returns-in-None-clause-longest : goal.returns-in-None-clause-longest
returns-in-None-clause-longest c n at =
    ends_longest c.args.in_flow c.args.allowed (place_at c.args.text.now.chars n) c.rare_gap.result.0 c.rare_gap.result.1 (c.rare_gap.ensures.mark n at) (c.rare_gap.ensures.broken n at)
