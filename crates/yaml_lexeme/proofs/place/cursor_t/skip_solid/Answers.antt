use Rattle.std.proofs.Common.{◌∙◌, ap, arith, length}
use Rattle.std.proofs.lemmas.List.{length-drop}
use Rattle.yaml_lexeme.specs.inside.Runs.{trim}
use Rattle.yaml_lexeme.proofs.ManyBytes.TrimmedRuns.{Back, backs}
use Rattle.yaml_lexeme.proofs.place.cursor_t.skip_solid.Goals as goal
use Rattle.yaml_lexeme.proofs.place.cursor_t.skip_solid.Goals.{After-trimmed-kept}

back : (c : After-trimmed-kept) → Back c.args.class c.self.inside.mark c.self.inside.bytes.now c.args.self.now c.quiet_len-n.result.0 c.quiet_len-n.result.1 (length c.trimmed-kept.result.now)
back c =
    let held = c.trimmed-kept.ensures ∙ ap trim c.first_bytes.ensures in
    backs c.args.class c.self.inside.mark c.self.inside.bytes.now c.args.self.now c.quiet_len-n.result.0 c.quiet_len-n.result.1 (length c.trimmed-kept.result.now) c.requires c.self.invariant.0 c.self.view_is (c.quiet_len-n.ensures.line c.requires) c.quiet_len-n.ensures.chars (ap length held)

pub overflow_sub-self : goal.overflow_sub-self
overflow_sub-self c = (back (goal.at.overflow_sub-self c).After-trimmed-kept).within

pub overflow_sub-self-2 : goal.overflow_sub-self-2
overflow_sub-self-2 c = (back (goal.at.overflow_sub-self-2 c).After-trimmed-kept).room

pub overflow_add-self : goal.overflow_add-self
overflow_add-self c = omega (arith, (back (goal.at.overflow_add-self c).After-trimmed-kept).inside, c.self.invariant.1)

pub rest-self-inside-requires : goal.rest-self-inside-requires
rest-self-inside-requires c = (back (goal.at.rest-self-inside-requires c).After-trimmed-kept).inside

pub invariant_of-self : goal.invariant_of-self
invariant_of-self c =
    let b = back (goal.at.invariant_of-self c).After-trimmed-kept in
    rw c.rest-self-inside.ensures (b.text, omega (arith, b.inside, c.self.invariant.1, length-drop (length c.trimmed-kept.result.now) c.self.inside.bytes.now), b.sums c.self.invariant.2)

pub returns : goal.returns
returns c = rw c.rest-self-inside.ensures (back (goal.at.returns c).After-trimmed-kept).place
