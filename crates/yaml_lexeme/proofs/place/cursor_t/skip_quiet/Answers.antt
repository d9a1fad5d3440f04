use Rattle.std.proofs.Common.{◌∙◌, ap, arith, length}
use Rattle.std.proofs.lemmas.List.{length-drop}
use Rattle.yaml_text.specs.Chars.{utf8}
use Rattle.yaml_lexeme.specs.Place.{Place, after_run}
use Rattle.yaml_lexeme.specs.inside.Runs.{class_test, begins}
use Rattle.yaml_lexeme.proofs.ManyBytes.CharacterCounts.{count_small}
use Rattle.yaml_lexeme.proofs.Places.CursorMoves.{QuietMove, quiet_moves}
use Rattle.yaml_lexeme.proofs.place.cursor_t.skip_quiet.Goals as goal
use Rattle.yaml_lexeme.proofs.place.cursor_t.skip_quiet.Goals.{After-quiet_len-n}

moved : (c : After-quiet_len-n) → QuietMove c.args.class c.self.inside.mark c.self.inside.bytes.now c.quiet_len-n.result.0 c.quiet_len-n.result.1
moved c = quiet_moves c.args.class c.self.inside.mark c.self.inside.bytes.now c.quiet_len-n.result.0 c.quiet_len-n.result.1 c.self.invariant.0 c.quiet_len-n.ensures.line c.quiet_len-n.ensures.narrow c.quiet_len-n.ensures.chars

pub invariant_of-self : goal.invariant_of-self
invariant_of-self c =
    let n = c.quiet_len-n.result.0 in
    let s = c.self.inside.bytes.now in
    rw c.rest-self-inside.ensures
    ((moved (goal.at.invariant_of-self c).After-quiet_len-n).text, omega (arith, c.quiet_len-n.ensures.bound, length-drop n s, c.self.invariant.1), omega (arith, c.quiet_len-n.ensures.chars, count_small begins n s, c.self.invariant.2))

pub returns-clause-goes : goal.returns-clause-goes
returns-clause-goes c = rw c.rest-self-inside.ensures ((moved (goal.at.returns-clause-goes c).After-quiet_len-n).goes ∙ ap (λ (p : Place). after_run (class_test c.args.class) p) c.self.view_is)

pub returns-clause-shorter : goal.returns-clause-shorter
returns-clause-shorter c = rw c.rest-self-inside.ensures (omega (arith, (moved (goal.at.returns-clause-shorter c).After-quiet_len-n).shorter, ap (λ (p : Place). length p.rest) c.self.view_is))

pub returns-clause-fewer : goal.returns-clause-fewer
returns-clause-fewer c =
    let n = c.quiet_len-n.result.0 in
    let s = c.self.inside.bytes.now in
    let left = (moved (goal.at.returns-clause-fewer c).After-quiet_len-n).text in
    rw c.rest-self-inside.ensures (omega (arith, ap length left.spelled, length-drop n s, ap length c.self.invariant.0.spelled, ap (λ (p : Place). length (utf8 p.rest)) c.self.view_is))
