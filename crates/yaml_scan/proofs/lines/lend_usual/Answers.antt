use Rattle.std.proofs.Common.{rules, ◌+◌, ◌≡◌, ◌∙◌, ap, sym, reverse, List, ℕ, Some}
use Rattle.yaml_scan.specs.Levels.{greatest_level}
use Rattle.yaml_scan.specs.inside.Scanner.{scanner_of}
use Rattle.yaml_scan.proofs.RunningStep.StepTests.{falls_in}
use Rattle.yaml_scan.proofs.RunningStep.UsualLaid.{closes_none, opens_none}
use Rattle.yaml_scan.proofs.lines.lend_usual.Goals as goal

pub top_level-requires : goal.top_level-requires
top_level-requires g c = rw c.deref.ensures.value (falls_in g.before (c.args.state.now.made + 1) (scanner_of c.args.text.now c.args.state.now) c.requires.1.1.0.passes.can.holds)

pub lend_value-requires : goal.lend_value-requires
lend_value-requires g c κs within =
    let s = scanner_of c.args.text.now c.args.state.now in
    let levels = reverse c.args.state.now.layout.levels.items in
    let falls = falls_in g.before (c.args.state.now.made + 1) s c.requires.1.1.0.passes.can.holds in
    let is : Some c.in-Some.level ≡ greatest_level levels = sym c.in-Some.is ∙ c.top_level.ensures ∙ ap (λ (cs : List ℕ). greatest_level (reverse cs)) c.deref.ensures.value in
    let room = c.has_usual_room.ensures.room c.args.text.now g.R.yaml_reader_t.KIND c.if-not-has_usual_room.false c.requires.1.1.1.1.0 in
    let kept = closes_none g.R.yaml_reader_t.KIND c.args.state.now.gap_end levels c.in-Some.level falls c.requires.1.1.1.0 (sym is) c.if-column-level.false in
    (search rules, (search rules, (c.requires.1.1.0, (c.requires.1.1.1.0, (c.requires.1.1.1.1.0, (c.requires.1.1.1.1.1, (room, (kept, (is, sym c.is_key_allowed.ensures ∙ c.if-not-is_key_allowed.true)))))))))

pub lend_key-requires : goal.lend_key-requires
lend_key-requires g c κs within =
    let s = scanner_of c.args.text.now c.args.state.now in
    let levels = reverse c.args.state.now.layout.levels.items in
    let falls = falls_in g.before (c.args.state.now.made + 1) s c.requires.1.1.0.passes.can.holds in
    let is : Some c.in-Some.level ≡ greatest_level levels = sym c.in-Some.is ∙ c.top_level.ensures ∙ ap (λ (cs : List ℕ). greatest_level (reverse cs)) c.deref.ensures.value in
    let room = c.has_usual_room.ensures.room c.args.text.now g.R.yaml_reader_t.KIND c.if-not-has_usual_room.false c.requires.1.1.1.1.0 in
    let kept = closes_none g.R.yaml_reader_t.KIND c.args.state.now.gap_end levels c.in-Some.level falls c.requires.1.1.1.0 (sym is) c.if-column-level.false in
    let old = opens_none c.args.state.now.gap_end.column levels c.in-Some.level (sym is) c.if-level-column.false in
    (search rules, (search rules, (c.requires.1.1.0, (c.requires.1.1.1.0, (c.requires.1.1.1.1.0, (c.requires.1.1.1.1.1, (room, (kept, (old, (is, (sym c.is_key_allowed.ensures ∙ c.if-not-is_key_allowed.false, c.has_usual_room.ensures.two c.if-not-has_usual_room.false)))))))))))
