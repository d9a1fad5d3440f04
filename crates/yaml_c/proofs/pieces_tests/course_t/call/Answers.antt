use Rattle.std.proofs.Common.{sym, ◌∙◌}
use Rattle.yaml_c.proofs.PieceCourse.{AtAll, call_keeps, pieces_too}
use Rattle.yaml_c.proofs.pieces_tests.course_t.call.Goals as goal

pub returns : goal.returns
returns c = λ live.
    let n = c.bogzhami_next_piece-status.ensures in
    let was = sym n.live ∙ live in
    let e = c.as_slice.ensures.value in
    let window = c.as_slice.result.now in
    let last = c.args.self.now.last in
    pieces_too _ (AtAll window last) _ (λ h at. (at.0, at.1 ∙ e, at.2, at.3))
    (call_keeps _ _ c.args.from window last _ _ _ _ (n.pieces was) (n.wrong was)
    (pieces_too _ _ (AtAll window last) (λ h at. (at.0, at.1 ∙ sym e, at.2, at.3)) (c.requires.at was)))
