use Rattle.yaml_c.proofs.PieceCourse.{more_came}
use Rattle.yaml_c.proofs.pieces_tests.course_t.come.Goals as goal

pub returns : goal.returns
returns c = λ live. more_came _ c.args.self.now.came.items c.args.bytes.now _ c.args.self.now.last c.args.last c.if-self.false
    c.in_ok-extend_from_slice.ensures.items (c.requires live)
