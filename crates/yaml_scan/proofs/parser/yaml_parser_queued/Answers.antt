use Rattle.std.proofs.Common.{◌≡◌, ℕ, ◌+◌, ◌-◌, ap, ◌∙◌, arith}
use Rattle.yaml_scan.specs.ParserCalls.{course_read}
use Rattle.yaml_scan.specs.Parser.{Parser, course_by}
use Rattle.yaml_scan.specs.Sessions.{session_queued}
use Rattle.yaml_scan.proofs.parser.yaml_parser_queued.Goals as goal

left_over : (a b n : ℕ) → a + b ≡ n → n - b ≡ a
left_over a b n e = omega arith

pub returns-clause-steps : goal.returns-clause-steps
unfolding course_by
returns-clause-steps c = left_over _ c.parser.inside.scanner.session.state.layout.queue.done c.parser.inside.scanner.session.state.made c.parser.invariant.scanner.sound.queued ∙ ap (λ (p : Parser). session_queued (course_read p) p.session) c.parser.view_is
