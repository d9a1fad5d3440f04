use Rattle.std.proofs.Common.{ap, ◌∙◌}
use Rattle.yaml_scan.specs.ParserCalls.{course_read}
use Rattle.yaml_scan.specs.Sessions.{session_reach}
use Rattle.yaml_scan.specs.Parser.{Parser, course_by}
use Rattle.yaml_scan.proofs.scanner.scanner_t.mark.Goals as goal

pub returns : goal.returns
unfolding course_by
returns c = λ p k. k.is.sound.reach ∙ ap (λ (z : Parser). session_reach (course_read z) z.session) k.seen_as
