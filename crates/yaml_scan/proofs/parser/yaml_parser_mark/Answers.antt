use Rattle.std.proofs.Common.{ap, sym, ◌∙◌, subst}
use Rattle.yaml_text.specs.declared.types.yaml_mark_t.{yaml_mark_t}
use Rattle.yaml_scan.specs.ParserCalls.{course_read}
use Rattle.yaml_scan.specs.CallMarks.{ReachesTo}
use Rattle.yaml_scan.specs.Parser.{Parser, course_by}
use Rattle.yaml_scan.specs.Sessions.{session_reach}
use Rattle.yaml_scan.proofs.CountedMarks.CallMarks.{reach_reaches}
use Rattle.yaml_scan.proofs.parser.yaml_parser_mark.Goals as goal

pub returns-clause-reach : goal.returns-clause-reach
unfolding course_by
returns-clause-reach c = c.parser.invariant.scanner.sound.reach ∙ ap (λ (p : Parser). session_reach (course_read p) p.session) c.parser.view_is

pub returns-clause-marks : goal.returns-clause-marks
returns-clause-marks c = subst (λ (m : yaml_mark_t). ReachesTo c.args.parser.now m) (sym (returns-clause-reach c)) (reach_reaches c.args.parser.now)
