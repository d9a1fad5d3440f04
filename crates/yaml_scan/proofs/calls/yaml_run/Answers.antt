use Rattle.std.proofs.Common.{List, map, subst}
use Rattle.yaml_scan.specs.ParserCalls.{call_of}
use Rattle.yaml_scan.specs.Decoded.{decoded_input}
use Rattle.yaml_scan.specs.declared.calls.yaml_answer_t.{yaml_answer_t}
use Rattle.yaml_scan.specs.Headline.{PutsAnswers}
use Rattle.yaml_scan.specs.CallWords.{SeenHaveLines}
use Rattle.yaml_scan.specs.ReadingOn.{HaveOneFault}
use Rattle.yaml_scan.specs.Puts.{TakesNext, AreAnsweredAlike}
use Rattle.yaml_scan.specs.CallMarks.{text_read, SeenAreCounted}
use Rattle.yaml_scan.proofs.CountedMarks.CallMarks.{runs_are_counted}
use Rattle.yaml_scan.proofs.Texts.AnswerLocality.{runs_alike}
use Rattle.yaml_scan.proofs.SessionCalls.CallsInTurn.{puts_session}
use Rattle.yaml_scan.proofs.SessionCalls.CallWords.{run_has_lines}
use Rattle.yaml_scan.proofs.SessionCalls.OneFault.{runs_fault_once}
use Rattle.yaml_scan.proofs.SessionCalls.ReadingOn.{reads_on}
use Rattle.yaml_scan.proofs.SessionCalls.TokensTaken.{puts, takes_next}
use Rattle.yaml_scan.proofs.calls.yaml_run.Goals as goal

pub returns-clause-at_start : goal.returns-clause-at_start
returns-clause-at_start c = λ e. puts_session c.args.parser.now (map call_of c.args.calls.now) c.args.out.now.items c.answer_all.new.out.items c.answer_all.new.parser
    (subst (λ (z : List yaml_answer_t). PutsAnswers decoded_input c.args.parser.now (map call_of c.args.calls.now) z c.answer_all.new.out.items c.answer_all.new.parser) c.in_ok-reserve.ensures.items c.answer_all.ensures) e

-- the answers, appended to what was there when the call began
pub returns-clause-answers : goal.returns-clause-answers
returns-clause-answers c =
    subst (λ (z : List yaml_answer_t). PutsAnswers decoded_input c.args.parser.now (map call_of c.args.calls.now) z c.answer_all.new.out.items c.answer_all.new.parser) c.in_ok-reserve.ensures.items c.answer_all.ensures

pub returns-clause-reads_on : goal.returns-clause-reads_on
returns-clause-reads_on c = reads_on c.args.parser.now (map call_of c.args.calls.now) c.args.out.now.items c.answer_all.new.out.items c.answer_all.new.parser (returns-clause-answers c)

pub returns-clause-taken : goal.returns-clause-taken
returns-clause-taken c = puts (λ answers. TakesNext c.args.parser.now answers c.answer_all.new.parser) c.args.parser.now (map call_of c.args.calls.now) c.args.out.now.items c.answer_all.new.out.items c.answer_all.new.parser (returns-clause-answers c)
    (λ answers r. takes_next c.args.parser.now (map call_of c.args.calls.now) answers c.answer_all.new.parser c.few_wait.ensures.next r)

pub returns-clause-once : goal.returns-clause-once
returns-clause-once c = puts HaveOneFault c.args.parser.now (map call_of c.args.calls.now) c.args.out.now.items c.answer_all.new.out.items c.answer_all.new.parser (returns-clause-answers c)
    (λ answers r. runs_fault_once c.args.parser.now (map call_of c.args.calls.now) answers c.answer_all.new.parser r)

pub returns-clause-lines : goal.returns-clause-lines
returns-clause-lines c = puts SeenHaveLines c.args.parser.now (map call_of c.args.calls.now) c.args.out.now.items c.answer_all.new.out.items c.answer_all.new.parser (returns-clause-answers c)
    (λ answers r. run_has_lines c.args.parser.now (map call_of c.args.calls.now) answers c.answer_all.new.parser r)

pub returns-clause-local : goal.returns-clause-local
returns-clause-local c = puts (AreAnsweredAlike c.args.parser.now (map call_of c.args.calls.now)) c.args.parser.now (map call_of c.args.calls.now) c.args.out.now.items c.answer_all.new.out.items c.answer_all.new.parser (returns-clause-answers c)
    (λ answers r. runs_alike c.args.parser.now (map call_of c.args.calls.now) answers c.answer_all.new.parser c.few_wait.ensures.next r)

pub returns-clause-marks : goal.returns-clause-marks
returns-clause-marks c = puts (SeenAreCounted (text_read c.args.parser.now)) c.args.parser.now (map call_of c.args.calls.now) c.args.out.now.items c.answer_all.new.out.items c.answer_all.new.parser (returns-clause-answers c)
    (λ answers r. runs_are_counted c.args.parser.now (map call_of c.args.calls.now) answers c.answer_all.new.parser r)
