-- The answers are appended to none.
use Rattle.std.proofs.Common.{◌≡◌, ◌++◌, List, map, sym, ap, ◌∙◌, subst}
use Rattle.yaml_scan.specs.ParserCalls.{call_of}
use Rattle.yaml_scan.specs.Decoded.{decoded_input}
use Rattle.yaml_scan.specs.declared.calls.yaml_answer_t.{yaml_answer_t}
use Rattle.yaml_scan.specs.Parser.{Parser}
use Rattle.yaml_scan.specs.Headline.{Runs}
use Rattle.yaml_scan.specs.Seen.{seen_of}
use Rattle.yaml_scan.specs.CallWords.{SeenHaveLines}
use Rattle.yaml_listing.proofs.answer.called.Goals as goal

pub returns-clause-answers : goal.returns-clause-answers
returns-clause-answers c =
    let r = c.in_ok-yaml_run.ensures.answers in
    let parser = c.yaml_run.new.parser in
    let answers = c.yaml_run.new.out.items in
    let calls = map call_of c.args.calls.now in
    let e : answers ≡ r.more = r.is ∙ ap (λ (l : List yaml_answer_t). l ++ r.more) c.new-answers.ensures.items in
    let runs : Runs decoded_input c.new-parser.result calls (map seen_of answers) parser =
    subst (λ (l : List yaml_answer_t). Runs decoded_input c.new-parser.result calls (map seen_of l) parser) (sym e) r.runs in
    record {
      after = parser;
      runs = subst (λ (p : Parser). Runs decoded_input p calls (map seen_of answers) parser) c.new-parser.ensures runs;
    }

pub returns-clause-lines : goal.returns-clause-lines
returns-clause-lines c =
    let r = c.in_ok-yaml_run.ensures.lines in
    let answers = c.yaml_run.new.out.items in
    let e : answers ≡ r.more = r.is ∙ ap (λ (l : List yaml_answer_t). l ++ r.more) c.new-answers.ensures.items in
    subst (λ (l : List yaml_answer_t). SeenHaveLines (map seen_of l)) (sym e) r.holds
