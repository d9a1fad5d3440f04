use Rattle.std.proofs.Common.{◌≡◌, ◌++◌, List, map, option_map, ap, sym, ◌∙◌, subst}
use Rattle.yaml_text.specs.declared.token.yaml_token_t.{yaml_token_t as code_token_t}
use Rattle.yaml_text.specs.Token.{token_of}
use Rattle.yaml_text.specs.Fault.{fault_of}
use Rattle.yaml_scan.specs.Token.{yaml_token_t}
use Rattle.yaml_scan.specs.All.{ReadsAll}
use Rattle.yaml_scan.proofs.Texts.AnswerLocality.{reads_alike}
use Rattle.yaml_scan.proofs.SessionCalls.ListLaws.{reads_in_order, reads_ends, reads_all_ends, reads_keys, reads_lexemes, reads_fault, reads_at_start}
use Rattle.yaml_scan.proofs.SessionCalls.ListWords.{reads_have_lines}
use Rattle.yaml_scan.proofs.CountedMarks.CallMarks.{reads_are_counted}
use Rattle.yaml_scan.proofs.give.yaml_scan_all_limit.Goals as goal

-- what the new parser's tokens are
pub returns-clause-answers : goal.returns-clause-answers
returns-clause-answers c =
    let e = c.in_ok-fault.ensures.given in
    let given : map token_of c.yaml_scan_to.new.sink.tokens.items ≡ e.tokens = e.given ∙ ap (λ (z : List code_token_t). map token_of z ++ e.tokens) c.new.ensures.items in
    subst (λ (z : List yaml_token_t). ReadsAll c.args.limit c.args.setting c.args.input.now z (option_map fault_of c.in_ok-fault.fault)) (sym given) e.reads

pub returns-clause-at_start : goal.returns-clause-at_start
returns-clause-at_start c = reads_at_start c.args.limit c.args.setting c.args.input.now (map token_of c.yaml_scan_to.new.sink.tokens.items) (option_map fault_of c.in_ok-fault.fault) (returns-clause-answers c)

pub returns-clause-order : goal.returns-clause-order
returns-clause-order c = reads_in_order c.args.limit c.args.setting c.args.input.now (map token_of c.yaml_scan_to.new.sink.tokens.items) (option_map fault_of c.in_ok-fault.fault) (returns-clause-answers c)

pub returns-clause-ends : goal.returns-clause-ends
returns-clause-ends c = reads_ends c.args.limit c.args.setting c.args.input.now (map token_of c.yaml_scan_to.new.sink.tokens.items) (option_map fault_of c.in_ok-fault.fault) (returns-clause-answers c)

pub returns-clause-ends_all : goal.returns-clause-ends_all
returns-clause-ends_all c = reads_all_ends c.args.limit c.args.setting c.args.input.now (map token_of c.yaml_scan_to.new.sink.tokens.items) (option_map fault_of c.in_ok-fault.fault) (returns-clause-answers c)

pub returns-clause-keys : goal.returns-clause-keys
returns-clause-keys c = reads_keys c.args.limit c.args.setting c.args.input.now (map token_of c.yaml_scan_to.new.sink.tokens.items) (option_map fault_of c.in_ok-fault.fault) (returns-clause-answers c)

pub returns-clause-lexemes : goal.returns-clause-lexemes
returns-clause-lexemes c = reads_lexemes c.args.limit c.args.setting c.args.input.now (map token_of c.yaml_scan_to.new.sink.tokens.items) (option_map fault_of c.in_ok-fault.fault) (returns-clause-answers c)

pub returns-clause-fault : goal.returns-clause-fault
returns-clause-fault c = reads_fault c.args.limit c.args.setting c.args.input.now (map token_of c.yaml_scan_to.new.sink.tokens.items) (option_map fault_of c.in_ok-fault.fault) (returns-clause-answers c)

pub returns-clause-lines : goal.returns-clause-lines
returns-clause-lines c = reads_have_lines c.args.limit c.args.setting c.args.input.now (map token_of c.yaml_scan_to.new.sink.tokens.items) (option_map fault_of c.in_ok-fault.fault) (returns-clause-answers c)

pub returns-clause-local : goal.returns-clause-local
returns-clause-local c = reads_alike c.args.limit c.args.setting c.args.input.now (map token_of c.yaml_scan_to.new.sink.tokens.items) (option_map fault_of c.in_ok-fault.fault) (returns-clause-answers c)

pub returns-clause-marks : goal.returns-clause-marks
returns-clause-marks c = reads_are_counted c.args.limit c.args.setting c.args.input.now (map token_of c.yaml_scan_to.new.sink.tokens.items) (option_map fault_of c.in_ok-fault.fault) (returns-clause-answers c)
