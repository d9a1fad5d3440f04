use Rattle.yaml_scan.proofs.give.yaml_scan_all.Goals as goal

pub returns-clause-answers : goal.returns-clause-answers
returns-clause-answers c = c.yaml_scan_all_limit.ensures.answers

pub returns-clause-at_start : goal.returns-clause-at_start
returns-clause-at_start c = c.yaml_scan_all_limit.ensures.at_start

pub returns-clause-ends_all : goal.returns-clause-ends_all
returns-clause-ends_all c = c.yaml_scan_all_limit.ensures.ends_all

pub returns-clause-keys : goal.returns-clause-keys
returns-clause-keys c = c.yaml_scan_all_limit.ensures.keys

pub returns-clause-lexemes : goal.returns-clause-lexemes
returns-clause-lexemes c = c.yaml_scan_all_limit.ensures.lexemes

pub returns-clause-fault : goal.returns-clause-fault
returns-clause-fault c = c.yaml_scan_all_limit.ensures.fault

pub returns-clause-local : goal.returns-clause-local
returns-clause-local c = c.yaml_scan_all_limit.ensures.local
