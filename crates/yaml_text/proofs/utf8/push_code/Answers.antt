use Rattle.std.proofs.Common.{rules, arith}
use Rattle.yaml_text.proofs.Characters.Utf8Spelling.{two, three, four}
use Rattle.yaml_text.proofs.utf8.push_code.Goals as goal

pub returns-then-c-lt2048-clause-ok : goal.returns-then-c-lt2048-clause-ok
returns-then-c-lt2048-clause-ok c = rw (two c.args.c (omega arith) (omega arith)) (search rules)

pub returns-then-c-lt65536-clause-ok : goal.returns-then-c-lt65536-clause-ok
returns-then-c-lt65536-clause-ok c = rw (three c.args.c (omega arith) (omega arith)) (search rules)

pub returns-clause-ok : goal.returns-clause-ok
returns-clause-ok c = rw (four c.args.c (omega arith)) (search rules)
