use Rattle.std.proofs.Common.{arith, sym, ◌∙◌}
use Rattle.std.proofs.lemmas.Bool.Decides.{nat_tests}
use Rattle.yaml_text.proofs.Characters.Utf8Spelling.{stray_is}
use Rattle.yaml_text.proofs.utf8.stray_at.Goals as goal

pub returns-then-width-lt2-clause-stray : goal.returns-then-width-lt2-clause-stray
returns-then-width-lt2-clause-stray c = sym (stray_is c.args.bytes.now c.requires ∙ grind (arith, nat_tests))

pub returns-then-not-continues-clause-stray : goal.returns-then-not-continues-clause-stray
returns-then-not-continues-clause-stray c = sym (stray_is c.args.bytes.now c.requires ∙ grind (arith, nat_tests))

pub returns-then-width-eq2-clause-stray : goal.returns-then-width-eq2-clause-stray
returns-then-width-eq2-clause-stray c = sym (stray_is c.args.bytes.now c.requires ∙ grind (arith, nat_tests))

pub returns-then-not-continues-2-clause-stray : goal.returns-then-not-continues-2-clause-stray
returns-then-not-continues-2-clause-stray c = sym (stray_is c.args.bytes.now c.requires ∙ grind (arith, nat_tests))

pub returns-then-width-eq3-clause-stray : goal.returns-then-width-eq3-clause-stray
returns-then-width-eq3-clause-stray c = sym (stray_is c.args.bytes.now c.requires ∙ grind (arith, nat_tests))

pub returns-then-continues-clause-stray : goal.returns-then-continues-clause-stray
returns-then-continues-clause-stray c = sym (stray_is c.args.bytes.now c.requires ∙ grind (arith, nat_tests))

pub returns-else-continues-clause-stray : goal.returns-else-continues-clause-stray
returns-else-continues-clause-stray c = sym (stray_is c.args.bytes.now c.requires ∙ grind (arith, nat_tests))
