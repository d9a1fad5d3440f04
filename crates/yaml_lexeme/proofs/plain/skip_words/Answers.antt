use Rattle.std.proofs.Common.{◌≡◌, true, subst}
use Rattle.std.specs.Prelude.{◌||◌, ◌+◌, nat_le}
use Rattle.yaml_lexeme.proofs.Readers.PlainLines.{goes_none, goes_solid}
use Rattle.yaml_lexeme.specs.declared.runs.class_t.{class_t}
use Rattle.yaml_lexeme.specs.inside.Runs.{class_test, Stands}
use Rattle.yaml_lexeme.proofs.plain.skip_words.Goals as goal

pub returns-then-not-goes_far : goal.returns-then-not-goes_far
returns-then-not-goes_far c = goes_none c.args.in_flow c.args.least c.args.cursor.now

pub returns : goal.returns
returns c =
    let p = c.args.cursor.now in
    let q = c.skip_solid.new.self in
    let far : (c.args.in_flow || nat_le c.args.least (p.mark.column + 1)) ≡ true = cc in
    goes_solid c.args.in_flow c.args.least p q far (subst (λ (k : class_t). Stands (class_test k) p q) c.words_class.ensures c.skip_solid.ensures)
