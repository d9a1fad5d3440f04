use Rattle.std.proofs.Common.{ap, arith, subst}
use Rattle.yaml_text.specs.declared.types.yaml_mark_t.{yaml_mark_t}
use Rattle.yaml_scan.specs.Token.{yaml_token_t}
use Rattle.yaml_lexeme.specs.LexemeOf.{lexeme_of}
use Rattle.yaml_scan.specs.inside.Handed.{read_to}
use Rattle.yaml_scan.specs.inside.Scanner.{scanner_of}
use Rattle.yaml_scan.specs.inside.Scanning.{CanLayAll}
use Rattle.yaml_scan.proofs.RunningStep.StepHanded.{decider_len}
use Rattle.yaml_scan.proofs.RunningStep.UsualLaid.{key_laid}
use Rattle.yaml_scan.proofs.lines.lay_key.Goals as goal

pub returns-clause-laid : goal.returns-clause-laid
returns-clause-laid g c = λ X d b e t p D T.
    let q = c.requires in
    key_laid g.before (scanner_of X c.args.state.now) c.args.read.met (read_to d b e c.args.read.reach c.args.read.passed_break) p q.1.0 D.undecided.candidate D.undecided.alone q.1.1.0 t T c.args.colon.kind (lexeme_of c.args.colon.lexeme) D q.1.1.1 c.token_of.result c.token_of.ensures

pub returns-clause-few : goal.returns-clause-few
returns-clause-few g c = λ t texts.
    let r = c.requires.0 in
    let says = ap (λ (z : yaml_token_t). z.token_data) c.token_of.ensures in
    let y = r.1 in
    let s = scanner_of r.0 c.args.state.now in
    let x = read_to y.token_data y.start_mark y.end_mark c.args.read.reach y.passed_break in
    let can = subst (λ (m : yaml_mark_t). CanLayAll g.before s c.args.read.met (read_to y.token_data y.start_mark y.end_mark m y.passed_break)) r.2.0.0 r.2.1 in
    let l = decider_len g.before s c.args.read.met x can r.2.2.undecided.candidate c.args.colon.kind (lexeme_of c.args.colon.lexeme) r.2.2.decider _ says in
    (omega arith, omega arith)
