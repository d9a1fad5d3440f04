use Rattle.std.proofs.Common.{false, refl, ap, sym, ◌∙◌}
use Rattle.std.proofs.lemmas.Bool.{false≢true, not-false}
use Rattle.yaml_scan.specs.Token.{yaml_token_t}
use Rattle.yaml_scan.specs.inside.Scanner.{scanner_of}
use Rattle.yaml_scan.specs.inside.Handed.{group_with, read_to}
use Rattle.yaml_scan.proofs.RunningStep.StepHanded.{far_there, says_there, words_there}
use Rattle.yaml_scan.proofs.RunningStep.StepTests.{can_put}
use Rattle.yaml_scan.proofs.laid.lay_alone.Goals as goal

pub lay_lexeme-ends-requires : goal.lay_lexeme-ends-requires
lay_lexeme-ends-requires g c = let r = c.requires.1 in ((r.0, r.1, (r.2.0, can_put g.before (scanner_of r.0 c.args.state.now) c.args.read.met r.1 r.2.1)), (r.0, r.2.1.can.room))

pub returns-then-has_to_wait-clause-laid : goal.returns-then-has_to_wait-clause-laid
returns-then-has_to_wait-clause-laid g c = λ X d b e t p T.
    let s = (scanner_of X c.args.state.now) in
    let x = read_to d b e c.args.read.reach c.args.read.passed_break in
    let l = c.lay_lexeme-ends.ensures in
    let w = c.has_to_wait.ensures in
    let says = ap (λ (z : yaml_token_t). z.token_data) T in
    record {
      laid = l.laid X d b e t (can_put g.before s c.args.read.met x p) T;
      far = far_there g.before s c.args.read.met x p _ l.reach;
      few = p.can.can.few_steps;
      room = l.room;
      words = words_there g.before s c.args.read.met x p _ says;
      says = says_there g.before s c.args.read.met x p _ says;
      keyless = refl;
      last = w.last;
      awaited = w.awaited;
      alone = w.lone;
    }

pub returns-else-has_to_wait-clause-laid : goal.returns-else-has_to_wait-clause-laid
returns-else-has_to_wait-clause-laid g c = λ X d b e t p T.
    let s = (scanner_of X c.args.state.now) in
    let x = read_to d b e c.args.read.reach c.args.read.passed_break in
    let l = c.lay_lexeme-ends.ensures in
    let w = c.has_to_wait.ensures in
    let no = c.if-has_to_wait.false in
    let says = ap (λ (z : yaml_token_t). z.token_data) T in
    record {
      laid = l.laid X d b e t (can_put g.before s c.args.read.met x p) T;
      far = far_there g.before s c.args.read.met x p _ l.reach;
      few = p.can.can.few_steps;
      room = l.room;
      words = words_there g.before s c.args.read.met x p _ says;
      says = says_there g.before s c.args.read.met x p _ says;
      keyless = refl;
      last = λ _. w.last no;
      awaited = λ _. w.awaited no;
      alone = λ _. w.lone no;
    }

pub returns-then-has_to_wait-clause-room : goal.returns-then-has_to_wait-clause-room
returns-then-has_to_wait-clause-room g c = λ e. absurd (false≢true (sym e ∙ c.if-has_to_wait.true))

pub returns-else-has_to_wait-clause-room : goal.returns-else-has_to_wait-clause-room
returns-else-has_to_wait-clause-room g c = λ e within t few after w. c.has_room_for_laid.ensures (not-false _ e) within (group_with c.lay_lexeme-ends.result.0 c.lay_lexeme-ends.result.1 false t) after refl refl refl few w
