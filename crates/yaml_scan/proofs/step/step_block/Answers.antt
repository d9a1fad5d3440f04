use Rattle.yaml_scan.specs.inside.Scanner.{scanner_of}
use Rattle.yaml_scan.proofs.RunningStep.StepMoves.{step_to_from}
use Rattle.yaml_scan.proofs.step.step_block.Goals as goal

pub returns-in-PLAIN-clause-steps : goal.returns-in-PLAIN-clause-steps
returns-in-PLAIN-clause-steps g c = step_to_from g.before (scanner_of c.args.text.now c.args.state.now) (scanner_of c.args.text.now c.pass_gap.new.state) (scanner_of c.args.text.now c.step_usual.new.state) _ _ _ c.step_usual.result c.in-Ok.ensures.1 c.step_usual.ensures.steps

pub returns-in-SINGLE_QUOTED-clause-steps : goal.returns-in-SINGLE_QUOTED-clause-steps
returns-in-SINGLE_QUOTED-clause-steps g c = step_to_from g.before (scanner_of c.args.text.now c.args.state.now) (scanner_of c.args.text.now c.pass_gap.new.state) (scanner_of c.args.text.now c.step_usual-in-SINGLE_QUOTED.new.state) _ _ _ c.step_usual-in-SINGLE_QUOTED.result c.in-Ok.ensures.1 c.step_usual-in-SINGLE_QUOTED.ensures.steps

pub returns-in-DOUBLE_QUOTED-clause-steps : goal.returns-in-DOUBLE_QUOTED-clause-steps
returns-in-DOUBLE_QUOTED-clause-steps g c = step_to_from g.before (scanner_of c.args.text.now c.args.state.now) (scanner_of c.args.text.now c.pass_gap.new.state) (scanner_of c.args.text.now c.step_usual-in-DOUBLE_QUOTED.new.state) _ _ _ c.step_usual-in-DOUBLE_QUOTED.result c.in-Ok.ensures.1 c.step_usual-in-DOUBLE_QUOTED.ensures.steps

pub returns-in-BLOCK_ENTRY-clause-steps : goal.returns-in-BLOCK_ENTRY-clause-steps
returns-in-BLOCK_ENTRY-clause-steps g c = step_to_from g.before (scanner_of c.args.text.now c.args.state.now) (scanner_of c.args.text.now c.pass_gap.new.state) (scanner_of c.args.text.now c.step_character.new.state) _ _ _ c.step_character.result c.in-Ok.ensures.1 c.step_character.ensures.steps

pub returns-in-LITERAL-clause-steps : goal.returns-in-LITERAL-clause-steps
returns-in-LITERAL-clause-steps g c = step_to_from g.before (scanner_of c.args.text.now c.args.state.now) (scanner_of c.args.text.now c.pass_gap.new.state) (scanner_of c.args.text.now c.step_lexeme.new.state) _ _ _ c.step_lexeme.result c.in-Ok.ensures.1 c.step_lexeme.ensures.steps

pub returns-in-FOLDED-clause-steps : goal.returns-in-FOLDED-clause-steps
returns-in-FOLDED-clause-steps g c = step_to_from g.before (scanner_of c.args.text.now c.args.state.now) (scanner_of c.args.text.now c.pass_gap.new.state) (scanner_of c.args.text.now c.step_lexeme-in-FOLDED.new.state) _ _ _ c.step_lexeme-in-FOLDED.result c.in-Ok.ensures.1 c.step_lexeme-in-FOLDED.ensures.steps

pub returns-in_default : goal.returns-in_default
returns-in_default g c = record {
  steps = step_to_from g.before (scanner_of c.args.text.now c.args.state.now) (scanner_of c.args.text.now c.pass_gap.new.state) (scanner_of c.args.text.now c.step_other.new.state) _ _ _ c.step_other.result c.in-Ok.ensures.1 c.step_other.ensures.steps;
  within = c.step_other.ensures.within;
}
