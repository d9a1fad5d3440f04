use Rattle.yaml_scan.specs.inside.Scanner.{scanner_of}
use Rattle.yaml_scan.proofs.RunningStep.StepMoves.{step_to_from}
use Rattle.yaml_scan.proofs.step.step_flow.Goals as goal

pub returns-in-PLAIN-clause-steps : goal.returns-in-PLAIN-clause-steps
returns-in-PLAIN-clause-steps g c = step_to_from g.before (scanner_of c.args.text.now c.args.state.now) (scanner_of c.args.text.now c.pass_gap.new.state) (scanner_of c.args.text.now c.step_lent_in_flow.new.state) _ _ _ c.step_lent_in_flow.result c.in-Ok.ensures.1 c.step_lent_in_flow.ensures.steps

pub returns-in-SINGLE_QUOTED-clause-steps : goal.returns-in-SINGLE_QUOTED-clause-steps
returns-in-SINGLE_QUOTED-clause-steps g c = step_to_from g.before (scanner_of c.args.text.now c.args.state.now) (scanner_of c.args.text.now c.pass_gap.new.state) (scanner_of c.args.text.now c.step_lent_in_flow-in-SINGLE_QUOTED.new.state) _ _ _ c.step_lent_in_flow-in-SINGLE_QUOTED.result c.in-Ok.ensures.1 c.step_lent_in_flow-in-SINGLE_QUOTED.ensures.steps

pub returns-in-DOUBLE_QUOTED-clause-steps : goal.returns-in-DOUBLE_QUOTED-clause-steps
returns-in-DOUBLE_QUOTED-clause-steps g c = step_to_from g.before (scanner_of c.args.text.now c.args.state.now) (scanner_of c.args.text.now c.pass_gap.new.state) (scanner_of c.args.text.now c.step_lent_in_flow-in-DOUBLE_QUOTED.new.state) _ _ _ c.step_lent_in_flow-in-DOUBLE_QUOTED.result c.in-Ok.ensures.1 c.step_lent_in_flow-in-DOUBLE_QUOTED.ensures.steps

pub returns-in-FLOW_ENTRY-clause-steps : goal.returns-in-FLOW_ENTRY-clause-steps
returns-in-FLOW_ENTRY-clause-steps g c = step_to_from g.before (scanner_of c.args.text.now c.args.state.now) (scanner_of c.args.text.now c.pass_gap.new.state) (scanner_of c.args.text.now c.step_character.new.state) _ _ _ c.step_character.result c.in-Ok.ensures.1 c.step_character.ensures.steps

pub returns-in-FLOW_SEQUENCE_START-clause-steps : goal.returns-in-FLOW_SEQUENCE_START-clause-steps
returns-in-FLOW_SEQUENCE_START-clause-steps g c = step_to_from g.before (scanner_of c.args.text.now c.args.state.now) (scanner_of c.args.text.now c.pass_gap.new.state) (scanner_of c.args.text.now c.step_character-in-FLOW_SEQUENCE_START.new.state) _ _ _ c.step_character-in-FLOW_SEQUENCE_START.result c.in-Ok.ensures.1 c.step_character-in-FLOW_SEQUENCE_START.ensures.steps

pub returns-in-FLOW_MAPPING_START-clause-steps : goal.returns-in-FLOW_MAPPING_START-clause-steps
returns-in-FLOW_MAPPING_START-clause-steps g c = step_to_from g.before (scanner_of c.args.text.now c.args.state.now) (scanner_of c.args.text.now c.pass_gap.new.state) (scanner_of c.args.text.now c.step_character-in-FLOW_MAPPING_START.new.state) _ _ _ c.step_character-in-FLOW_MAPPING_START.result c.in-Ok.ensures.1 c.step_character-in-FLOW_MAPPING_START.ensures.steps

pub returns-in-FLOW_SEQUENCE_END-clause-steps : goal.returns-in-FLOW_SEQUENCE_END-clause-steps
returns-in-FLOW_SEQUENCE_END-clause-steps g c = step_to_from g.before (scanner_of c.args.text.now c.args.state.now) (scanner_of c.args.text.now c.pass_gap.new.state) (scanner_of c.args.text.now c.step_character-in-FLOW_SEQUENCE_END.new.state) _ _ _ c.step_character-in-FLOW_SEQUENCE_END.result c.in-Ok.ensures.1 c.step_character-in-FLOW_SEQUENCE_END.ensures.steps

pub returns-in-FLOW_MAPPING_END-clause-steps : goal.returns-in-FLOW_MAPPING_END-clause-steps
returns-in-FLOW_MAPPING_END-clause-steps g c = step_to_from g.before (scanner_of c.args.text.now c.args.state.now) (scanner_of c.args.text.now c.pass_gap.new.state) (scanner_of c.args.text.now c.step_character-in-FLOW_MAPPING_END.new.state) _ _ _ c.step_character-in-FLOW_MAPPING_END.result c.in-Ok.ensures.1 c.step_character-in-FLOW_MAPPING_END.ensures.steps

pub returns-in_default : goal.returns-in_default
returns-in_default g c = record {
  steps = step_to_from g.before (scanner_of c.args.text.now c.args.state.now) (scanner_of c.args.text.now c.pass_gap.new.state) (scanner_of c.args.text.now c.step_at.new.state) _ _ _ c.step_at.result c.in-Ok.ensures.1 c.step_at.ensures.steps;
  within = c.step_at.ensures.within;
}
