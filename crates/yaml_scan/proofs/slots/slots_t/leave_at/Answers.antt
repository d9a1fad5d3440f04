use Rattle.std.proofs.Common.{◌∙◌, sym, arith}
use Rattle.yaml_scan.proofs.RunningQueue.NoCandidates.{all_empty, nested_none}
use Rattle.yaml_scan.proofs.RunningQueue.NoneAwaited.{lowest_front}
use Rattle.yaml_scan.proofs.slots.slots_t.leave_at.Goals as goal

pub returns-then-is_flow_end-clause-top : goal.returns-then-is_flow_end-clause-top
returns-then-is_flow_end-clause-top c = let f = lowest_front c.args.self.now.outer.items c.args.self.now.top c.requires.none in f.1 ∙ sym (nested_none c.args.kind c.args.self.now.outer.items c.requires.start f.0).1

pub returns-else-is_flow_end-clause-top : goal.returns-else-is_flow_end-clause-top
returns-else-is_flow_end-clause-top c = let f = lowest_front c.args.self.now.outer.items c.args.self.now.top c.requires.none in f.1 ∙ sym (nested_none c.args.kind c.args.self.now.outer.items c.requires.start f.0).1

pub returns-else-is_flow_end-clause-empty : goal.returns-else-is_flow_end-clause-empty
returns-else-is_flow_end-clause-empty c =
    let f = lowest_front c.args.self.now.outer.items c.args.self.now.top c.requires.none in
    let e = all_empty c.args.self.now.outer.items f.0 in
    let n = c.requires.empty in
    let o = c.args.self.now.outer.ok.0 in
    omega arith
