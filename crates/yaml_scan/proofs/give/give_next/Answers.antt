use Rattle.std.proofs.Common.{◌+◌, arith}
use Rattle.yaml_text.specs.Token.{token_of}
use Rattle.yaml_scan.specs.inside.Scanner.{scanner_of}
use Rattle.yaml_scan.specs.inside.Handed.{set_queue}
use Rattle.yaml_scan.proofs.RunningCalls.NextOfInput.{few_taken}
use Rattle.yaml_scan.proofs.RunningCalls.TakingHead.{few_done, groups_some, next_popped}
use Rattle.yaml_scan.proofs.RunningQueue.QueueGroups.{bare_taken}
use Rattle.yaml_scan.proofs.give.give_next.Goals as goal

pub overflow_add-state : goal.overflow_add-state
overflow_add-state g c = let f = few_taken (scanner_of c.args._text.now c.args.state.now) c.requires.runs in omega arith

pub give_taken-requires : goal.give_taken-requires
give_taken-requires g c = let s = (scanner_of c.args._text.now c.args.state.now) in let x = token_of c.take_early.result in
    c.requires.words (set_queue s c.take_early.new.self (s.taken + 1)) x (next_popped s c.requires.runs c.requires.settled c.take_early.new.self x c.take_early.ensures)

pub returns-then-is_early : goal.returns-then-is_early
returns-then-is_early g c = let s = (scanner_of c.args._text.now c.args.state.now) in let x = token_of c.take_early.result in
    (x, next_popped s c.requires.runs c.requires.settled c.take_early.new.self x c.take_early.ensures, c.give_taken.ensures)

pub take_lead-lead-requires-clause-some : goal.take_lead-lead-requires-clause-some
take_lead-lead-requires-clause-some g c = groups_some (scanner_of c.args._text.now c.args.state.now) c.requires.runs c.requires.settled

pub take_bare-requires-clause-some : goal.take_bare-requires-clause-some
take_bare-requires-clause-some g c = let b = c.take_lead-lead.ensures.none c.in-NOTHING.is in rw b.groups (groups_some (scanner_of c.args._text.now c.args.state.now) c.requires.runs c.requires.settled)

pub take_bare-requires-clause-few : goal.take_bare-requires-clause-few
take_bare-requires-clause-few g c = let b = c.take_lead-lead.ensures.none c.in-NOTHING.is in rw b.done (few_done (scanner_of c.args._text.now c.args.state.now) c.requires.runs c.requires.settled)

pub give_taken-requires-in-NOTHING : goal.give_taken-requires-in-NOTHING
give_taken-requires-in-NOTHING g c = let s = (scanner_of c.args._text.now c.args.state.now) in let x = token_of c.take_bare.result in
    let k = bare_taken s.layout.queue c.take_lead-lead.new.self c.take_bare.new.self x (c.take_lead-lead.ensures.none c.in-NOTHING.is) c.take_bare.ensures in
    c.requires.words (set_queue s c.take_bare.new.self (s.taken + 1)) x (next_popped s c.requires.runs c.requires.settled c.take_bare.new.self x k)

pub give_taken-requires-in_default : goal.give_taken-requires-in_default
give_taken-requires-in_default g c = let s = (scanner_of c.args._text.now c.args.state.now) in let x = token_of c.lead_token.result in
    let k = c.take_lead-lead.ensures.lead x c.in_default.not-NOTHING c.lead_token.ensures in
    c.requires.words (set_queue s c.take_lead-lead.new.self (s.taken + 1)) x (next_popped s c.requires.runs c.requires.settled c.take_lead-lead.new.self x k)

pub returns-in-NOTHING : goal.returns-in-NOTHING
returns-in-NOTHING g c = let s = (scanner_of c.args._text.now c.args.state.now) in let x = token_of c.take_bare.result in
    let k = bare_taken s.layout.queue c.take_lead-lead.new.self c.take_bare.new.self x (c.take_lead-lead.ensures.none c.in-NOTHING.is) c.take_bare.ensures in
    (x, next_popped s c.requires.runs c.requires.settled c.take_bare.new.self x k, c.give_taken-in-NOTHING.ensures)

pub returns-in_default : goal.returns-in_default
returns-in_default g c = let s = (scanner_of c.args._text.now c.args.state.now) in let x = token_of c.lead_token.result in
    let k = c.take_lead-lead.ensures.lead x c.in_default.not-NOTHING c.lead_token.ensures in
    (x, next_popped s c.requires.runs c.requires.settled c.take_lead-lead.new.self x k, c.give_taken-in_default.ensures)
