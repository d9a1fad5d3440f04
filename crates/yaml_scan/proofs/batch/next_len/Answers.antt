use Rattle.std.proofs.Common.{◌<◌, ◌≤◌, drop, length, ap, sym, ◌∙◌, arith, ltb-true, ltb-false}
use Rattle.std.proofs.lemmas.Bool.{false≢true}
use Rattle.yaml_text.specs.Token.{token_of}
use Rattle.yaml_scan.specs.Groups.{handed_out, offline}
use Rattle.yaml_scan.specs.Sink.{said_len}
use Rattle.yaml_scan.specs.Token.{yaml_token_t}
use Rattle.yaml_scan.specs.inside.Queue.{pending}
use Rattle.yaml_scan.specs.inside.Scanner.{scanner_of}
use Rattle.yaml_scan.specs.inside.Scanning.{history}
use Rattle.yaml_scan.proofs.RunningCalls.KeptFewer.{lead_silent, only_first}
use Rattle.yaml_scan.proofs.RunningCalls.KeptTokens.{first_as_shown}
use Rattle.yaml_scan.proofs.RunningCalls.TakingHead.{groups_some}
use Rattle.yaml_scan.proofs.RunningQueue.QueueGroups.{lead_first, token_first}
use Rattle.yaml_scan.proofs.batch.next_len.Goals as goal

pub returns-then-has_lead : goal.returns-then-has_lead
returns-then-has_lead c = λ T i k.
    let s = scanner_of T c.args.session.now.state in
    let n = k.settled in
    let l : 0 < length (pending s.layout.queue.early s.layout.queue.early_mark s.layout.queue.groups.items) = ltb-true _ _ (sym c.has_lead.ensures ∙ c.if-has_lead.true) in
    let z = lead_silent s.text.encoding s.layout.queue l in
    let x : yaml_token_t = handed_out s.text.encoding z.0 in
    let f = lead_first s.text.encoding s.layout.queue (drop s.taken (offline (history s))) x n.stands.runs.holds.queue.tokens (only_first s.text.encoding s.layout.queue z.0 z.1 z.2) l in
    sym z.3 ∙ ap (λ (y : yaml_token_t). said_len y.token_data) (first_as_shown i T c.args.session.now x k f)

pub returns-in-Some : goal.returns-in-Some
returns-in-Some c = λ T i k.
    let s = scanner_of T c.args.session.now.state in
    let n = k.settled in
    let l : length (pending s.layout.queue.early s.layout.queue.early_mark s.layout.queue.groups.items) ≤ 0 = ltb-false _ _ (sym c.has_lead.ensures ∙ c.if-has_lead.false) in
    let x : yaml_token_t = token_of c.in-Some.head.now.token in
    let f = token_first s.text.encoding s.layout.queue (drop s.taken (offline (history s))) c.in-Some.head.now n.stands.runs.holds.queue.tokens (groups_some s n.stands.runs n.settled) c.in-Some.ensures.lookup l in
    c.said_len.ensures ∙ ap (λ (y : yaml_token_t). said_len y.token_data) (first_as_shown i T c.args.session.now x k f)

pub returns-in-None : goal.returns-in-None
returns-in-None c = λ T i k.
    let s = scanner_of T c.args.session.now.state in
    let n = k.settled in
    let l = groups_some s n.stands.runs n.settled in
    absurd (false≢true (c.in-None.ensures.variant.1 (omega arith)))
