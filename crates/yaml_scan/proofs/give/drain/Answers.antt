use Rattle.std.proofs.Common.{◌≡◌, ◌∷◌, ◌++◌, List, length-append, sym, ◌∙◌, subst, arith}
use Rattle.yaml_scan.specs.Token.{yaml_token_t}
use Rattle.yaml_scan.specs.Words.{HaveWords}
use Rattle.yaml_scan.specs.declared.groups.group_t.{group_t}
use Rattle.yaml_scan.specs.inside.Scanner.{scanner_of}
use Rattle.yaml_scan.specs.inside.Handed.{group_tokens}
use Rattle.yaml_scan.specs.inside.Scanning.{groups_in}
use Rattle.yaml_scan.proofs.RunningCalls.DrainedTokens.{drained_so_far, more_drained}
use Rattle.yaml_scan.proofs.RunningCalls.GivenTokens.{told_as}
use Rattle.yaml_scan.proofs.RunningQueue.GroupTokens.{group_some}
use Rattle.yaml_scan.proofs.give.drain.Goals as goal

pub give_ready-requires-clause-words : goal.give_ready-requires-clause-words
give_ready-requires-clause-words g c =
    let a = (scanner_of c.args.text.now c.args.state.now) in
    let s = (scanner_of c.args.text.now c.groups.state) in
    let w = drained_so_far a s (λ ts. g.S.yaml_token_sink_t.took c.args.sink.now ts c.groups.sink) c.groups.any c.requires.runs c.requires.still_open c.groups.invariant.0 in
    let v = w.1.given in
    subst (λ (z : List yaml_token_t). HaveWords z) (sym (told_as a s v.text v.refusal v.limit)) c.requires.words

pub groups-preserved : goal.groups-preserved
groups-preserved g c =
    let a = (scanner_of c.args.text.now c.args.state.now) in
    let s = (scanner_of c.args.text.now c.groups.state) in
    let t = (scanner_of c.args.text.now c.give_ready.new.state) in
    let h = c.in-Ok.ensures in
    let y = h.0 in
    let took = g.S.yaml_token_sink_t.took in
    let w = drained_so_far a s (λ ts. took c.args.sink.now ts c.groups.sink) c.groups.any c.requires.runs c.requires.still_open c.groups.invariant.0 in
    let l = length-append w.0 (group_tokens y) in
    let n = group_some y in
    let r = c.is_ready.ensures c.groups-test.true in
    let head = r.1.head in
    let e : r.0 ∷ r.1.others ≡ y ∷ groups_in t = sym head ∙ h.1 in
    let f : y ≡ r.0 = cc in
    let b = c.groups.sink in
    let d = c.give_ready.new.sink in (
      (
        w.0 ++ group_tokens y,
        more_drained a s t w.0 (group_tokens y) w.1 h.2,
        omega arith,
        g.met.S.yaml_token_sink_t.took_more c.args.sink.now b d w.0 (group_tokens y) w.2 h.3,
      ),
      λ v. r.2 (c.groups.invariant.1 v) d (subst (λ (z : group_t). took b (group_tokens z) d) f h.3),
    )
