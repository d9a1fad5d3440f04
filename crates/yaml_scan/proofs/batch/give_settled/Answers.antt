use Rattle.std.proofs.Common.{refl}
use Rattle.yaml_scan.specs.inside.Scanner.{scanner_of}
use Rattle.yaml_scan.proofs.RunningCalls.GivenToEnd.{head_words, words_then}
use Rattle.yaml_scan.proofs.RunningCalls.KeptFewer.{fewer_popped}
use Rattle.yaml_scan.proofs.RunningCalls.KeptTokens.{takes_as, told_as_shown}
use Rattle.yaml_scan.proofs.batch.give_settled.Goals as goal

pub give_next-requires-clause-runs : goal.give_next-requires-clause-runs
give_next-requires-clause-runs g c = let n = c.requires.at.1.settled in n.stands.runs

pub give_next-requires-clause-settled : goal.give_next-requires-clause-settled
give_next-requires-clause-settled g c = let n = c.requires.at.1.settled in n.settled

pub give_next-requires-clause-words : goal.give_next-requires-clause-words
give_next-requires-clause-words g c = λ t x p.
    let s = scanner_of c.args.text.now c.args.session.now.state in
    let i = c.requires.at.0 in
    let n = c.requires.at.1.settled in
    head_words s t x n.stands.runs p (words_then s.limit i.setting i.input s n.stands refl)

pub returns-clause-gives : goal.returns-clause-gives
returns-clause-gives g c = λ i k.
    let n = c.in-Ok.ensures in
    let t = takes_as i c.args.text.now c.args.session.now c.give_next.new.state n.0 c.in-Ok.last k n.1 n.2.0 in (
      n.0,
      n.2.1,
      told_as_shown i c.args.text.now c.args.session.now c.give_next.new.state n.0 k n.1,
      t.stands,
    )

pub returns-clause-fewer : goal.returns-clause-fewer
returns-clause-fewer g c =
    let n = c.in-Ok.ensures in
    let k = c.requires.at.1.settled in
    fewer_popped (scanner_of c.args.text.now c.args.session.now.state) (scanner_of c.args.text.now c.give_next.new.state) n.0 k.stands.runs n.1
