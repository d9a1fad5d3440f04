use Rattle.std.proofs.Common.{Bool, subst}
use Rattle.yaml_lexeme.specs.LexemeOf.{lexeme_of}
use Rattle.yaml_scan.specs.inside.Scanner.{scanner_of}
use Rattle.yaml_scan.specs.inside.Scanning.{IsFollower}
use Rattle.yaml_scan.proofs.follower.lay_followed.Goals as goal

pub returns-then-follower-clause-laid : goal.returns-then-follower-clause-laid
returns-then-follower-clause-laid g c = λ X sparing d b e passed t z p F T Z.
    let f = subst (λ (w : Bool). IsFollower (scanner_of X c.args.state.now) sparing c.args.read.met c.args.read.reach w c.args.follower.now.decider.kind (lexeme_of c.args.follower.now.decider.lexeme)) c.if-follower.true F in
    rw c.if-follower.true (c.lay_both.ensures.laid X sparing d b e passed t z p f T Z)

pub returns-else-follower-clause-laid : goal.returns-else-follower-clause-laid
returns-else-follower-clause-laid g c = λ X sparing d b e passed t z p F T Z.
    let f = subst (λ (w : Bool). IsFollower (scanner_of X c.args.state.now) sparing c.args.read.met c.args.read.reach w c.args.follower.now.decider.kind (lexeme_of c.args.follower.now.decider.lexeme)) c.if-follower.false F in
    rw c.if-follower.false (c.lay_both-else-follower.ensures.laid X sparing d b e passed t z p f T Z)
