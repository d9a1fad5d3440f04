use Rattle.yaml_lexeme.specs.LexemeOf.{lexeme_of}
use Rattle.yaml_scan.specs.inside.Scanner.{scanner_of}
use Rattle.yaml_scan.proofs.RunningStep.WaitingLaid.{follower, followed_kind}
use Rattle.yaml_scan.proofs.follower.follower_of.Goals as goal

pub decider_at-requires : goal.decider_at-requires
decider_at-requires c = c.requires.place (followed_kind (scanner_of c.args.text.now c.args.state.now) c.args.sparing c.args.read.met c.args.read.reach c.in_ok-waits.waits (c.in_ok-waits.ensures c.args.text.now))

pub returns-then-may_follow : goal.returns-then-may_follow
returns-then-may_follow c = let l = c.may_follow.ensures in let m = c.if-may_follow.true in let d = c.in_ok-decider.ensures in
    follower (scanner_of c.args.text.now c.args.state.now) c.args.sparing c.args.read.met c.args.read.reach c.in_ok-waits.waits c.in_ok-decider.decider.kind (lexeme_of c.in_ok-decider.decider.lexeme) (c.in_ok-waits.ensures c.args.text.now) d.decides d.reach (l.far m) (l.live m)
