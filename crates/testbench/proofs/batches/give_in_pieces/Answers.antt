use Rattle.std.proofs.Common.{◌≡◌, ◌≤◌, length, nat_eq, take, sym, subst}
use Rattle.yaml_scan.specs.Fed.{Fed}
use Rattle.yaml_scan.specs.inside.Feeding.{IsFed}
use Rattle.testbench.specs.declared.pieces.feed_t.{feed_t}
use Rattle.testbench.proofs.batches.give_in_pieces.Goals as goal
use Rattle.testbench.proofs.batches.give_in_pieces.Goals.{in-MORE, in-ROOM}

-- the bytes that came are given to its parser
abbrev Feeds : feed_t → Type 0
Feeds f = (f.came ≤ length f.input.now) × ((p : Fed) × (p.given ≡ take f.came f.input.now) × (p.whole ≡ nat_eq f.came (length f.input.now)) × IsFed p f.fed)

pub calls-preserved : goal.calls-preserved
calls-preserved g c = elim c.match-branch-2.branch [
  | in-MORE w ↦ subst Feeds (sym w.feed-is) (w.more.ensures.within, w.more.ensures.fed)
  | in-ROOM w ↦ subst Feeds (sym w.feed-is) (c.give_piece.ensures.within, c.give_piece.ensures.fed)
]
