-- What is written of the lines begins the listing.
use Rattle.std.proofs.Common.{◌++◌, ℕ, List, subst, take}
use Rattle.std.specs.Io.KnownBytes.{Appends}
use Rattle.yaml_listing.proofs.Followed.{at_begins, by_error, part_begins, settled_begins}
use Rattle.yaml_listing.proofs.WritesInTurn.{Appends-trans}
use Rattle.yaml_listing.proofs.following.follower_t.write.Goals as goal

pub returns-in_err-lines-clause-wrote : goal.returns-in_err-lines-clause-wrote
returns-in_err-lines-clause-wrote g c s start told at app = (
  told,
  app,
  by_error c.from_residual.result _ _ c.from_residual.ensures.0
      (at_begins s c.args.self.now.input.items c.args.self.now.fed told at c.args.last),
)

pub returns-in_err-write_all-clause-wrote : goal.returns-in_err-write_all-clause-wrote
returns-in_err-write_all-clause-wrote g c s start told at app =
    let sink = g.W.yaml_sink_t in
    let given = c.args.self.now.input.items in
    let last = c.args.last in
    let lines = c.in_ok-lines.lines.items in
    let part = c.in_err-write_all.ensures.part in
    let settled = c.in_ok-lines.ensures.settled s told at in
    let more = subst (λ (z : List ℕ). Appends (sink.contents c.args.writer.now) (sink.contents c.write_all.new.writer) (take part.0 z))
    c.deref.ensures.value part.2 in (
      told ++ take part.0 lines,
      Appends-trans start (sink.contents c.args.writer.now) (sink.contents c.write_all.new.writer) told (take part.0 lines) app more,
      by_error c.from_residual-in_err-write_all.result _ _ c.from_residual-in_err-write_all.ensures.0
          (part_begins s last given told lines part.0
          (settled_begins s last given c.list.new.self.fed (told ++ lines) c.in_ok-lines.done settled.0)),
    )

pub returns-clause-wrote : goal.returns-clause-wrote
returns-clause-wrote g c s start told at app =
    let sink = g.W.yaml_sink_t in
    let lines = c.in_ok-lines.lines.items in
    let more = subst (λ (z : List ℕ). Appends (sink.contents c.args.writer.now) (sink.contents c.write_all.new.writer) z)
    c.deref.ensures.value c.in_ok-write_all.ensures.all in
    (told ++ lines, Appends-trans start (sink.contents c.args.writer.now) (sink.contents c.write_all.new.writer) told lines app more, c.in_ok-lines.ensures.settled s told at)
