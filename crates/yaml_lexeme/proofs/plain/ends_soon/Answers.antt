use Rattle.std.proofs.Common.{◌≡◌, ◌∙◌, true, ap, rules}
use Rattle.yaml_text.specs.Classes.{is_blank}
use Rattle.yaml_lexeme.proofs.Readers.PlainLines.{soon}
use Rattle.yaml_lexeme.specs.Place.{after_run}
use Rattle.yaml_lexeme.specs.inside.Words.{Ends}
use Rattle.yaml_lexeme.proofs.plain.ends_soon.Goals as goal
use Rattle.yaml_lexeme.proofs.plain.ends_soon.Goals.{then-ends_before, else-ends_before}

pub returns : goal.returns
returns g c =
    let flow = c.args.in_flow in
    let least = c.args.least in
    let p = c.args.cursor.now in
    let q = c.skip_run.new.self in
    let s = c.take_feed_and_spaces-broken.new.self in
    let at : q ≡ after_run is_blank p = c.skip_run.ensures ∙ ap (after_run is_blank) c.again-next.ensures in
    let ends : Ends flow least s = elim c.if-ends_before.branch [
      | then-ends_before w ↦ let yes : c.ends_before.result ≡ true = cc in c.ends_before.ensures yes
      | else-ends_before w ↦ let yes : w.ends_anywhere.result ≡ true = cc in w.ends_anywhere.ensures flow least yes
    ] in
    let h = c.take_feed_and_spaces-broken.ensures in
    let t = soon flow least p q s c.take_feed_and_spaces-broken.result at h.here h.taken h.stays ends in
    record { over = t.over; end = t.end; broken = t.broken; stays = search rules }
