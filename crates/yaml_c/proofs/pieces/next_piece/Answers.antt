use Rattle.std.proofs.Common.{rules, ◌<◌, ◌^◌, length, refl, sym, ap, arith, inl, inr}
use Rattle.yaml_c.specs.Answer.{rooms}
use Rattle.yaml_c.specs.Next.Next.{UNKNOWN}
use Rattle.yaml_c.specs.declared.pieces.held_pieces_t.{held_pieces_t}
use Rattle.yaml_c.proofs.Batches.{over_is}
use Rattle.yaml_c.proofs.PieceEnds.{came_now, nothing_given, piece_is}
use Rattle.yaml_c.proofs.PieceTokens.{over_read, stops_at_fault}
use Rattle.yaml_c.proofs.pieces.next_piece.Goals as goal

pub returns-in-OVER : goal.returns-in-OVER
returns-in-OVER c = λ s same last at.
    nothing_given s (rooms c.args.tokens.now c.args.texts.now) _ c.counts.result 4
    (came_now s c.args.held.now _ at refl refl (sym (ap length same)) (sym last)) (sym (ap length same)) (sym last) (λ e. refl)
    (λ why. inr (inr (inl (refl, over_read s _ _ at.keeps c.in-OVER.is, refl, refl, c.counts.ensures))))

pub returns-then-tokens-eq0 : goal.returns-then-tokens-eq0
returns-then-tokens-eq0 c = λ s same last at.
    nothing_given s (rooms c.args.tokens.now c.args.texts.now) _ c.counts-then-tokens-eq0.result 0
    (came_now s c.args.held.now _ at refl refl (sym (ap length same)) (sym last)) (sym (ap length same)) (sym last)
    (λ e. absurd (c.in_default.not-OVER (over_is _ _ _ at.keeps.ahead e)))
    (λ why. inl (refl, refl, c.counts-then-tokens-eq0.ensures, (UNKNOWN, tt, inl (sym c.if-tokens-eq0.true))))

pub end_piece-requires : goal.end_piece-requires
end_piece-requires c =
    let r = c.requires in
    let g = c.give-why.ensures.gives r.0 r.1 r.2 r.3.keeps in
    (g.left.fed, g.left.ahead, g.keeps.is, g.keeps.ahead, stops_at_fault _ _ g.list g.why g.left _ g.stops)

pub returns : goal.returns
returns c = λ s same last at.
    let few : length c.args.tokens.now < 2 ^ 63 = search rules in
    let short : length c.args.texts.now < 2 ^ 63 = search rules in
    let some : 0 < length c.args.tokens.now = omega (arith, c.if-tokens-eq0.false) in
    let g = c.give-why.ensures.gives s same last at.keeps in
    let h : held_pieces_t = record {
      parser = c.give-why.new.parser;
      ahead = c.end_piece.new.ahead;
      came = length c.args.window.now;
      whole = c.args.last;
      spare = c.end_piece.new.rooms.spare.now;
    } in
    let n = piece_is s _ _ _ _ h g (record { tokens = few; texts = short; token_count = omega arith; text_len = omega arith }) refl refl some
    (λ e. c.in_default.not-OVER (over_is _ _ _ at.keeps.ahead e)) (sym (ap length same)) (sym last) refl
    c.end_piece.new.rooms _ c.end_piece.new.answer c.end_piece.result refl
    (c.end_piece.ensures.ends g.left.fed g.left.ahead g.keeps.is g.keeps.ahead
    (stops_at_fault _ _ g.list g.why g.left _ g.stops)) in
    search (rules, n)
