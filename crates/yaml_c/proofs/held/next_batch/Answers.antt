use Rattle.std.proofs.Common.{rules, ◌<◌, ◌^◌, length, refl, sym, ap, arith, inl, inr}
use Rattle.yaml_c.specs.Ahead.{Ahead}
use Rattle.yaml_c.specs.Answer.{rooms}
use Rattle.yaml_c.specs.Next.{next_of}
use Rattle.yaml_c.specs.declared.held.held_t.{held_t}
use Rattle.yaml_c.proofs.Batches.{over_ahead, over_is}
use Rattle.yaml_c.proofs.BatchEnds.{nothing_given, batch_is, spelled_is}
use Rattle.yaml_c.proofs.held.next_batch.Goals as goal

pub returns-in-OVER : goal.returns-in-OVER
returns-in-OVER c = λ s same at.
    let e = over_ahead s _ _ at.keeps c.in-OVER.is in
    nothing_given s (rooms c.args.tokens.now c.args.texts.now) c.args.held.now c.counts.result 4 at (λ z. refl)
    (inr (inr (inl (refl, e, refl, refl, ap (λ (a : Ahead). next_of s.parser a) e, c.counts.ensures))))

pub returns-then-tokens-eq0 : goal.returns-then-tokens-eq0
returns-then-tokens-eq0 c = λ s same at. nothing_given s (rooms c.args.tokens.now c.args.texts.now) c.args.held.now c.counts-then-tokens-eq0.result 0 at
    (λ e. absurd (c.in_default.not-OVER (over_is _ _ _ at.keeps.ahead e)))
    (inl (refl, refl, c.counts-then-tokens-eq0.ensures, inl (sym c.if-tokens-eq0.true)))

pub returns : goal.returns
returns c = λ s same at.
    let few : length c.args.tokens.now < 2 ^ 63 = search rules in
    let short : length c.args.texts.now < 2 ^ 63 = search rules in
    let some : 0 < length c.args.tokens.now = omega (arith, c.if-tokens-eq0.false) in
    let g = c.give.ensures.next s same at.keeps in
    let h : held_t = record {
      parser = c.give.new.parser;
      ahead = c.end_batch.new.ahead;
      encoding = c.args.held.now.encoding;
      skipped = c.args.held.now.skipped;
      spare = c.end_batch.new.rooms.spare.now;
    } in
    let n = batch_is s _ _ _ h g (record { tokens = few; texts = short; token_count = omega arith; text_len = omega arith }) refl refl some
    (λ e. c.in_default.not-OVER (over_is _ _ _ at.keeps.ahead e)) at.encoding at.skipped
    (spelled_is s (record { input = c.args.input; skipped = c.args.held.now.skipped }) c.args.held.now same at refl)
    c.end_batch.new.rooms _ c.end_batch.new.answer c.end_batch.result refl (c.end_batch.ensures.ends g.parser g.after g.keeps g.ahead) in
    search (rules, n)
