use Rattle.std.proofs.Common.{rules, ◌<◌, ◌^◌, length, leb-true, arith}
use Rattle.yaml_c.proofs.TokensPut.{Fits, have_put, same_sizes, texts_are}
use Rattle.yaml_c.proofs.sink.Token_rooms_tyaml_token_sink_t.has_room.Goals as goal

pub returns-then-count-records-clause-room : goal.returns-then-count-records-clause-room
returns-then-count-records-clause-room c = λ e within tokens after few short put.
    let a = c.args.self.now in
    let one : length a.tokens.now < 2 ^ 63 = search rules in
    let two : length a.texts.now < 2 ^ 63 = search rules in
    let fits : Fits a = record { tokens = one; texts = two; token_count = omega (arith, within.few, one); text_len = omega (arith, within.fit, two) } in
    let p = have_put a after tokens fits put in
    let q = same_sizes a after tokens p in
    let t = texts_are tokens in
    let n = leb-true _ _ e in
    record {
      few = omega (arith, p.token_count, q.0, within.few, few, c.if-count-records.true, c.saturating_sub-records.ensures);
      fit = omega (arith, p.text_len, q.1, within.fit, short, t, n, c.saturating_sub-bytes.ensures);
    }

pub returns-else-count-records-clause-lack : goal.returns-else-count-records-clause-lack
returns-else-count-records-clause-lack c = search rules
