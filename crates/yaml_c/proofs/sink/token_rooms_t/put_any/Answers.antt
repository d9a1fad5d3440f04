use Rattle.std.proofs.Common.{rules, ◌<◌, ◌^◌, ◌∷◌, [], length, ap, ◌∙◌}
use Rattle.yaml_c.specs.declared.record.bogzhami_token.{bogzhami_token}
use Rattle.yaml_c.specs.Room.{covered_from}
use Rattle.yaml_c.proofs.Rooms.{both_covered, both_counted}
use Rattle.yaml_c.proofs.sink.token_rooms_t.put_any.Goals as goal

pub returns : goal.returns
returns c =
    let low : length c.args.self.now.texts.now < 2 ^ 63 = search rules in
    record {
      same_tokens = ap (λ z. z.ghost_name) c.count_token.ensures.tokens;
      same_texts = ap (λ z. z.ghost_name) c.count_token.ensures.texts;
      same_spare = ap (λ z. z.ghost_name) c.count_token.ensures.spare;
      spelled = c.count_token.ensures.spelled;
      token_count = c.count_token.ensures.token_count;
      text_len = both_counted _ _ _ _ _ _ _ c.first_text-first.ensures c.second_text-second.ensures
          c.saturating_add-second_at.ensures (c.count_token.ensures.text_len ∙ c.saturating_add.ensures);
      records = ap (λ z. z.now) c.count_token.ensures.tokens ∙ c.put_record.ensures
          ∙ ap (λ (r : bogzhami_token). covered_from c.args.self.now.token_count (r ∷ []) c.args.self.now.tokens.now)
          c.record_of.ensures;
      texts = ap (λ z. z.now) c.count_token.ensures.texts ∙ both_covered _ _ _ _ _ _ _ _ _ c.first_text-first.ensures c.second_text-second.ensures
          low c.saturating_add-second_at.ensures c.put_bytes.ensures c.put_bytes-2.ensures;
    }
