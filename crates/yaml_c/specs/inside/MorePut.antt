-- If some tokens are put, and others after them, all are put: what a sink has to show of what it took. These are
-- proofs, and stand here since a member of a trait can cite only what is in specs.
use Rattle.std.proofs.Common.{◌++◌, [], ◌∷◌, List, refl, ◌∙◌, ℕ, ◌≡◌}
use Rattle.yaml_text.specs.Token.{Token}
use Rattle.yaml_c.specs.inside.Sink.{ArePut, IsBeside, IsPut, IsWithin}
use Rattle.yaml_c.specs.declared.sink.token_rooms_t.{token_rooms_t}

pub none_put : (a : token_rooms_t) → IsBeside a a
none_put a = record {
  same_spare = refl;
  tokens = refl;
  texts = refl;
  spelled = refl;
  token_count = refl;
  text_len = refl;
}

put_beside : (a b c : token_rooms_t) (t : Token) → IsBeside a b → IsPut b t c → IsPut a t c
put_beside a b c t e p = record {
  same_tokens = rw (← e.tokens) p.same_tokens;
  same_texts = rw (← e.texts) p.same_texts;
  same_spare = p.same_spare ∙ e.same_spare;
  spelled = p.spelled ∙ e.spelled;
  token_count = rw (← e.token_count) p.token_count;
  text_len = rw (← e.text_len) p.text_len;
  records = rw (← e.tokens, ← e.token_count, ← e.text_len, ← e.spelled) p.records;
  texts = rw (← e.texts, ← e.text_len) p.texts;
}

more_beside : (a b c : token_rooms_t) (ys : List Token) → IsBeside a b → ArePut b ys c → ArePut a ys c
more_beside a b c [] e f = record {
  same_spare = f.same_spare ∙ e.same_spare;
  tokens = f.tokens ∙ e.tokens;
  texts = f.texts ∙ e.texts;
  spelled = f.spelled ∙ e.spelled;
  token_count = f.token_count ∙ e.token_count;
  text_len = f.text_len ∙ e.text_len;
}
more_beside a b c (y ∷ ys) e f = (f.0, put_beside a b f.0 y e f.1, f.2)

pub more_put : (a b c : token_rooms_t) (xs ys : List Token) → ArePut a xs b → ArePut b ys c → ArePut a (xs ++ ys) c
more_put a b c [] ys e f = more_beside a b c ys e f
more_put a b c (x ∷ xs) ys e f = (e.0, e.1, more_put e.0 b c xs ys e.2 f)

pub within_none : (a b : token_rooms_t) → IsBeside a b → IsWithin a → IsWithin b
within_none a b e w = record { few = rw (e.token_count, e.tokens) w.few; fit = rw (e.text_len, e.texts) w.fit }

-- A sink behind a name keeps the name.
pub same_name : (x : ℕ) → x ≡ x
same_name x = refl

pub same_names : (x y z : ℕ) → y ≡ x → z ≡ y → z ≡ x
same_names x y z e f = f ∙ e
