-- Tokens that are put into a caller's two rooms.
use Rattle.std.specs.Prelude.{◌≡◌, ◌⊎◌, ℕ, ◌+◌, ◌≤◌, ◌<◌, [], ◌∷◌, List, length}
use Rattle.yaml_text.specs.Token.{Token}
use Rattle.yaml_c.specs.Room.{covered_from}
use Rattle.yaml_c.specs.Record.{held, record_of, texts_of}
use Rattle.yaml_c.specs.inside.Spelled.{spelled_of}
use Rattle.yaml_c.specs.declared.sink.token_rooms_t.{token_rooms_t}

-- A token is put after what was put before: its record into the one room, its texts into the other, and both are
-- counted.
pub record IsPut (a : token_rooms_t) (token : Token) (b : token_rooms_t) : Type 0 where
  pub same_tokens : b.tokens.ghost_name ≡ a.tokens.ghost_name
  pub same_texts : b.texts.ghost_name ≡ a.texts.ghost_name
  pub same_spare : b.spare.ghost_name ≡ a.spare.ghost_name
  pub spelled : b.spelled ≡ a.spelled
  pub token_count : b.token_count ≡ held (a.token_count + 1)
  pub text_len : b.text_len ≡ held (a.text_len + length (texts_of token))
  pub records : b.tokens.now ≡ covered_from a.token_count
      (record_of (spelled_of a.spelled) a.text_len token ∷ []) a.tokens.now
  pub texts : b.texts.now ≡ covered_from a.text_len (texts_of token) a.texts.now

-- nothing is put, but what stands in the place of the spare list may be another list
pub record IsBeside (a b : token_rooms_t) : Type 0 where
  pub same_spare : b.spare.ghost_name ≡ a.spare.ghost_name
  pub tokens : b.tokens ≡ a.tokens
  pub texts : b.texts ≡ a.texts
  pub spelled : b.spelled ≡ a.spelled
  pub token_count : b.token_count ≡ a.token_count
  pub text_len : b.text_len ≡ a.text_len

-- tokens are put, one after the other
abbrev pub ArePut : token_rooms_t → List Token → token_rooms_t → Type 0
ArePut a [] b = IsBeside a b
ArePut a (token ∷ more) b = (between : token_rooms_t) × IsPut a token between × ArePut between more b

-- no more was put than there is room for
pub record IsWithin (a : token_rooms_t) : Type 0 where
  pub few : a.token_count ≤ length a.tokens.now
  pub fit : a.text_len ≤ length a.texts.now

-- so many more tokens, whose texts have so many bytes, find no room
abbrev pub Lacks : token_rooms_t → ℕ → ℕ → Type 0
Lacks a count texts = (length a.tokens.now < a.token_count + count) ⊎ (length a.texts.now < a.text_len + texts)
