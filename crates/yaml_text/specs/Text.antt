-- A decoded text, as its user sees it.
use Rattle.std.specs.Prelude.{ℕ, List}
use Rattle.yaml_text.specs.declared.types.yaml_encoding_t.{yaml_encoding_t}

pub record Text : Type 0 where
  pub encoding : yaml_encoding_t
  pub chars : List ℕ
