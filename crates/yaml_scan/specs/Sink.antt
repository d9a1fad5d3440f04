-- What a sink is given.
use Rattle.std.specs.Prelude.{◌++◌, [], ◌∷◌, ℕ, ◌+◌, List, length, Option}
use Rattle.yaml_text.specs.Fault.{Fault}
use Rattle.yaml_text.specs.declared.types.yaml_encoding_t.{yaml_encoding_t}
use Rattle.yaml_scan.specs.Token.{yaml_token_t, unnamed_yaml_token_t_data}
use Rattle.yaml_text.specs.Token.TokenData.{TAG_DIRECTIVE, ALIAS, ANCHOR, TAG, SCALAR}
use Rattle.yaml_scan.specs.Begins.{Begins}
use Rattle.yaml_scan.specs.Inputs.{answers_to}
use Rattle.yaml_scan.specs.All.{ReadsAll}

-- how many bytes the texts of a token have: a handle, a name, a value, a prefix or a suffix
abbrev pub said_len : unnamed_yaml_token_t_data → ℕ
said_len (TAG_DIRECTIVE handle prefix) = length handle + length prefix
said_len (TAG handle suffix) = length handle + length suffix
said_len (ALIAS value) = length value
said_len (ANCHOR value) = length value
said_len (SCALAR value style) = length value
said_len _ = 0

-- how many bytes the texts of some tokens have
abbrev pub texts_len : List yaml_token_t → ℕ
texts_len [] = 0
texts_len (t ∷ ts) = said_len t.token_data + texts_len ts

-- a sink was given, in order, what reading an input to its end returns
pub record IsGivenAll (took : List yaml_token_t
    → Type 0) (limit : ℕ) (setting : yaml_encoding_t) (input : List ℕ) (fault : Option Fault) : Type 0 where
  pub tokens : List yaml_token_t
  pub given : took tokens
  pub reads : ReadsAll limit setting input tokens fault

-- a sink was given, in order, the tokens of an input before one that it refused
pub record IsGivenBeginning (took : List yaml_token_t
    → Type 0) (limit : ℕ) (setting : yaml_encoding_t) (input : List ℕ) : Type 0 where
  pub tokens : List yaml_token_t
  pub given : took tokens
  pub refused : yaml_token_t
  pub beginning : Begins (tokens ++ refused ∷ []) (answers_to limit setting input).tokens
