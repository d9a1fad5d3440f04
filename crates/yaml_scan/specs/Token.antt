-- Tokens as they are handed out.
use Rattle.yaml_text.specs.declared.types.yaml_mark_t.{yaml_mark_t}
pub use Rattle.yaml_text.specs.Token.{type_of}
use Rattle.yaml_text.specs.Token.{TokenData as token}
-- the tokens of the definitions, by the names of the types of the code
pub use Rattle.yaml_text.specs.Token.{Token as yaml_token_t, TokenData as unnamed_yaml_token_t_data}
pub use Rattle.yaml_text.specs.Fault.{zero_mark}

-- a token of one mark
abbrev pub at_mark : unnamed_yaml_token_t_data → yaml_mark_t → yaml_token_t
at_mark says m = record { token_data = says; start_mark = m; end_mark = m }

-- the token that stands for none
abbrev pub empty : yaml_token_t
empty = at_mark token.NO_TOKEN zero_mark
