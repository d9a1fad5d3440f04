-- A scalar that is lent to a sink, as a token.
use Rattle.yaml_text.specs.Token.TokenData.{SCALAR}
use Rattle.yaml_scan.specs.Token.{yaml_token_t}
use Rattle.yaml_scan.specs.declared.lent.yaml_lent_scalar_t.{yaml_lent_scalar_t}

-- the token that says what the scalar says, from its start to its end
abbrev pub lent_token : yaml_lent_scalar_t → yaml_token_t
lent_token s =
    record { token_data = SCALAR s.value.now s.style; start_mark = s.start_mark; end_mark = s.end_mark }
