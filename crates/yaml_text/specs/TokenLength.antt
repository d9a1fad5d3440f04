-- How long the text of a token is.
use Rattle.std.specs.Prelude.{ℕ, length}
use Rattle.yaml_text.specs.Token.{TokenData}
use Rattle.yaml_text.specs.Token.TokenData.{SCALAR}

-- The length of a scalar's value, in bytes.
abbrev pub length_of : TokenData → ℕ
length_of (SCALAR value style) = length value
length_of _ = 0
