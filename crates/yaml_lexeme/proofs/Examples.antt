-- Worked examples, which are computed.

-- Worked inputs: a text, and what its first lexeme must be.
mod FirstLexemes
