-- Worked inputs, which are computed.
-- What the definitions give for lexemes that are written as data.
mod WorkedRows
