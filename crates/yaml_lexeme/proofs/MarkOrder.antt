-- The order of marks.

-- Places ahead of a place, and what is read up to there.
pub mod ReadingAhead
-- The marks of places that are ahead are in order, and a gap ends ahead.
pub mod PlaceOrder
-- What the kind that is at a place says of the characters there.
pub mod KindRows
-- A stream end is one mark, at column 0.
pub mod StreamEndOrder
-- The marks of every lexeme are in order.
pub mod LexemeOrder
