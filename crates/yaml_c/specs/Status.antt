-- What the calls on a handle return.
use Rattle.std.specs.Prelude.{ℕ}

-- the call did what it does
abbrev pub done : ℕ
done = 0

-- the answer has the fault that comes next
abbrev pub fault : ℕ
fault = 1

-- no such encoding, no such key limit, or no such window of the input
abbrev pub wrong : ℕ
wrong = 2

-- memory was refused
abbrev pub no_memory : ℕ
no_memory = 3

-- the stream end, or the fault, was given before
abbrev pub over : ℕ
over = 4

-- the texts of what comes next are longer than the room for texts
abbrev pub no_room : ℕ
no_room = 5

-- the handle holds no scanner
abbrev pub not_live : ℕ
not_live = 6

-- more of the input has to come
abbrev pub more : ℕ
more = 7

-- the input is in UTF-16, and all of it has to come
abbrev pub whole : ℕ
whole = 8
