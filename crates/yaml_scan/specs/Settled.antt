-- What is handed out, and when: a token is settled if no further step can insert anything before it. As many steps are
-- made as the next token needs.
use Rattle.std.specs.Prelude.{ℕ, zero, suc, ◌+◌, ◌-◌, Bool, ◌&&◌, List, [], ◌∷◌, ◌++◌, filter, length, max, nat_lt}
use Rattle.std.specs.Prelude.{Option, Some, None, option_map, if◌then◌else◌}
use Rattle.yaml_scan.specs.Laid.{Laid, names, reach}
use Rattle.yaml_scan.specs.Keys.{candidate, live}
use Rattle.yaml_scan.specs.Groups.{Token, block_ends, groups, offline}
use Rattle.yaml_scan.specs.Course.{Course, oldest}

-- i is the candidate of its depth in H
unfoldable pub is_current : List Laid → Laid → Bool
is_current H i = names i.number (option_map (λ c. c.number) (candidate H i.depth))

-- the first one if it is there, or else the second
abbrev pub or_else : Option Laid → Laid → Laid
or_else None i = i
or_else (Some l) i = l

-- the last of a list, which is the earliest lexeme
abbrev pub last_of : List Laid → Option Laid
last_of [] = None
last_of (i ∷ H) = Some (or_else (last_of H) i)

-- the earliest candidate of H, of any depth, that is live at the mark up to which H was read
unfoldable pub waiting : ℕ → List Laid → Option Laid
waiting limit H = last_of (filter (λ i. is_current H i && live limit i (reach H)) H)

-- the offline list up to, and without, the token of one of its lexemes, or all of it
unfoldable pub up_to : List Laid → Option Laid → List Token
up_to H None = offline H
up_to H (Some i) = groups H (filter (λ j. nat_lt j.number i.number) H) ++ block_ends i

-- the offline list up to, and without, the token of the earliest live candidate: what no further lexeme revises
unfoldable pub before : ℕ → List Laid → List Token
before limit H = up_to H (waiting limit H)

-- the tokens of these steps that no further step revises; after the stream end these are all
abbrev pub tokens_of : ℕ → Course → List Token
tokens_of limit c = if c.begun then before limit c.read else []

-- THE PACE
-- the lexemes of the first n steps, of which one is STREAM-START
abbrev pub first_steps : ℕ → List Laid → List Laid
first_steps n H = oldest (n - 1) H

-- token t is settled after n steps of H
abbrev pub settled : ℕ → List Laid → ℕ → ℕ → Bool
settled limit H t n = nat_lt 0 n && nat_lt t (length (before limit (first_steps n H)))

-- the least of n, n + 1 and so on of which a test is true, or n + k if it is true of none below that
unfoldable pub least : (ℕ → Bool) → ℕ → ℕ → ℕ
least test n zero = n
least test n (suc k) = if test n then n else least test (n + 1) k

-- the least number of steps of H after which token t is settled, or all of them
unfoldable pub steps_for : ℕ → List Laid → ℕ → ℕ
steps_for limit H t = least (settled limit H t) 1 (length H)

-- how many steps are made once token t is requested, if n were made
unfoldable pub pace : ℕ → List Laid → ℕ → ℕ → ℕ
pace limit H t n = max n (steps_for limit H t)
