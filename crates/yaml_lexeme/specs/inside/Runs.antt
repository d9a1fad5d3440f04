-- Runs of characters of a class, and of the bytes that spell them.
use Rattle.std.specs.Prelude.{ℕ, ◌≡◌, ◌≤◌, ◌/◌, Bool, true, false, not, ◌&&◌, ◌||◌, ◌==◌, if◌then◌else◌, List, []}
use Rattle.std.specs.Prelude.{◌∷◌, ◌+◌, codes, length, take, slice_index, nat_lt}
use Rattle.std.specs.List.{list_all}
use Rattle.yaml_text.specs.Classes.{is_blank, is_break, is_alpha}
use Rattle.yaml_lexeme.specs.declared.runs.class_t.{class_t}
use Rattle.yaml_lexeme.specs.declared.runs.class_t.TheVariants.{BLANK, GAP_BLANK, SPACE, BLANK_OR_BREAK, ALPHA, URI}
use Rattle.yaml_lexeme.specs.declared.runs.class_t.TheVariants.{IN_LINE, DOUBLE, SINGLE, PLAIN, FLOW}
use Rattle.yaml_lexeme.specs.Classes.{is_white, is_in_line, is_one_of}
use Rattle.yaml_lexeme.specs.Gap.{byte_order_mark, is_gap_blank}
use Rattle.yaml_lexeme.specs.Place.{Place, run_len, skip}
use Rattle.yaml_lexeme.specs.Uri.{is_uri}

-- the characters of a line that mean something in a scalar, so that a run stops there
abbrev pub marks_of : class_t → List ℕ
marks_of DOUBLE = codes "\"\\"
marks_of SINGLE = codes "'"
marks_of PLAIN = codes ":#"
marks_of FLOW = codes ":#,[{]}"
marks_of other = []

abbrev pub is_special : class_t → ℕ → Bool
is_special class c = is_one_of (marks_of class) c

-- a run of the class takes the character
abbrev pub class_test : class_t → ℕ → Bool
class_test BLANK c = is_blank c
class_test (GAP_BLANK tabs) c = is_gap_blank tabs c
class_test SPACE c = c == 0x20
class_test BLANK_OR_BREAK c = is_white c
class_test ALPHA c = is_alpha c
class_test (URI listed) c = is_uri listed c
class_test IN_LINE c = is_in_line c
class_test line c = is_in_line c && not (is_special line c)

-- the class takes most characters of a line
abbrev pub is_line : class_t → Bool
is_line BLANK = false
is_line (GAP_BLANK tabs) = false
is_line SPACE = false
is_line BLANK_OR_BREAK = false
is_line ALPHA = false
is_line (URI listed) = false
is_line line = true

-- the bytes with which a break may begin
abbrev pub leads : List ℕ
leads = 0x0A ∷ 0x0D ∷ 0xC2 ∷ 0xE2 ∷ []

abbrev pub may_break : ℕ → Bool
may_break b = is_one_of leads b

-- bytes at which a run may end
abbrev pub is_stop : class_t → ℕ → Bool
is_stop BLANK_OR_BREAK b = not (is_blank b)
is_stop class b = if is_line class then is_special class b || may_break b else not (class_test class b)

abbrev pub is_quiet : class_t → ℕ → Bool
is_quiet class b = not (is_stop class b)

-- a byte that begins a character
abbrev pub begins : ℕ → Bool
begins b = not (b / 64 == 2)

-- a byte that is not ASCII
abbrev pub is_wide : ℕ → Bool
is_wide b = not (b / 128 == 0)

-- A break may begin with b, but x and y after it show that none does.
abbrev pub is_false_lead : ℕ → ℕ → ℕ → Bool
is_false_lead b x y =
    (b == 0xC2 && not (x == 0x85)) || (b == 0xE2 && not (x == 0x80 && (y == 0xA8 || y == 0xA9)))

-- the same of the first of three bytes or more
abbrev pub is_false_lead_of : List ℕ → Bool
is_false_lead_of (b ∷ x ∷ y ∷ more) = is_false_lead b x y
is_false_lead_of other = false

-- how many of the first bytes of a line end no run of the class
abbrev pub clear_len : class_t → List ℕ → ℕ
clear_len class [] = 0
clear_len class (b ∷ bs) =
    if is_stop class b && not (is_false_lead_of (b ∷ bs)) then 0 else 1 + clear_len class bs

-- The first n bytes of a line end no run of the class, and the byte after them begins a character.
abbrev pub Clear : class_t → List ℕ → ℕ → Type 0
Clear class bytes n = (n ≤ clear_len class bytes) × (begins (slice_index bytes n) ≡ true)

-- the class of what is kept unchanged between quotes
abbrev pub line_of : Bool → class_t
line_of true = SINGLE
line_of false = DOUBLE

-- without the blanks at the end
abbrev pub trim : List ℕ → List ℕ
trim [] = []
trim (c ∷ cs) = if list_all is_blank (c ∷ cs) then [] else c ∷ trim cs

-- q is the place after some of the characters from p on that pass, without the blanks at their end.
abbrev pub Stands : (ℕ → Bool) → Place → Place → Type 0
Stands test p q = (n : ℕ) × ((n ≤ run_len test p) × (q ≡ skip (length (trim (take n p.rest))) p))

-- runs of the class are taken sixteen bytes at a time, though it is not that of a line
abbrev pub is_narrow : class_t → Bool
is_narrow ALPHA = true
is_narrow (URI listed) = not listed
is_narrow other = false

-- characters that belong to no gap, and are no break
abbrev pub is_solid : ℕ → Bool
is_solid c = nat_lt 0x20 c && not (c == 0x23 || (is_break c || c == byte_order_mark))
