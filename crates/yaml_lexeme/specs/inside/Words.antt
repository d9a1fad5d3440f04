-- Parts of a quoted body, and words of a plain scalar, that are read at once.
use Rattle.std.specs.Prelude.{◌≡◌, ℕ, Bool, true, false, List, [], take, Result, Ok, Err}
use Rattle.std.specs.Prelude.{not, ◌&&◌, ◌||◌, ◌==◌, nat_lt, Option}
use Rattle.std.specs.Prelude.{option_map, unwrap_or}
use Rattle.yaml_text.specs.Chars.{utf8}
use Rattle.yaml_lexeme.specs.declared.problem.yaml_refusal_t.{yaml_refusal_t}
use Rattle.yaml_lexeme.specs.declared.runs.class_t.{class_t}
use Rattle.yaml_lexeme.specs.declared.runs.class_t.TheVariants.{PLAIN, FLOW}
use Rattle.yaml_lexeme.specs.Place.{Place, peek, skip, first, run, after_run}
use Rattle.yaml_lexeme.specs.Classes.{is_white}
use Rattle.yaml_lexeme.specs.Reading.{Read, found, ◌>>=◌, many, with_front, refuse}
use Rattle.yaml_lexeme.specs.Quoted.{body_part, spelled}
use Rattle.yaml_lexeme.specs.Plain.{is_bad_colon, is_chunk, chunk, is_over, link}
use Rattle.yaml_lexeme.specs.inside.Gives.{Refuses}
use Rattle.yaml_lexeme.specs.inside.Runs.{class_test, line_of}
use Rattle.yaml_lexeme.specs.declared.problem.yaml_problem_t.TheVariants.{TAB_IN_PLAIN}

-- What is still to be read makes the same whole: after `old` from p on, and after `new` from q on.
abbrev pub GoesOn : Bool → Place → List ℕ → Place → List ℕ → Type 0
GoesOn single p old q new =
    (whole : Read (List ℕ))
    → with_front old (spelled (many (body_part single) p)) ≡ whole
    → with_front new (spelled (many (body_part single) q)) ≡ whole

-- A piece is what is kept unchanged between quotes in the line at p, and q comes after it.
abbrev pub IsPiece : Bool → Place → Place → List ℕ → Type 0
IsPiece single p q piece =
    (q ≡ after_run (class_test (line_of single)) p) × (piece ≡ utf8 (run (class_test (line_of single)) p))

-- A piece that is kept unchanged in the line at p goes on at q, and `left` are the bytes from p on.
abbrev pub IsInLine : Bool → Place → Place → List ℕ → Type 0
IsInLine single p q left =
    (after_run (class_test (line_of single)) q ≡ after_run (class_test (line_of single)) p) × (left ≡ utf8 p.rest)

-- What is read of the body of the quoted scalar at p is `out`, and then what is read from q on.
abbrev pub LeadsOn : Bool → Place → List ℕ → Place → Type 0
LeadsOn single p out q =
    with_front out (spelled (many (body_part single) q)) ≡ spelled (many (body_part single) (skip 1 p))

-- What is read of a plain scalar after a chunk: separators and chunks, in bytes.
abbrev pub links : Bool → ℕ → Place → Read (List ℕ)
links flow least p = spelled (many (link flow least) p)

-- The same from a place within a chunk on.
abbrev pub words : Bool → ℕ → Place → Read (List ℕ)
words flow least p = chunk flow p >>= λ c. with_front (utf8 c.value) (links flow least c.end)

-- the class of what is kept unchanged in a plain scalar's line
abbrev pub plain_of : Bool → class_t
plain_of true = FLOW
plain_of false = PLAIN

-- q is the place after some of what is kept unchanged in the line at p.
abbrev pub Goes : Bool → ℕ → Place → Place → Type 0
Goes flow least p q =
    (n : ℕ) × ((q ≡ skip n p) × (words flow least p ≡ with_front (utf8 (take n p.rest)) (words flow least q)))

-- What is read from p on is `out`, and then what is read from q on after a chunk.
abbrev pub LeadsTo : Bool → ℕ → Place → List ℕ → Place → Type 0
LeadsTo flow least p out q = with_front [] (words flow least p) ≡ with_front out (links flow least q)

-- What was still to be read is what still is, or it was refused at q.
abbrev pub Leaves : Result (Unit {0}) yaml_refusal_t → Read (List ℕ) → Read (List ℕ) → Place → Type 0
Leaves (Ok _) before after q = before ≡ after
Leaves (Err e) before after q = Refuses e q before

-- The same of a step that may find nothing more.
abbrev pub LeavesMore : Result Bool yaml_refusal_t → Read (List ℕ) → Read (List ℕ) → List ℕ → Place → Type 0
LeavesMore (Ok true) before after out q = before ≡ after
LeavesMore (Ok false) before after out q = before ≡ found out q
LeavesMore (Err e) before after out q = Refuses e q before

-- A plain scalar does not go on at q, where a separator ends.
abbrev pub Ends : Bool → ℕ → Place → Type 0
Ends flow least q =
    let c = first q in
    let next = peek q 1 in
    (is_white c ≡ false) × ((is_over flow least q || not (is_chunk flow c next || is_bad_colon flow c next)) ≡ true)

-- a tab in indentation: at a column below `least`, in a separator with a break before it
abbrev pub is_bad_tab : ℕ → Bool → Place → Bool
is_bad_tab least broken p = (first p == 0x09 && broken) && nat_lt p.mark.column least

-- this value, unless there is a tab in indentation
abbrev pub untabbed : Option Place → List ℕ → Place → Read (List ℕ)
untabbed tab value p = unwrap_or (option_map (λ t. refuse TAB_IN_PLAIN t) tab) (found value p)
