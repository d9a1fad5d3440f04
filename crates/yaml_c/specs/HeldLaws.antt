-- What the batches of a scanner are, joined.
use Rattle.std.specs.Prelude.{◌≡◌, ◌≢◌, ◌++◌, ◌∷◌, [], ℕ, List, Option, Some}
use Rattle.yaml_text.specs.declared.types.yaml_encoding_t.{yaml_encoding_t}
use Rattle.yaml_text.specs.Fault.{Fault, memory_fault}
use Rattle.yaml_text.specs.Token.{Token}
use Rattle.yaml_scan.specs.All.{ReadsAll}
use Rattle.yaml_scan.specs.Begins.{Begins}
use Rattle.yaml_scan.specs.Inputs.{answers_to}
use Rattle.yaml_c.specs.Ahead.Ahead.{ALL_GIVEN}
use Rattle.yaml_c.specs.Held.{Scan, IsAt, comes}
use Rattle.yaml_c.specs.Next.Next.{TOKEN}
use Rattle.yaml_c.specs.declared.held.held_t.{held_t}

-- What a scanner has given is a beginning of all tokens of its input.
abbrev pub GivesBeginning : Type 0
GivesBeginning = (s : Scan) (h : held_t) → IsAt s h → Begins s.given (answers_to s.limit s.setting s.input).tokens

-- With the token that comes next, if it is known, they are too.
abbrev pub ShowsNext : Type 0
ShowsNext = (s : Scan) (h : held_t) (t : Token) → IsAt s h → comes s ≡ TOKEN t
    → Begins (s.given ++ t ∷ []) (answers_to s.limit s.setting s.input).tokens

-- If nothing comes any more, it has given what reading the input to its end returns, with the fault after it.
abbrev pub GivesAll : Type 0
GivesAll = (s : Scan) (h : held_t) → IsAt s h → s.ahead ≡ ALL_GIVEN
    → (fault : Option Fault) × ReadsAll s.limit s.setting s.input s.given fault

-- As long as memory is not refused, that is one list and one fault, however an input is read.
abbrev pub IsOneReading : Type 0
IsOneReading = (limit : ℕ) (setting : yaml_encoding_t) (input : List ℕ) (xs ys : List Token) (f g : Option Fault)
    → ReadsAll limit setting input xs f → ReadsAll limit setting input ys g
    → f ≢ Some memory_fault → g ≢ Some memory_fault → (xs ≡ ys) × (f ≡ g)
