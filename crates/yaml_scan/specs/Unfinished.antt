-- An unfinished input: only a beginning of it is known, and its refusal stands for what is to come.
use Rattle.std.specs.Prelude.{◌≡◌, ◌⊎◌, ℕ, ◌+◌, ◌≤◌, List, Some, None}
use Rattle.yaml_text.specs.Fault.{Fault}
use Rattle.yaml_scan.specs.Begins.{Begins}
use Rattle.yaml_scan.specs.Course.{Input, next, course}
use Rattle.yaml_scan.specs.Cut.{IsRun, KeepsOrder}
use Rattle.yaml_scan.specs.Laid.{Laid}
use Rattle.yaml_scan.specs.Locality.{ReadsSame}
use Rattle.yaml_scan.specs.Settled.{tokens_of}

-- The input b goes on from the unfinished input a: it reads the same up to eight characters before the end of a. It may
-- be accepted, and if it is refused or unfinished, it has no fewer characters.
pub record GoesOnFrom (a b : Input) (refusal : Fault) : Type 0 where
  pub unfinished : a.refusal ≡ Some refusal
  pub longer : (b.refusal ≡ None) ⊎ (a.source.size ≤ b.source.size)
  pub same : (r : ℕ) → r + 8 ≤ a.source.size → ReadsSame r a.source b.source

-- what is read of a is read of b
abbrev pub StepsGoOn : Type 0
StepsGoOn = (limit : ℕ) (a b : Input) (refusal : Fault) (H : List Laid) → KeepsOrder a.source → GoesOnFrom a b refusal
    → IsRun (next a limit) limit H → IsRun (next b limit) limit H

-- what is handed out of a is handed out of b
abbrev pub TokensGoOn : Type 0
TokensGoOn = (limit : ℕ) (a b : Input) (refusal : Fault) → KeepsOrder a.source → KeepsOrder b.source
    → GoesOnFrom a b refusal → Begins (tokens_of limit (course limit a)) (tokens_of limit (course limit b))

-- a fault of a that does not stand for what is to come is the fault of b, after the same lexemes and tokens
abbrev pub FaultGoesOn : Type 0
FaultGoesOn = (limit : ℕ) (a b : Input) (refusal f : Fault) → KeepsOrder a.source → KeepsOrder b.source
    → GoesOnFrom a b refusal → (course limit a).fault ≡ Some f
    → (f ≡ refusal) ⊎ (((course limit b).fault ≡ Some f) × ((course limit b).read ≡ (course limit a).read)
    × (tokens_of limit (course limit b) ≡ tokens_of limit (course limit a)))
