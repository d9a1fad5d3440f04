-- What depends on no character eight or more past the place where a step ends.
use Rattle.std.specs.Prelude.{◌≡◌, ◌⊎◌, ℕ, ◌+◌, ◌<◌, ◌≤◌, length, slice_get, Bool, List}
use Rattle.std.specs.Prelude.{Option, Some, None, Result, Ok, Err}
use Rattle.yaml_text.specs.Fault.{Fault}
use Rattle.yaml_text.specs.TextBytes.{AreChars}
use Rattle.yaml_scan.specs.Settled.{tokens_of}
use Rattle.yaml_scan.specs.Course.{Input, course}
use Rattle.yaml_scan.specs.Kind.{Kind}
use Rattle.yaml_scan.specs.Laid.{Laid}
use Rattle.yaml_scan.specs.Begins.{Begins}
use Rattle.yaml_scan.specs.Source.{Source, Reading, Offence}
use Rattle.yaml_scan.specs.SourceOf.{source_of}
use Rattle.yaml_scan.specs.Step.{step, place_after}
use Rattle.yaml_scan.specs.Cut.{KeepsOrder}
use Rattle.yaml_scan.specs.Near.{place_of}

-- the place where reading ended, or was refused
abbrev pub place_read : Result Reading Offence → ℕ
place_read (Ok r) = r.place
place_read (Err o) = o.place

-- what is read up to place r is the same in both texts, as if they agree on all characters below r + 8, the end counted
-- as one
pub record ReadsSame (r : ℕ) (S T : Source) : Type 0 where
  pub marks : (p : ℕ) → p ≤ r → T.mark p ≡ S.mark p
  pub gaps : (flow allowed : Bool) (p : ℕ) → S.gap flow allowed p ≤ r → T.gap flow allowed p ≡ S.gap flow allowed p
  pub kinds : (flow : Bool) (p : ℕ) → p ≤ r → T.kind flow p ≡ S.kind flow p
  pub reads : (k : Kind) (d : ℕ) (l : Option ℕ) (p : ℕ) → place_read (S.read k d l p) ≤ r
      → T.read k d l p ≡ S.read k d l p

-- a step that has its reach or its problem at place r at most is the same in both
abbrev pub StepIsLocal : Type 0
StepIsLocal = (S T : Source) (limit : ℕ) (H : List Laid) (r : ℕ) → KeepsOrder S → place_after H ≤ S.size
    → ReadsSame r S T → place_of (step S limit H) ≤ r
    → step T limit H ≡ step S limit H

-- the accepted input b agrees with the refused input a up to what a was refused for
pub record AgreesWith (a b : Input) (refusal : Fault) : Type 0 where
  pub refused : a.refusal ≡ Some refusal
  pub accepted : b.refusal ≡ None
  pub same : (r : ℕ) → r + 8 ≤ a.source.size → ReadsSame r a.source b.source

-- what is handed out before a late reader fault is handed out of each such input
abbrev pub TokensBeforeRefusal : Type 0
TokensBeforeRefusal = (limit : ℕ) (a b : Input) (refusal : Fault) → KeepsOrder a.source → KeepsOrder b.source
    → AgreesWith a b refusal
    → Begins (tokens_of limit (course limit a)) (tokens_of limit (course limit b))

-- a fault other than the reader's is the fault of each accepted input that agrees, after the same lexemes
abbrev pub FaultBeforeRefusal : Type 0
FaultBeforeRefusal = (limit : ℕ) (a b : Input) (refusal f : Fault) → KeepsOrder a.source → KeepsOrder b.source
    → AgreesWith a b refusal → (course limit a).fault ≡ Some f
    → (f ≡ refusal) ⊎ (((course limit b).fault ≡ Some f) × ((course limit b).read ≡ (course limit a).read)
    × (tokens_of limit (course limit b) ≡ tokens_of limit (course limit a)))

-- the characters below place m are the same, with the end counted as one
abbrev pub SameBelow : ℕ → List ℕ → List ℕ → Type 0
SameBelow m a b = (i : ℕ) → i < m → slice_get a i ≡ slice_get b i

-- what is read up to place r depends on no character eight or more past it
abbrev pub TextsAreLocal : Type 0
TextsAreLocal = (r : ℕ) (a b : List ℕ) → SameBelow (r + 8) a b → ReadsSame r (source_of a) (source_of b)

-- two texts agree on all characters below r + 8, and the step after the same lexemes has its reach or its problem at
-- place r at most in one of them: it is the same in both
abbrev pub TextStepIsLocal : Type 0
TextStepIsLocal = (a b : List ℕ) (limit : ℕ) (H : List Laid) (r : ℕ) → AreChars a → place_after H ≤ length a
    → SameBelow (r + 8) a b → place_of (step (source_of a) limit H) ≤ r
    → step (source_of b) limit H ≡ step (source_of a) limit H

-- What is read of a decoded text is in its order.
abbrev pub TextsKeepOrder : Type 0
TextsKeepOrder = (cs : List ℕ) → AreChars cs → KeepsOrder (source_of cs)
