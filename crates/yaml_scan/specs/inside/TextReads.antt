-- What the calls on a text return, by what is read of the text.
use Rattle.std.specs.Prelude.{◌≡◌, ℕ, ◌≤◌, Bool, true, List, Option, Some, Ok, Err}
use Rattle.yaml_text.specs.declared.types.yaml_error_type_t.TheVariants.{YAML_SCANNER_ERROR}
use Rattle.yaml_text.specs.Fault.{Fault}
use Rattle.yaml_lexeme.specs.Decider.{decides}
use Rattle.yaml_lexeme.specs.Lexeme.{Lexeme as yaml_lexeme_t}
use Rattle.yaml_scan.specs.Kind.{Kind}
use Rattle.yaml_scan.specs.Source.{Source, Offence}
use Rattle.yaml_scan.specs.SourceOf.{source_of, reading}

-- the lexeme was read
abbrev pub IsRead : List ℕ → Kind → ℕ → Option ℕ → ℕ → yaml_lexeme_t → Type 0
IsRead cs k d l p x = (n : ℕ) × ((source_of cs).read k d l p ≡ Ok (reading x n))

-- the fault of an offence
abbrev pub IsOffence : List ℕ → Kind → ℕ → Option ℕ → ℕ → Fault → Type 0
IsOffence cs k d l p f = (o : Offence) × ((source_of cs).read k d l p ≡ Err o) × (o.fault ≡ f)

-- the problem of an offence is at its place
pub record IsProblem (S : Source) (o : Offence) : Type 0 where
  pub kind : o.fault.error ≡ YAML_SCANNER_ERROR
  pub within : o.place ≤ S.size
  pub index : o.fault.problem_mark.index ≡ (S.mark o.place).index

-- After p characters comes the lexeme x, of kind k, before which there is no gap, in flow or not. It decides whether a
-- candidate before it is a key.
pub record IsDecider (cs : List ℕ) (in_flow : Bool) (p : ℕ) (k : Kind) (x : yaml_lexeme_t) : Type 0 where
  pub decides : decides in_flow k ≡ true
  pub gap : (allowed : Bool) → (source_of cs).gap in_flow allowed p ≡ p
  pub kind : (source_of cs).kind in_flow p ≡ Some k
  pub read : (d : ℕ) (l : Option ℕ) → IsRead cs k d l p x
