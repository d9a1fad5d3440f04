-- What was written of a scan is its listing.
use Rattle.std.proofs.Common.{◌≡◌, ◌++◌, [], ℕ, List, Option, ap, ◌∙◌, refl}
use Rattle.std.specs.Prelude.{IfSome, is_some}
use Rattle.yaml_text.specs.declared.types.yaml_encoding_t.{yaml_encoding_t}
use Rattle.yaml_text.specs.Fault.{Fault}
use Rattle.yaml_scan.specs.Sink.{IsGivenAll}
use Rattle.yaml_scan.specs.Words.{HasLine}
use Rattle.yaml_scan.proofs.SessionCalls.ListLaws.{reads_at_start}
use Rattle.yaml_scan.proofs.SessionCalls.ListWords.{reads_have_lines}
use Rattle.yaml_listing.specs.Listing.{token_lines, fault_lines}
use Rattle.yaml_listing.specs.Run.{ListsScan}

-- the lines of what a sink was given
abbrev pub Tells : ℕ → yaml_encoding_t → (input told : List ℕ) → Option Fault → Type 0
Tells limit setting input told fault = IsGivenAll (λ tokens. told ≡ token_lines tokens) limit setting input fault

module _ (limit : ℕ) (setting : yaml_encoding_t) (input told : List ℕ) (fault : Option Fault) where
  -- the fault has a line
  pub fault_has_line : Tells limit setting input told fault → IfSome fault HasLine
  fault_has_line given = (reads_have_lines limit setting input given.tokens fault given.reads).1

  -- the lines are those of the tokens, and of the fault
  pub lists_scan : Tells limit setting input told fault → (lines : List ℕ) → lines ≡ told ++ fault_lines fault
      → ListsScan limit setting input lines (is_some fault)
  lists_scan given lines more =
      record {
        tokens = given.tokens;
        fault = fault;
        answers = given.reads;
        at_start = λ e. reads_at_start limit setting input given.tokens fault given.reads e;
        lines_are = more ∙ ap (λ (z : List ℕ). z ++ fault_lines fault) given.given;
        fault_is = refl;
      }

  -- lines that were appended to none
  pub tells_all : (front : List ℕ) → front ≡ [] → IsGivenAll (λ tokens. told ≡ front ++ token_lines tokens) limit setting input fault
      → Tells limit setting input told fault
  tells_all front none given = record {
    tokens = given.tokens;
    given = given.given ∙ ap (λ (z : List ℕ). z ++ token_lines given.tokens) none;
    reads = given.reads;
  }
