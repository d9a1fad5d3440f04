-- What the program writes of an input that it follows: the lines of tokens, each once nothing to come can change it.
use Rattle.std.specs.Prelude.{ℕ, ◌≡◌, ◌≢◌, ◌⊎◌, Bool, true, List, [], ◌∷◌, ◌++◌, codes, Option, Some, is_some}
use Rattle.std.specs.Io.KnownBytes.{Appends, Consumes, IsAtEnd}
use Rattle.yaml_text.specs.Decode.{encoding_of}
use Rattle.yaml_text.specs.declared.types.yaml_encoding_t.{yaml_encoding_t}
use Rattle.yaml_text.specs.declared.types.yaml_encoding_t.TheVariants.{YAML_UTF8_ENCODING}
use Rattle.yaml_text.specs.Fault.{Fault, memory_fault}
use Rattle.yaml_text.specs.Token.{Token}
use Rattle.yaml_scan.specs.All.{AllOf}
use Rattle.yaml_scan.specs.Answers.{answers}
use Rattle.yaml_scan.specs.Begins.{Begins}
use Rattle.yaml_scan.specs.Fed.{MayBe}
use Rattle.yaml_scan.specs.Inputs.{answers_to}
use Rattle.yaml_scan.specs.Pieces.{is_known, unfinished}
use Rattle.yaml_listing.specs.Args.{setting_word, usual_key_limit}
use Rattle.yaml_listing.specs.Listing.{fault_line, fault_lines, token_lines}
use Rattle.yaml_listing.specs.declared.outcome.tool_fault_t.{tool_fault_t}
use Rattle.yaml_listing.specs.declared.outcome.tool_fault_t.TheVariants.{Read}

-- these words ask for an input to be followed
abbrev pub AskToFollow : List (List ℕ) → yaml_encoding_t → Type 0
AskToFollow words setting = words ≡ codes "follow" ∷ setting_word setting ∷ []

-- These are all tokens of the input and its fault; or its first tokens, and then memory was refused.
abbrev pub ReadsOn : yaml_encoding_t → List ℕ → List Token → Option Fault → Type 0
ReadsOn setting input tokens fault = AllOf (answers_to usual_key_limit setting input) tokens fault
    ⊎ (Begins tokens (answers_to usual_key_limit setting input).tokens × (fault ≡ Some memory_fault))

-- The lines are the listing of the input, and has_fault says whether a fault ends it.
pub record ListsOn (setting : yaml_encoding_t) (input lines : List ℕ) (has_fault : Bool) : Type 0 where
  pub tokens : List Token
  pub fault : Option Fault
  pub answers : ReadsOn setting input tokens fault
  pub lines_are : lines ≡ token_lines tokens ++ fault_lines fault
  pub fault_is : has_fault ≡ is_some fault

-- The lines are a beginning of the listing of the input.
pub record BeginsListing (setting : yaml_encoding_t) (input lines : List ℕ) : Type 0 where
  pub all : List ℕ
  pub has_fault : Bool
  pub lists : ListsOn setting input all has_fault
  pub begins : Begins lines all

-- The line of refused memory ends these lines.
pub record EndsWithoutMemory (lines : List ℕ) : Type 0 where
  pub before : List ℕ
  pub is : lines ≡ before ++ fault_line memory_fault

-- These lines have all that these bytes settle, unless memory was refused, or the bytes are in UTF-16: then its lines
-- come at the end.
abbrev pub ListsSettled : yaml_encoding_t → List ℕ → List ℕ → Type 0
ListsSettled setting given lines =
    Begins (token_lines (answers usual_key_limit (unfinished setting given)).tokens) lines
    ⊎ (EndsWithoutMemory lines ⊎ ((is_known setting given ≡ true) × (encoding_of setting given ≢ YAML_UTF8_ENCODING)))

-- All was written: the listing of each input that what was read may begin, or of just that if it was read to its end.
pub record FollowsAll
    (setting : yaml_encoding_t)
    (source source_after sink sink_after : Option (List ℕ))
    (has_fault : Bool) : Type 0 where
  pub given : List ℕ
  pub read : Consumes source source_after given
  pub whole : Bool
  pub end : whole ≡ true → IsAtEnd source_after
  pub lines : List ℕ
  pub written : Appends sink sink_after lines
  pub listed : (input : List ℕ) → MayBe whole given input → ListsOn setting input lines has_fault

-- What was written begins the listing of each input that what was read may begin, or of just that if it was read to its
-- end. If a read failed, it has all that is settled.
pub record FollowsSome
    (setting : yaml_encoding_t)
    (why : tool_fault_t)
    (source sink sink_after : Option (List ℕ)) : Type 0 where
  pub given : List ℕ
  -- what was left to read then
  pub left : Option (List ℕ)
  pub read : Consumes source left given
  pub whole : Bool
  pub end : whole ≡ true → IsAtEnd left
  pub lines : List ℕ
  pub written : Appends sink sink_after lines
  pub begins : (input : List ℕ) → MayBe whole given input → BeginsListing setting input lines
  pub settled : why ≡ Read → ListsSettled setting given lines
