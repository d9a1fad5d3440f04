-- The running code: an input that is followed, between two reads.
use Rattle.std.specs.Prelude.{ℕ, ◌≡◌, Bool, true, false, List, ◌++◌, length, take, Option, Some, Result, MatchOption, MatchResult}
use Rattle.std.specs.Io.KnownBytes.{Appends}
use Rattle.yaml_text.specs.declared.types.yaml_encoding_t.{yaml_encoding_t}
use Rattle.yaml_text.specs.Fault.{Fault}
use Rattle.yaml_text.specs.Token.{Token}
use Rattle.yaml_scan.specs.Begins.{Begins}
use Rattle.yaml_scan.specs.Fed.{Fed, MayBe}
use Rattle.yaml_scan.specs.Inputs.{answers_to}
use Rattle.yaml_scan.specs.Words.{HasLine}
use Rattle.yaml_scan.specs.declared.fed.yaml_fed_parser_t.{yaml_fed_parser_t}
use Rattle.yaml_scan.specs.declared.fed.yaml_fed_t.{yaml_fed_t}
use Rattle.yaml_scan.specs.declared.fed.yaml_fed_t.TheVariants.{OVER, FAULT}
use Rattle.yaml_scan.specs.inside.Feeding.{IsFed}
use Rattle.yaml_listing.specs.Args.{usual_key_limit}
use Rattle.yaml_listing.specs.Follow.{BeginsListing, ListsOn, ListsSettled}
use Rattle.yaml_listing.specs.Listing.{fault_line, token_lines}
use Rattle.yaml_listing.specs.declared.outcome.tool_fault_t.{tool_fault_t}

-- The parser was given these bytes, and these are the lines of the tokens that it gave; more may come.
pub record IsAt (setting : yaml_encoding_t) (given : List ℕ) (k : yaml_fed_parser_t) (lines : List ℕ) : Type 0 where
  pub fed : Fed
  pub is : IsFed fed k
  pub setting_is : fed.setting ≡ setting
  pub limit : fed.limit ≡ usual_key_limit
  pub given_is : fed.given ≡ given
  pub more : fed.whole ≡ false
  pub still_open : fed.session.over ≡ false
  pub tokens : List Token
  pub count : fed.session.taken ≡ length tokens
  pub first : (input : List ℕ) → Begins given input
      → tokens ≡ take (length tokens) (answers_to usual_key_limit setting input).tokens
  pub lines_are : lines ≡ token_lines tokens

-- these lines are the listing of each input that these bytes may begin
abbrev pub IsListing : yaml_encoding_t → Bool → List ℕ → List ℕ → Bool → Type 0
IsListing setting whole given lines has_fault =
    (input : List ℕ) → MayBe whole given input → ListsOn setting input lines has_fault

-- or a beginning of it
abbrev pub IsBeginning : yaml_encoding_t → Bool → List ℕ → List ℕ → Type 0
IsBeginning setting whole given lines =
    (input : List ℕ) → MayBe whole given input → BeginsListing setting input lines

-- the parser has ended with this fault, which has a line
abbrev pub EndsByFault : yaml_fed_parser_t → Fault → Type 0
EndsByFault k fault = (fed : Fed) × IsFed fed k × (fed.session.fault ≡ Some fault) × HasLine fault

-- Why no more lines follow these, by what the parser says: all is listed, or all but the fault, or more may come.
abbrev pub Listed
    : yaml_encoding_t → Bool → List ℕ → yaml_fed_parser_t → List ℕ → yaml_fed_t → Type 0
Listed setting whole given k lines OVER = IsListing setting whole given lines false
Listed setting whole given k lines FAULT =
    (fault : Fault) × EndsByFault k fault × IsListing setting whole given (lines ++ fault_line fault) true
Listed setting whole given k lines why = (whole ≡ false) × IsAt setting given k lines × ListsSettled setting given lines

-- What holds once no more tokens are settled: more may come, or all is listed.
abbrev pub Settled
    : yaml_encoding_t → Bool → List ℕ → yaml_fed_parser_t → List ℕ → Option Bool → Type 0
Settled setting whole given k lines done = MatchOption done
    ((whole ≡ false) × IsAt setting given k lines)
    (λ has_fault. IsListing setting whole given lines has_fault)

-- and all that is settled was listed
abbrev pub SettledAll
    : yaml_encoding_t → Bool → List ℕ → yaml_fed_parser_t → List ℕ → Option Bool → Type 0
SettledAll setting whole given k lines done =
    Settled setting whole given k lines done × ListsSettled setting given lines

-- After the lines told so far, more lines were written: so many as were settled, or a beginning of these if the write
-- failed, or none if memory was refused.
abbrev pub Wrote
    : (yaml_encoding_t → Bool → List ℕ → yaml_fed_parser_t → List ℕ → Option Bool → Type 0) → yaml_encoding_t → Bool → List ℕ → yaml_fed_parser_t → (start end : Option (List ℕ)) → Result (Option Bool) tool_fault_t → Type 0
Wrote Holds setting whole given k start end result = (lines : List ℕ) × Appends start end lines
    × MatchResult result (λ done. Holds setting whole given k lines done) (λ _. IsBeginning setting whole given lines)
