-- What the texts of directives are made of (YAML 1.1, 7.1 Directives).
use Rattle.std.specs.Prelude.{ℕ, ◌≡◌, ◌↔◌, ◌⊎◌, ◌<◌, ◌≤◌, true, false, ◌==◌, List, [], ◌∷◌, ◌++◌, length, codes}
use Rattle.std.specs.Prelude.{pos, Ok, Err}
use Rattle.std.specs.Str.Parse.{digits_value}
use Rattle.yaml_text.specs.Classes.{is_alpha, is_blank, is_digit}
use Rattle.yaml_text.specs.Token.{TokenData}
use Rattle.yaml_text.specs.Token.TokenData.{VERSION_DIRECTIVE, TAG_DIRECTIVE}
use Rattle.yaml_lexeme.specs.declared.problem.yaml_problem_t.TheVariants.{NO_BLANK_OR_BREAK, NO_BLANK, NO_HANDLE}
use Rattle.yaml_lexeme.specs.declared.problem.yaml_problem_t.TheVariants.{NO_NUMBER, LONG_NUMBER, NO_DOT, OPEN_HANDLE}
use Rattle.yaml_lexeme.specs.declared.problem.yaml_problem_t.TheVariants.{NO_DIRECTIVE_NAME, UNKNOWN_DIRECTIVE}
use Rattle.yaml_lexeme.specs.declared.problem.yaml_problem_t.TheVariants.{DIRECTIVE_NAME_GOES_ON}
use Rattle.yaml_lexeme.specs.Classes.{ends}
use Rattle.yaml_lexeme.specs.Directive.{directive}
use Rattle.yaml_lexeme.specs.Grammar.{LongestRun, SomeUriRefused}
use Rattle.yaml_lexeme.specs.HeaderGrammar.{LineEnd, LineEndRefused}
use Rattle.yaml_lexeme.specs.Lexeme.{Directive}
use Rattle.yaml_lexeme.specs.Parts.{texts, UriParts}
use Rattle.yaml_lexeme.specs.Place.{Place, first, skip}
use Rattle.yaml_lexeme.specs.Reading.{Offence, Found}

-- NUMBERS

-- one to nine digits, and no further one
pub record NumberParts (p : Place) (f : Found ℕ) : Type 0 where
  pub digits : List ℕ
  pub all : LongestRun is_digit p digits f.end
  pub some : 0 < length digits
  pub few : length digits ≤ 9
  pub value : f.value ≡ digits_value 10 digits

-- there is no digit, or there are more than nine
pub data NumberRefused (p : Place) (e : Offence) : Type 0 where
  no_digit : is_digit (first p) ≡ false → e.problem ≡ NO_NUMBER → e.at ≡ p → NumberRefused p e
  too_long : (digits : Found (List ℕ)) → LongestRun is_digit p digits.value digits.end → 9 < length digits.value
      → e.problem ≡ LONG_NUMBER → e.at ≡ skip 9 p → NumberRefused p e

-- VERSIONS

-- blanks or none, and a number
pub record NumberAfter (p : Place) (major : Found ℕ) : Type 0 where
  pub blanks : Found (List ℕ)
  pub spaces : LongestRun is_blank p blanks.value blanks.end
  pub number : NumberParts blanks.end major

-- after `YAML`: blanks or none, a number, `.`, and a number
pub record VersionParts (p : Place) (f : Found TokenData) : Type 0 where
  pub major : Found ℕ
  pub minor : Found ℕ
  pub before : NumberAfter p major
  pub dot : first major.end ≡ 0x2E
  pub after : NumberParts (skip 1 major.end) minor
  pub text :
      p.rest ≡ before.blanks.value ++ before.number.digits ++ codes "." ++ after.digits ++ f.end.rest
  pub end : f.end ≡ minor.end
  pub says : f.value ≡ VERSION_DIRECTIVE (pos major.value) (pos minor.value)

-- the first of these that the text does not give: a number, `.`, and a number
pub data VersionRefused (p : Place) (e : Offence) : Type 0 where
  no_major : (blanks : Found (List ℕ)) → LongestRun is_blank p blanks.value blanks.end → NumberRefused blanks.end e
      → VersionRefused p e
  no_dot : (major : Found ℕ) → NumberAfter p major → (first major.end == 0x2E) ≡ false → e.problem ≡ NO_DOT
      → e.at ≡ major.end → VersionRefused p e
  no_minor : (major : Found ℕ) → NumberAfter p major → first major.end ≡ 0x2E → NumberRefused (skip 1 major.end) e
      → VersionRefused p e

-- HANDLES AND PREFIXES

-- `!`, letters or none, and `!`
pub record ClosedHandle (p : Place) (f : Found (List ℕ)) : Type 0 where
  pub letters : Found (List ℕ)
  pub sign : first p ≡ 0x21
  pub name : LongestRun is_alpha (skip 1 p) letters.value letters.end
  pub closed : first letters.end ≡ 0x21
  pub text : p.rest ≡ f.value ++ f.end.rest
  pub value : f.value ≡ codes "!" ++ letters.value ++ codes "!"
  pub end : f.end ≡ skip 1 letters.end

-- `!`, with neither a letter nor `!` after it
pub record LoneHandle (p : Place) (f : Found (List ℕ)) : Type 0 where
  pub sign : first p ≡ 0x21
  pub no_letter : LongestRun is_alpha (skip 1 p) [] f.end
  pub no_sign : (first f.end == 0x21) ≡ false
  pub text : p.rest ≡ f.value ++ f.end.rest
  pub value : f.value ≡ codes "!"

abbrev pub HandleParts : Place → Found (List ℕ) → Type 0
HandleParts p f = ClosedHandle p f ⊎ LoneHandle p f

-- there is no `!`, or it has letters and no `!` after them
pub data HandleRefused (p : Place) (e : Offence) : Type 0 where
  no_handle : (first p == 0x21) ≡ false → e.problem ≡ NO_HANDLE → e.at ≡ p → HandleRefused p e
  not_closed : (letters : Found (List ℕ)) → first p ≡ 0x21 → LongestRun is_alpha (skip 1 p) letters.value letters.end
      → 0 < length letters.value → (first letters.end == 0x21) ≡ false → e.problem ≡ OPEN_HANDLE → e.at ≡ letters.end
      → HandleRefused p e

-- after `TAG`: blanks or none, and a handle
pub record HandleAfter (p : Place) (handle : Found (List ℕ)) : Type 0 where
  pub blanks : Found (List ℕ)
  pub spaces : LongestRun is_blank p blanks.value blanks.end
  pub parts : HandleParts blanks.end handle

-- a blank or more, and a uri of an octet or more
pub record PrefixAfter (p : Place) (prefix : Found (List ℕ)) : Type 0 where
  pub blanks : Found (List ℕ)
  pub blank : is_blank (first p) ≡ true
  pub spaces : LongestRun is_blank p blanks.value blanks.end
  pub uri : UriParts true blanks.end prefix
  pub some : 0 < length prefix.value

-- after `TAG`: blanks or none, a handle, a blank or more, and a uri of an octet or more, which ends there
pub record TagDirectiveParts (p : Place) (f : Found TokenData) : Type 0 where
  pub handle : Found (List ℕ)
  pub prefix : Found (List ℕ)
  pub before : HandleAfter p handle
  pub after : PrefixAfter handle.end prefix
  pub follows : ends (first prefix.end) ≡ true
  pub text : p.rest ≡ before.blanks.value ++ handle.value ++ after.blanks.value ++ texts after.uri.parts ++ f.end.rest
  pub end : f.end ≡ prefix.end
  pub says : f.value ≡ TAG_DIRECTIVE handle.value prefix.value

-- the first of these that the text does not give: a handle, a blank, a uri, and its end
pub data TagDirectiveRefused (p : Place) (e : Offence) : Type 0 where
  bad_handle : (blanks : Found (List ℕ)) → LongestRun is_blank p blanks.value blanks.end → HandleRefused blanks.end e
      → TagDirectiveRefused p e
  no_blank : (handle : Found (List ℕ)) → HandleAfter p handle → is_blank (first handle.end) ≡ false
      → e.problem ≡ NO_BLANK → e.at ≡ handle.end → TagDirectiveRefused p e
  bad_prefix : (handle blanks : Found (List ℕ)) → HandleAfter p handle → is_blank (first handle.end) ≡ true
      → LongestRun is_blank handle.end blanks.value blanks.end → SomeUriRefused true blanks.end e
      → TagDirectiveRefused p e
  prefix_goes_on : (handle prefix : Found (List ℕ)) → HandleAfter p handle → PrefixAfter handle.end prefix
      → ends (first prefix.end) ≡ false → e.problem ≡ NO_BLANK_OR_BREAK → e.at ≡ prefix.end → TagDirectiveRefused p e

-- DIRECTIVES

-- after one character, `%`: a letter or more, which end there
pub record DirectiveName (p : Place) (f : Found (List ℕ)) : Type 0 where
  pub text : p.rest ≡ first p ∷ f.value ++ f.end.rest
  pub letters : LongestRun is_alpha (skip 1 p) f.value f.end
  pub some : 0 < length f.value
  pub follows : ends (first f.end) ≡ true

-- what a directive of this name says
abbrev pub Named : List ℕ → Place → Found TokenData → Type 0
Named name p f = ((name ≡ codes "YAML") × VersionParts p f) ⊎ ((name ≡ codes "TAG") × TagDirectiveParts p f)

-- A directive: its name, what it says, and the rest of its line.
pub record DirectiveParts (p : Place) (f : Found Directive) : Type 0 where
  pub name : Found (List ℕ)
  pub said : Found TokenData
  pub name_is : DirectiveName p name
  pub said_is : Named name.value name.end said
  pub line : LineEnd said.end f.end
  pub value : f.value ≡ record { says = said.value; end = said.end.mark }

abbrev pub DirectiveIsParts : Type 0
DirectiveIsParts = (p : Place) (f : Found Directive) → (directive p ≡ Ok f) ↔ DirectiveParts p f

-- the first of these that the text does not give: a name, its end, a known name, what the directive says, and the rest
-- of its line
pub data DirectiveRefused (p : Place) (e : Offence) : Type 0 where
  no_name : LongestRun is_alpha (skip 1 p) [] e.at → e.problem ≡ NO_DIRECTIVE_NAME → DirectiveRefused p e
  name_goes_on : (letters : List ℕ) → LongestRun is_alpha (skip 1 p) letters e.at → 0 < length letters
      → ends (first e.at) ≡ false → e.problem ≡ DIRECTIVE_NAME_GOES_ON → DirectiveRefused p e
  unknown : (name : Found (List ℕ)) → DirectiveName p name → (name.value ≡ codes "YAML" → ⊥)
      → (name.value ≡ codes "TAG" → ⊥) → e.problem ≡ UNKNOWN_DIRECTIVE → e.at ≡ name.end → DirectiveRefused p e
  bad_version : (name : Found (List ℕ)) → DirectiveName p name → name.value ≡ codes "YAML"
      → VersionRefused name.end e → DirectiveRefused p e
  bad_tag : (name : Found (List ℕ)) → DirectiveName p name → name.value ≡ codes "TAG"
      → TagDirectiveRefused name.end e → DirectiveRefused p e
  bad_line : (name : Found (List ℕ)) (said : Found TokenData) → DirectiveName p name
      → Named name.value name.end said → LineEndRefused said.end e → DirectiveRefused p e

abbrev pub DirectiveIsRefused : Type 0
DirectiveIsRefused = (p : Place) (e : Offence) → (directive p ≡ Err e) ↔ DirectiveRefused p e
