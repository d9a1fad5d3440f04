-- What the texts of names, uris and tags are made of.
use Rattle.std.specs.Prelude.{ℕ, ◌≡◌, ◌↔◌, ◌⊎◌, ◌<◌, Bool, true, false, ◌&&◌, ◌||◌, ◌==◌, List, [], ◌∷◌, ◌++◌, length}
use Rattle.std.specs.Prelude.{codes, Ok, Err}
use Rattle.std.specs.List.{list_all}
use Rattle.yaml_text.specs.Classes.{is_alpha}
use Rattle.yaml_text.specs.Token.{TokenData}
use Rattle.yaml_text.specs.Token.TokenData.{TAG}
use Rattle.yaml_lexeme.specs.declared.problem.yaml_problem_t.TheVariants.{NO_NAME, NO_URI, NO_CLOSING_ANGLE}
use Rattle.yaml_lexeme.specs.declared.problem.yaml_problem_t.TheVariants.{NO_BLANK_OR_BREAK}
use Rattle.yaml_lexeme.specs.Classes.{ends}
use Rattle.yaml_lexeme.specs.Name.{is_after_name, name}
use Rattle.yaml_lexeme.specs.Parts.{Piece, texts, IsLongest, UriParts}
use Rattle.yaml_lexeme.specs.Place.{Place, first, skip}
use Rattle.yaml_lexeme.specs.Reading.{Offence, Found, over}
use Rattle.yaml_lexeme.specs.Tag.{lone, with_handle, tag}
use Rattle.yaml_lexeme.specs.Uri.{uri_part}

-- From p up to q is the text: characters that pass, as many as possible.
pub record LongestRun (test : ℕ → Bool) (p : Place) (text : List ℕ) (q : Place) : Type 0 where
  pub joined : p.rest ≡ text ++ q.rest
  pub end : q ≡ skip (length text) p
  pub all : list_all test text ≡ true
  pub stops : test (first q) ≡ false

-- NAMES (YAML 1.1, 8.1 Node Anchors and 8.4 Alias Nodes)

-- At p is one character, `&` or `*`, and a letter or more, as many as possible. What follows them is allowed there.
pub record NameParts (p : Place) (f : Found (List ℕ)) : Type 0 where
  pub text : p.rest ≡ first p ∷ f.value ++ f.end.rest
  pub letters : LongestRun is_alpha (skip 1 p) f.value f.end
  pub some : 0 < length f.value
  pub follows : is_after_name (first f.end) ≡ true

abbrev pub NameIsParts : Type 0
NameIsParts = (p : Place) (f : Found (List ℕ)) → (name p ≡ Ok f) ↔ NameParts p f

-- After as many letters as possible: there is none, or what follows them is not allowed there.
pub record NameRefused (p : Place) (e : Offence) : Type 0 where
  pub text : List ℕ
  pub letters : LongestRun is_alpha (skip 1 p) text e.at
  pub lacks : (text ≡ []) ⊎ (is_after_name (first e.at) ≡ false)
  pub problem : e.problem ≡ NO_NAME

abbrev pub NameIsRefused : Type 0
NameIsRefused = (p : Place) (e : Offence) → (name p ≡ Err e) ↔ NameRefused p e

-- URIS (YAML 1.1, 5.5 Miscellaneous Characters)

-- an offence in a uri comes after as many characters and escapes as possible
abbrev pub UriRefused : Bool → Place → Offence → Type 0
UriRefused listed p e = (parts : List (Piece (List ℕ))) × (q : Place) × IsLongest (uri_part listed) p parts q (Err e)

-- neither a character nor an escape of a uri is at p
pub record NoUri (listed : Bool) (p : Place) (e : Offence) : Type 0 where
  pub none : uri_part listed p ≡ over
  pub at : e.at ≡ p
  pub problem : e.problem ≡ NO_URI

abbrev pub SomeUriRefused : Bool → Place → Offence → Type 0
SomeUriRefused listed p e = UriRefused listed p e ⊎ NoUri listed p e

-- TAGS (YAML 1.1, 8.2 Node Tags)

-- `!<`, a uri of an octet or more, and `>`: the uri is the suffix, and the handle is empty
pub record VerbatimTag (p : Place) (f : Found TokenData) : Type 0 where
  pub suffix : Found (List ℕ)
  pub angle : first (skip 1 p) ≡ 0x3C
  pub uri : UriParts true (skip 2 p) suffix
  pub some : 0 < length suffix.value
  pub closed : first suffix.end ≡ 0x3E
  pub text : p.rest ≡ codes "!<" ++ texts uri.parts ++ codes ">" ++ f.end.rest
  pub end : f.end ≡ skip 1 suffix.end
  pub says : f.value ≡ TAG [] suffix.value

-- `!`, letters or none, `!`, and a uri of an octet or more: what comes before the uri is the handle
pub record NamedTag (p : Place) (f : Found TokenData) : Type 0 where
  pub letters : Found (List ℕ)
  pub suffix : Found (List ℕ)
  pub name : LongestRun is_alpha (skip 1 p) letters.value letters.end
  pub marked : first letters.end ≡ 0x21
  pub uri : UriParts false (skip 1 letters.end) suffix
  pub some : 0 < length suffix.value
  pub text : p.rest ≡ codes "!" ++ letters.value ++ codes "!" ++ texts uri.parts ++ f.end.rest
  pub end : f.end ≡ suffix.end
  pub says : f.value ≡ with_handle letters.value suffix.value

-- `!`, letters or none, and a uri or none, if neither of the above is at p: the handle is `!`, and the letters and the
-- uri are the suffix. A lone `!` is itself the suffix.
pub record PrimaryTag (p : Place) (f : Found TokenData) : Type 0 where
  pub letters : Found (List ℕ)
  pub suffix : Found (List ℕ)
  pub no_angle : (first (skip 1 p) == 0x3C) ≡ false
  pub name : LongestRun is_alpha (skip 1 p) letters.value letters.end
  pub unmarked : (first letters.end == 0x21) ≡ false
  pub uri : UriParts false letters.end suffix
  pub text : p.rest ≡ codes "!" ++ letters.value ++ texts uri.parts ++ f.end.rest
  pub end : f.end ≡ suffix.end
  pub says : f.value ≡ lone (letters.value ++ suffix.value)

abbrev pub TagText : Place → Found TokenData → Type 0
TagText p f = VerbatimTag p f ⊎ (NamedTag p f ⊎ PrimaryTag p f)

-- what is allowed after a tag
abbrev pub is_after_tag : Bool → ℕ → Bool
is_after_tag flow c = ends c || (flow && c == 0x2C)

pub record TagParts (flow : Bool) (p : Place) (f : Found TokenData) : Type 0 where
  pub text : TagText p f
  pub follows : is_after_tag flow (first f.end) ≡ true

abbrev pub TagIsParts : Type 0
TagIsParts = (flow : Bool) (p : Place) (f : Found TokenData) → first p ≡ 0x21 →
    (tag flow p ≡ Ok f) ↔ TagParts flow p f

-- the first of these that the text does not give: after `!<` a uri, and `>`; after the `!` of a name a uri; else a
-- uri or none; after the tag what is allowed there
pub data TagRefused (flow : Bool) (p : Place) (e : Offence) : Type 0 where
  verbatim : first (skip 1 p) ≡ 0x3C → SomeUriRefused true (skip 2 p) e → TagRefused flow p e
  unclosed : (suffix : Found (List ℕ)) → first (skip 1 p) ≡ 0x3C → UriParts true (skip 2 p) suffix
      → 0 < length suffix.value → (first suffix.end == 0x3E) ≡ false → e.problem ≡ NO_CLOSING_ANGLE → e.at ≡ suffix.end
      → TagRefused flow p e
  named : (letters : Found (List ℕ)) → LongestRun is_alpha (skip 1 p) letters.value letters.end
      → first letters.end ≡ 0x21 → SomeUriRefused false (skip 1 letters.end) e → TagRefused flow p e
  primary : (letters : Found (List ℕ)) → (first (skip 1 p) == 0x3C) ≡ false
      → LongestRun is_alpha (skip 1 p) letters.value letters.end → (first letters.end == 0x21) ≡ false
      → UriRefused false letters.end e → TagRefused flow p e
  goes_on : (f : Found TokenData) → TagText p f → is_after_tag flow (first f.end) ≡ false
      → e.problem ≡ NO_BLANK_OR_BREAK → e.at ≡ f.end → TagRefused flow p e

abbrev pub TagIsRefused : Type 0
TagIsRefused = (flow : Bool) (p : Place) (e : Offence) → first p ≡ 0x21 → (tag flow p ≡ Err e) ↔ TagRefused flow p e
