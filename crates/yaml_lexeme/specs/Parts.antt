-- Lists of parts: one after the other, and as many as possible.
use Rattle.std.specs.Prelude.{ℕ, ◌≡◌, ◌↔◌, ◌⊎◌, ◌+◌, ◌<◌, Bool, true, false, List, [], ◌∷◌, ◌++◌, length, map}
use Rattle.std.specs.Prelude.{Option, Some, Ok, Err}
use Rattle.std.specs.List.{concat, list_any, flat_map}
use Rattle.yaml_text.specs.Chars.{utf8}
use Rattle.yaml_text.specs.Classes.{is_break}
use Rattle.yaml_lexeme.specs.declared.block.chomp_t.{chomp_t}
use Rattle.yaml_lexeme.specs.declared.block.header_t.{header_t}
use Rattle.yaml_lexeme.specs.Lexeme.{Scalar}
use Rattle.yaml_lexeme.specs.declared.problem.yaml_problem_t.TheVariants.{COLON_IN_FLOW}
use Rattle.yaml_lexeme.specs.Classes.{is_white, is_in_line}
use Rattle.yaml_lexeme.specs.Place.{Place, peek, first, skip, run, after_run}
use Rattle.yaml_lexeme.specs.Reading.{Offence, Found, found, Part, part, over}
use Rattle.yaml_lexeme.specs.Fold.{fold}
use Rattle.yaml_lexeme.specs.Quoted.{quote, body_part, quoted}
use Rattle.yaml_lexeme.specs.Plain.{is_bad_colon, is_chunk, chunk, separator, is_over, link, plain}
use Rattle.yaml_lexeme.specs.Uri.{uri_part, uri}
use Rattle.yaml_lexeme.specs.Block.{EmptyLine, TextLine, header_at, after_line, after_indent, empty_line, breaks_of}
use Rattle.yaml_lexeme.specs.Block.{break_at, is_text, next_line, text_line, set_indent, block_indent}
use Rattle.yaml_lexeme.specs.Greatest.{greatest}
use Rattle.yaml_lexeme.specs.Block.{block_value, block}

-- a part that was read: its characters, and its value
pub record Piece (A : Type 0) : Type 0 where
  pub text : List ℕ
  pub value : A

abbrev pub past : {A : Type 0} → Piece A → Place → Place
past t p = skip (length t.text) p

-- the piece is at p, and takes a character or more
pub record IsPiece {A : Type 0} (one : Place → Part A) (p : Place) (t : Piece A) : Type 0 where
  pub some : 0 < length t.text
  pub text : p.rest ≡ t.text ++ (past t p).rest
  pub read : one p ≡ part t.value (past t p)

-- pieces follow one another, from p up to q
abbrev pub Pieces : {A : Type 0} → (Place → Part A) → Place → List (Piece A) → Place → Type 0
Pieces one p [] q = q ≡ p
Pieces one p (t ∷ ts) q = IsPiece one p t × Pieces one (past t p) ts q

abbrev pub texts : {A : Type 0} → List (Piece A) → List ℕ
texts ts = flat_map (λ t. t.text) ts

abbrev pub values : {A : Type 0} → List (Piece A) → List A
values ts = map (λ t. t.value) ts

-- The pieces are from p up to q, and at q is no further one, but `next`: an end or an offence.
pub record IsLongest {A : Type 0}
    (one : Place → Part A) (p : Place) (ts : List (Piece A)) (q : Place) (next : Part A) : Type 0 where
  pub pieces : Pieces one p ts q
  pub stops : one q ≡ next

-- no part: the list is over, or there is an offence
abbrev pub IsNoPart : {A : Type 0} → Part A → Type 0
IsNoPart {A} next = (f : Found A) → next ≡ Ok (Some f) → ⊥

-- Any other list of pieces from a place on is a beginning of the longest one, after which no part follows.
abbrev pub OthersBegin : {A : Type 0} → (Place → Part A) → Type 0
OthersBegin {A} one = (p : Place) (ts : List (Piece A)) (q : Place) (next : Part A)
    → IsLongest one p ts q next → IsNoPart next
    → (others : List (Piece A)) (x : Place) → Pieces one p others x
    → (later : List (Piece A)) × (ts ≡ others ++ later)

-- A quoted scalar at p: the parts between its quotes, and the place of the closing one.
pub record QuotedParts (single : Bool) (p : Place) (f : Found (List ℕ)) : Type 0 where
  pub parts : List (Piece (List ℕ))
  pub close : Place
  pub longest : IsLongest (body_part single) (skip 1 p) parts close over
  pub closed : first close ≡ quote single
  pub value : f.value ≡ flat_map utf8 (values parts)
  pub end : f.end ≡ skip 1 close

abbrev pub QuotedIsParts : Type 0
QuotedIsParts = (single : Bool) (p : Place) (f : Found (List ℕ)) → (quoted single p ≡ Ok f) ↔ QuotedParts single p f

-- an offence comes after as many parts as possible
abbrev pub QuotedIsRefused : Type 0
QuotedIsRefused = (single : Bool) (p : Place) (e : Offence) → (quoted single p ≡ Err e) ↔
    ((parts : List (Piece (List ℕ))) × (q : Place) × IsLongest (body_part single) (skip 1 p) parts q (Err e))

-- any other list of parts is a beginning of the longest one
abbrev pub QuotedPartsAreLongest : Type 0
QuotedPartsAreLongest = (single : Bool) → OthersBegin (body_part single)

-- the value of a plain scalar whose last chunk ends at a place
abbrev pub plain_scalar : List ℕ → List (List ℕ) → Place → Scalar
plain_scalar head links last = record {
  value = utf8 head ++ flat_map utf8 links;
  end = last.mark;
  passed_break = list_any is_break (run is_white last);
}

-- A plain scalar at p: a chunk, links of a separator and a chunk, and the place where the last chunk ends.
pub record PlainParts (flow : Bool) (least : ℕ) (p : Place) (f : Found Scalar) : Type 0 where
  pub head : Found (List ℕ)
  pub links : List (Piece (List ℕ))
  pub last : Place
  pub starts : chunk flow p ≡ Ok head
  pub longest : IsLongest (link flow least) head.end links last over
  pub joined : p.rest ≡ head.value ++ texts links ++ last.rest
  pub value : f.value ≡ plain_scalar head.value (values links) last
  pub end : f.end ≡ after_run is_white last

abbrev pub PlainIsParts : Type 0
PlainIsParts = (flow : Bool) (least : ℕ) (p : Place) (f : Found Scalar) →
    (plain flow least p ≡ Ok f) ↔ PlainParts flow least p f

-- From p on come as many characters of a chunk as possible, and after them, in flow, a `:` before `?` or a flow
-- indicator.
pub record ChunkRefused (flow : Bool) (p : Place) (e : Offence) : Type 0 where
  pub text : List ℕ
  pub joined : p.rest ≡ text ++ e.at.rest
  pub at : e.at ≡ skip (length text) p
  pub all : (i : ℕ) → i < length text → is_chunk flow (peek p i) (peek p (i + 1)) ≡ true
  pub colon : is_bad_colon flow (first e.at) (peek e.at 1) ≡ true
  pub problem : e.problem ≡ COLON_IN_FLOW

-- after a chunk as many links as possible, and an offence
pub record LinksRefused (flow : Bool) (least : ℕ) (p : Place) (e : Offence) : Type 0 where
  pub head : Found (List ℕ)
  pub links : List (Piece (List ℕ))
  pub last : Place
  pub starts : chunk flow p ≡ Ok head
  pub longest : IsLongest (link flow least) head.end links last (Err e)

abbrev pub PlainIsRefused : Type 0
PlainIsRefused = (flow : Bool) (least : ℕ) (p : Place) (e : Offence) →
    (plain flow least p ≡ Err e) ↔ (ChunkRefused flow p e ⊎ LinksRefused flow least p e)

-- any other list of links is a beginning of the longest one
abbrev pub LinksAreLongest : Type 0
LinksAreLongest = (flow : Bool) (least : ℕ) → OthersBegin (link flow least)

-- a chunk is as many characters as possible
abbrev pub ChunkIsLongest : Type 0
ChunkIsLongest = (flow : Bool) (p : Place) (f : Found (List ℕ)) → chunk flow p ≡ Ok f
    → (p.rest ≡ f.value ++ f.end.rest)
    × ((i : ℕ) → i < length f.value → is_chunk flow (peek p i) (peek p (i + 1)) ≡ true)
    × (is_chunk flow (first f.end) (peek f.end 1) ≡ false)

-- A link at p: as many blanks and breaks as possible, with no tab in indentation, after which the scalar goes on,
-- and a chunk of a character or more.
pub record LinkParts (flow : Bool) (least : ℕ) (p : Place) (f : Found (List ℕ)) : Type 0 where
  pub text : List ℕ
  pub white : is_white (first p) ≡ true
  pub stops : is_white (first (after_run is_white p)) ≡ false
  pub separator : separator least p ≡ found (fold (run is_white p)) (after_run is_white p)
  pub goes_on : is_over flow least (after_run is_white p) ≡ false
  pub chunk : chunk flow (after_run is_white p) ≡ found text f.end
  pub some : 0 < length text
  pub value : f.value ≡ fold (run is_white p) ++ text

abbrev pub LinkIsLongest : Type 0
LinkIsLongest = (flow : Bool) (least : ℕ) (p : Place) (f : Found (List ℕ)) →
    (link flow least p ≡ part f.value f.end) ↔ LinkParts flow least p f

-- After a separator, with no tab in indentation, the scalar is over, or no character of a chunk follows.
pub record SeparatorEnds (flow : Bool) (least : ℕ) (p : Place) : Type 0 where
  pub separator : separator least p ≡ found (fold (run is_white p)) (after_run is_white p)
  pub ends : (is_over flow least (after_run is_white p) ≡ true)
      ⊎ (chunk flow (after_run is_white p) ≡ found [] (after_run is_white p))

-- there is no link if there is no blank or break, or if the scalar ends after them
abbrev pub LinkIsOver : Type 0
LinkIsOver = (flow : Bool) (least : ℕ) (p : Place) →
    (link flow least p ≡ over) ↔ ((is_white (first p) ≡ false) ⊎ SeparatorEnds flow least p)

-- A uri at p: characters and escapes, as many as possible.
pub record UriParts (listed : Bool) (p : Place) (f : Found (List ℕ)) : Type 0 where
  pub parts : List (Piece (List ℕ))
  pub longest : IsLongest (uri_part listed) p parts f.end over
  pub value : f.value ≡ concat (values parts)

abbrev pub UriIsParts : Type 0
UriIsParts = (listed : Bool) (p : Place) (f : Found (List ℕ)) → (uri listed p ≡ Ok f) ↔ UriParts listed p f

-- an offence comes after as many of them as possible
abbrev pub UriIsRefused : Type 0
UriIsRefused = (listed : Bool) (p : Place) (e : Offence) → (uri listed p ≡ Err e) ↔
    ((parts : List (Piece (List ℕ))) × (q : Place) × IsLongest (uri_part listed) p parts q (Err e))

-- any other list of characters and escapes is a beginning of the longest one
abbrev pub UriPartsAreLongest : Type 0
UriPartsAreLongest = (listed : Bool) → OthersBegin (uri_part listed)

-- A text line at p: its indentation, its characters up to its break, and empty lines, as many as possible.
pub record TextLineParts (indent : ℕ) (p : Place) (f : Found TextLine) : Type 0 where
  pub start : Place
  pub empties : List (Piece EmptyLine)
  pub indent_is : after_indent (Some indent) p ≡ Ok start
  pub text_is : is_text indent start ≡ true
  pub longest : IsLongest (empty_line (Some indent)) (next_line start) empties f.end over
  pub value : f.value ≡ record {
    text = run is_in_line start;
    break = break_at (after_run is_in_line start);
    empties = breaks_of (values empties);
  }

abbrev pub TextLineIsParts : Type 0
TextLineIsParts = (indent : ℕ) (p : Place) (f : Found TextLine) →
    (text_line indent p ≡ part f.value f.end) ↔ TextLineParts indent p f

-- an offence is in its indentation, or in that of a line after as many empty lines as possible
pub data TextLineRefused (indent : ℕ) (p : Place) (e : Offence) : Type 0 where
  own_indent : after_indent (Some indent) p ≡ Err e → TextLineRefused indent p e
  next_indent : (start : Place) (empties : List (Piece EmptyLine)) (q : Place) → after_indent (Some indent) p ≡ Ok start
      → is_text indent start ≡ true → IsLongest (empty_line (Some indent)) (next_line start) empties q (Err e)
      → TextLineRefused indent p e

abbrev pub TextLineIsRefused : Type 0
TextLineIsRefused = (indent : ℕ) (p : Place) (e : Offence) → (text_line indent p ≡ Err e) ↔ TextLineRefused indent p e

-- the indentation of the text lines, after the leading empty lines and the spaces up to `next`
abbrev pub indent_of : Option ℕ → header_t → List EmptyLine → Place → ℕ
indent_of level h leading next =
    block_indent level (set_indent level h.digit) (greatest (map (λ b. b.column) leading)) next.mark.column

-- the value of a literal or folded scalar, whose last line ends at a place
abbrev pub block_scalar : Bool → chomp_t → List EmptyLine → List TextLine → Place → Scalar
block_scalar folded chomp leading lines last = record {
  value = utf8 (block_value folded chomp (breaks_of leading) lines);
  end = last.mark;
  passed_break = false;
}

-- A literal or folded scalar at p: its header, leading empty lines, and text lines, as many as possible of both. The
-- indentation of the line after them is read too.
pub record BlockParts (folded : Bool) (level : Option ℕ) (p : Place) (f : Found Scalar) : Type 0 where
  pub header : Found header_t
  pub start : Place
  pub leading : List (Piece EmptyLine)
  pub first : Place
  pub next : Place
  pub lines : List (Piece TextLine)
  pub last : Place
  pub header_is : header_at (skip 1 p) ≡ Ok header
  pub start_is : after_line header.end ≡ Ok start
  pub leading_is : IsLongest (empty_line (set_indent level header.value.digit)) start leading first over
  pub next_is : after_indent (set_indent level header.value.digit) first ≡ Ok next
  pub longest : IsLongest (text_line (indent_of level header.value (values leading) next)) first lines last over
  pub end_is : after_indent (Some (indent_of level header.value (values leading) next)) last ≡ Ok f.end
  pub value : f.value ≡ block_scalar folded header.value.chomp (values leading) (values lines) last

abbrev pub BlockIsLines : Type 0
BlockIsLines = (folded : Bool) (level : Option ℕ) (p : Place) (f : Found Scalar) →
    (block folded level p ≡ Ok f) ↔ BlockParts folded level p f

-- any other list of empty lines is a beginning of the longest one,
abbrev pub EmptyLinesAreLongest : Type 0
EmptyLinesAreLongest = (limit : Option ℕ) → OthersBegin (empty_line limit)

-- and so is any other list of text lines
abbrev pub TextLinesAreLongest : Type 0
TextLinesAreLongest = (indent : ℕ) → OthersBegin (text_line indent)
