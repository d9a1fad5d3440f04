-- Worked inputs: a text, and what its first lexeme must be.
use Rattle.std.proofs.Common.{◌≡◌, ℕ, List, [], ◌∷◌, ◌++◌, true, false, Bool, Option, Some, None, Result, Ok, Err, refl}
use Rattle.std.specs.Prelude.{codes, map, pos, nat_lt}
use Rattle.std.specs.Char.{encode_utf8}
use Rattle.yaml_text.specs.declared.types.yaml_mark_t.{yaml_mark_t}
use Rattle.yaml_text.specs.declared.types.yaml_scalar_style_t.TheVariants as style
use Rattle.yaml_text.specs.Token.{TokenData}
use Rattle.yaml_text.specs.Token.{TokenData as says}
use Rattle.yaml_text.specs.Fault.{Fault, scanner_fault}
use Rattle.yaml_lexeme.specs.declared.kind.yaml_lexeme_kind_t.{yaml_lexeme_kind_t}
use Rattle.yaml_lexeme.specs.declared.kind.yaml_lexeme_kind_t.TheVariants as kind
use Rattle.yaml_lexeme.specs.declared.lex.yaml_context_t.{yaml_context_t}
use Rattle.yaml_lexeme.specs.Lexeme.{Lexeme}
use Rattle.yaml_lexeme.specs.Place.{Place, start, skip}
use Rattle.yaml_lexeme.specs.Reading.{at_most}
use Rattle.yaml_lexeme.specs.Gap.{gap, after_gap_line, after_gap_lines}
use Rattle.yaml_lexeme.specs.Kind.{kind_at}
use Rattle.yaml_lexeme.specs.Fold.{fold}
use Rattle.yaml_lexeme.specs.Escape.{hex_escape, escape}
use Rattle.yaml_lexeme.specs.Quoted.{body_part, quoted}
use Rattle.yaml_lexeme.specs.Plain.{chunk, separator, link, plain}
use Rattle.yaml_lexeme.specs.Block.{digit_at, header_at, after_line, after_indent, empty_line, text_line, block}
use Rattle.yaml_lexeme.specs.Name.{name}
use Rattle.yaml_lexeme.specs.Uri.{octet, next_octets, uri_escape, uri_part, uri, some_uri}
use Rattle.yaml_lexeme.specs.Tag.{angled, handled, tag}
use Rattle.yaml_lexeme.specs.Directive.{number, version_at, handle_at, tag_directive_at, named, directive}
use Rattle.yaml_lexeme.specs.FaultTexts.{problem_text, context_text}
use Rattle.yaml_lexeme.specs.Lex.{lex}
use Rattle.yaml_lexeme.specs.Answers.{lexeme_at}

abbrev at : ℕ → ℕ → ℕ → yaml_mark_t
at i l c = record { index = i; line = l; column = c }

abbrev token : TokenData → yaml_mark_t → yaml_mark_t → yaml_mark_t → Bool → Lexeme
token data_is start end reach passed = record { token_data = data_is; start_mark = start; end_mark = end; reach = reach; passed_break = passed }

abbrev by : Option yaml_lexeme_kind_t → yaml_context_t → Place → Option (Result Lexeme Fault)
by (Some k) context p = Some (lexeme_at k context p)
by None context p = None

-- a text, its first lexeme at a flow depth and a greatest open level, and what that must be
abbrev Rows : Type 0
Rows = List (Option (Result Lexeme Fault) × Result Lexeme Fault)

abbrev lexed : ℕ → Option ℕ → List ℕ → Option (Result Lexeme Fault)
lexed depth level text = by (kind_at (nat_lt 0 depth) (start text)) (record { depth = depth; level = level }) (start text)

abbrev Hold : Rows → Type 0
Hold rows = map (λ r. r.0) rows ≡ map (λ r. Some r.1) rows

abbrev gap_at : Bool → Bool → List ℕ → yaml_mark_t × Bool
gap_at flow allowed text = let q = gap flow allowed (start text) in (q.0.mark, q.1)

abbrev gaps : List ((yaml_mark_t × Bool) × (yaml_mark_t × Bool))
gaps =
    (gap_at false false (9 ∷ codes "#c" ++ (10 ∷ codes "  x")), (at 6 1 2, true))
    ∷ (gap_at false true (9 ∷ codes "#c" ++ (10 ∷ codes "  x")), (at 0 0 0, false))
    ∷ (gap_at false false (10 ∷ 9 ∷ codes "x"), (at 1 1 0, true))
    ∷ (gap_at true false (10 ∷ 9 ∷ codes "x"), (at 2 1 1, true))
    ∷ (gap_at false false (10 ∷ 0xFEFF ∷ codes " x"), (at 5 1 2, true))
    ∷ []

gaps_hold : map (λ r. r.0) gaps ≡ map (λ r. r.1) gaps
unfolding gap after_gap_line after_gap_lines skip
gaps_hold = refl

abbrev kind_in : Bool → List ℕ → Option yaml_lexeme_kind_t
kind_in flow text = kind_at flow (start text)

abbrev kinds : List (Option yaml_lexeme_kind_t × Option yaml_lexeme_kind_t)
kinds =
    (kind_in false (codes "-x"), Some kind.PLAIN)
    ∷ (kind_in false (codes "-"), Some kind.BLOCK_ENTRY)
    ∷ (kind_in false (codes "---x"), Some kind.PLAIN)
    ∷ (kind_in false (codes "---"), Some kind.DOCUMENT_START)
    ∷ (kind_in false (codes "?x"), Some kind.PLAIN)
    ∷ (kind_in true (codes "?x"), Some kind.KEY)
    ∷ (kind_in true (codes "|"), None)
    ∷ (kind_in false (codes "@"), None)
    ∷ (kind_at false (skip 1 (start (codes " %"))), None)
    ∷ []

kinds_hold : map (λ r. r.0) kinds ≡ map (λ r. r.1) kinds
unfolding kind_at skip
kinds_hold = refl

abbrev names : Rows
names =
    (lexed 0 None ([]), Ok (token (says.STREAM_END) (at 0 0 0) (at 0 0 0) (at 0 0 0) false))
    ∷ (lexed 0 None (codes "---"), Ok (token (says.DOCUMENT_START) (at 0 0 0) (at 3 0 3) (at 3 0 3) false))
    ∷ (lexed 1 None (codes "?x"), Ok (token (says.KEY) (at 0 0 0) (at 1 0 1) (at 1 0 1) false))
    ∷ (lexed 0 None (codes "&a]"), Ok (token (says.ANCHOR (codes "a")) (at 0 0 0) (at 2 0 2) (at 2 0 2) false))
    ∷ (lexed 0 None (codes "*a]"), Ok (token (says.ALIAS (codes "a")) (at 0 0 0) (at 2 0 2) (at 2 0 2) false))
    ∷ (lexed 0 None (codes "!%00 x"), Ok (token (says.TAG (codes "!") (0 ∷ [])) (at 0 0 0) (at 4 0 4) (at 4 0 4) false))
    ∷ (lexed 0 None (codes "!%C0%80 x"), Ok (token (says.TAG (codes "!") (0xC0 ∷ 0x80 ∷ [])) (at 0 0 0) (at 7 0 7) (at 7 0 7) false))
    ∷ (lexed 0 None (codes "! x"), Ok (token (says.TAG [] (codes "!")) (at 0 0 0) (at 1 0 1) (at 1 0 1) false))
    ∷ (lexed 0 None (codes "!!str x"), Ok (token (says.TAG (codes "!!") (codes "str")) (at 0 0 0) (at 5 0 5) (at 5 0 5) false))
    ∷ (lexed 0 None (codes "!<tag:x,2000:y> z"), Ok (token (says.TAG [] (codes "tag:x,2000:y")) (at 0 0 0) (at 15 0 15) (at 15 0 15) false))
    ∷ (lexed 0 None (codes "&"), Err (scanner_fault (codes "did not find expected alphabetic or numeric character") (at 1 0 1) (Some (codes "while scanning an anchor")) (at 0 0 0)))
    ∷ (lexed 0 None (codes "*a.b"), Err (scanner_fault (codes "did not find expected alphabetic or numeric character") (at 2 0 2) (Some (codes "while scanning an alias")) (at 0 0 0)))
    ∷ (lexed 0 None (codes "!<x"), Err (scanner_fault (codes "did not find the expected '>'") (at 3 0 3) (Some (codes "while scanning a tag")) (at 0 0 0)))
    ∷ (lexed 0 None (codes "!<>"), Err (scanner_fault (codes "did not find expected tag URI") (at 2 0 2) (Some (codes "while parsing a tag")) (at 0 0 0)))
    ∷ (lexed 0 None (codes "!!"), Err (scanner_fault (codes "did not find expected tag URI") (at 2 0 2) (Some (codes "while parsing a tag")) (at 0 0 0)))
    ∷ (lexed 0 None (codes "!a%4"), Err (scanner_fault (codes "did not find URI escaped octet") (at 2 0 2) (Some (codes "while parsing a tag")) (at 0 0 0)))
    ∷ (lexed 0 None (codes "!%80"), Err (scanner_fault (codes "found an incorrect leading UTF-8 octet") (at 1 0 1) (Some (codes "while parsing a tag")) (at 0 0 0)))
    ∷ (lexed 0 None (codes "!%C3%41"), Err (scanner_fault (codes "found an incorrect trailing UTF-8 octet") (at 4 0 4) (Some (codes "while parsing a tag")) (at 0 0 0)))
    ∷ (lexed 0 None (codes "!%C3x"), Err (scanner_fault (codes "did not find URI escaped octet") (at 4 0 4) (Some (codes "while parsing a tag")) (at 0 0 0)))
    ∷ (lexed 1 None (codes "!!str]"), Err (scanner_fault (codes "did not find expected whitespace or line break") (at 5 0 5) (Some (codes "while scanning a tag")) (at 0 0 0)))
    ∷ (lexed 0 None (codes "!<09AZaz_-;/?:@&=+$.!~*'(),[]> x"), Ok (token (says.TAG [] (codes "09AZaz_-;/?:@&=+$.!~*'(),[]")) (at 0 0 0) (at 30 0 30) (at 30 0 30) false))
    ∷ (lexed 0 None (codes "!09AZaz_-!09AZaz_-;/?:@&=+$.!~*'() x"), Ok (token (says.TAG (codes "!09AZaz_-!") (codes "09AZaz_-;/?:@&=+$.!~*'()")) (at 0 0 0) (at 34 0 34) (at 34 0 34) false))
    ∷ (lexed 0 None (codes "*a`"), Ok (token (says.ALIAS (codes "a")) (at 0 0 0) (at 2 0 2) (at 2 0 2) false))
    ∷ []

names_hold : Hold names
unfolding lex number version_at handle_at tag_directive_at named directive after_gap_line after_gap_lines gap skip fold hex_escape escape body_part quoted chunk separator link plain digit_at header_at after_line after_indent empty_line text_line block name octet next_octets uri_escape uri_part uri some_uri angled handled tag at_most kind_at encode_utf8 problem_text context_text
names_hold = refl

abbrev directives : Rows
directives =
    (lexed 0 None (codes "%YAML 1.1 # c" ++ (10 ∷ [])), Ok (token (says.VERSION_DIRECTIVE (pos 1) (pos 1)) (at 0 0 0) (at 9 0 9) (at 14 1 0) false))
    ∷ (lexed 0 None (codes "%TAG ! x"), Ok (token (says.TAG_DIRECTIVE (codes "!") (codes "x")) (at 0 0 0) (at 8 0 8) (at 8 0 8) false))
    ∷ (lexed 0 None (codes "%"), Err (scanner_fault (codes "could not find expected directive name") (at 1 0 1) (Some (codes "while scanning a directive")) (at 0 0 0)))
    ∷ (lexed 0 None (codes "%A!"), Err (scanner_fault (codes "found unexpected non-alphabetical character") (at 2 0 2) (Some (codes "while scanning a directive")) (at 0 0 0)))
    ∷ (lexed 0 None (codes "%FOO x"), Err (scanner_fault (codes "found unknown directive name") (at 4 0 4) (Some (codes "while scanning a directive")) (at 0 0 0)))
    ∷ (lexed 0 None (codes "%YAML x"), Err (scanner_fault (codes "did not find expected version number") (at 6 0 6) (Some (codes "while scanning a %YAML directive")) (at 0 0 0)))
    ∷ (lexed 0 None (codes "%YAML 1 .1"), Err (scanner_fault (codes "did not find expected digit or '.' character") (at 7 0 7) (Some (codes "while scanning a %YAML directive")) (at 0 0 0)))
    ∷ (lexed 0 None (codes "%YAML 1234567890.1"), Err (scanner_fault (codes "found extremely long version number") (at 15 0 15) (Some (codes "while scanning a %YAML directive")) (at 0 0 0)))
    ∷ (lexed 0 None (codes "%YAML 1.1x"), Err (scanner_fault (codes "did not find expected comment or line break") (at 9 0 9) (Some (codes "while scanning a directive")) (at 0 0 0)))
    ∷ (lexed 0 None (codes "%TAG x"), Err (scanner_fault (codes "did not find expected '!'") (at 5 0 5) (Some (codes "while scanning a tag directive")) (at 0 0 0)))
    ∷ (lexed 0 None (codes "%TAG !a b"), Err (scanner_fault (codes "did not find expected '!'") (at 7 0 7) (Some (codes "while parsing a tag directive")) (at 0 0 0)))
    ∷ (lexed 0 None (codes "%TAG !a!x"), Err (scanner_fault (codes "did not find expected whitespace") (at 8 0 8) (Some (codes "while scanning a %TAG directive")) (at 0 0 0)))
    ∷ (lexed 0 None (codes "%TAG !a! "), Err (scanner_fault (codes "did not find expected tag URI") (at 9 0 9) (Some (codes "while parsing a %TAG directive")) (at 0 0 0)))
    ∷ (lexed 0 None (codes "%TAG !a! x\""), Err (scanner_fault (codes "did not find expected whitespace or line break") (at 10 0 10) (Some (codes "while scanning a %TAG directive")) (at 0 0 0)))
    ∷ []

directives_hold : Hold directives
unfolding lex number version_at handle_at tag_directive_at named directive after_gap_line after_gap_lines gap skip fold hex_escape escape body_part quoted chunk separator link plain digit_at header_at after_line after_indent empty_line text_line block name octet next_octets uri_escape uri_part uri some_uri angled handled tag at_most kind_at encode_utf8 problem_text context_text
directives_hold = refl

abbrev quoted_rows : Rows
quoted_rows =
    (lexed 0 None (codes "\"a\\" ++ (10 ∷ []) ++ (10 ∷ []) ++ codes " b\""), Ok (token (says.SCALAR (97 ∷ 10 ∷ 98 ∷ []) style.YAML_DOUBLE_QUOTED_SCALAR_STYLE) (at 0 0 0) (at 8 2 3) (at 8 2 3) false))
    ∷ (lexed 0 None (codes "\"a" ++ (0x2028 ∷ []) ++ (10 ∷ []) ++ codes "b\""), Ok (token (says.SCALAR (97 ∷ 226 ∷ 128 ∷ 168 ∷ 10 ∷ 98 ∷ []) style.YAML_DOUBLE_QUOTED_SCALAR_STYLE) (at 0 0 0) (at 8 2 2) (at 8 2 2) false))
    ∷ (lexed 0 None (codes "\"a" ++ (10 ∷ []) ++ (10 ∷ []) ++ codes "  b\""), Ok (token (says.SCALAR (97 ∷ 10 ∷ 98 ∷ []) style.YAML_DOUBLE_QUOTED_SCALAR_STYLE) (at 0 0 0) (at 8 2 4) (at 8 2 4) false))
    ∷ (lexed 0 None (codes "\"a\\" ++ (10 ∷ []) ++ codes "  b\""), Ok (token (says.SCALAR (codes "ab") style.YAML_DOUBLE_QUOTED_SCALAR_STYLE) (at 0 0 0) (at 8 1 4) (at 8 1 4) false))
    ∷ (lexed 0 None (codes "\"a\\x41\\u00e9\""), Ok (token (says.SCALAR (97 ∷ 65 ∷ 195 ∷ 169 ∷ []) style.YAML_DOUBLE_QUOTED_SCALAR_STYLE) (at 0 0 0) (at 13 0 13) (at 13 0 13) false))
    ∷ (lexed 0 None (codes "'it''s'"), Ok (token (says.SCALAR (codes "it's") style.YAML_SINGLE_QUOTED_SCALAR_STYLE) (at 0 0 0) (at 7 0 7) (at 7 0 7) false))
    ∷ (lexed 0 None (codes "\"a" ++ (10 ∷ []) ++ codes "--- b\""), Err (scanner_fault (codes "found unexpected document indicator") (at 3 1 0) (Some (codes "while scanning a quoted scalar")) (at 0 0 0)))
    ∷ (lexed 0 None (codes "'a"), Err (scanner_fault (codes "found unexpected end of stream") (at 2 0 2) (Some (codes "while scanning a quoted scalar")) (at 0 0 0)))
    ∷ (lexed 0 None (codes "\"\\q\""), Err (scanner_fault (codes "found unknown escape character") (at 1 0 1) (Some (codes "while parsing a quoted scalar")) (at 0 0 0)))
    ∷ (lexed 0 None (codes "\"\\"), Err (scanner_fault (codes "found unknown escape character") (at 1 0 1) (Some (codes "while parsing a quoted scalar")) (at 0 0 0)))
    ∷ (lexed 0 None (codes "\"\\uD800\""), Err (scanner_fault (codes "found invalid Unicode character escape code") (at 3 0 3) (Some (codes "while parsing a quoted scalar")) (at 0 0 0)))
    ∷ (lexed 0 None (codes "\"\\U00110000\""), Err (scanner_fault (codes "found invalid Unicode character escape code") (at 3 0 3) (Some (codes "while parsing a quoted scalar")) (at 0 0 0)))
    ∷ (lexed 0 None (codes "\"\\x4g\""), Err (scanner_fault (codes "did not find expected hexadecimal number") (at 3 0 3) (Some (codes "while parsing a quoted scalar")) (at 0 0 0)))
    ∷ (lexed 0 None (codes "\"\\0\\a\\b\\t\\" ++ (9 ∷ codes "\\n\\v\\f\\r\\e\\ \\\"\\/\\\\\\N\\_\\L\\P\"")), Ok (token (says.SCALAR (0 ∷ 7 ∷ 8 ∷ 9 ∷ 9 ∷ 10 ∷ 11 ∷ 12 ∷ 13 ∷ 27 ∷ 32 ∷ 34 ∷ 47 ∷ 92 ∷ 194 ∷ 133 ∷ 194 ∷ 160 ∷ 226 ∷ 128 ∷ 168 ∷ 226 ∷ 128 ∷ 169 ∷ []) style.YAML_DOUBLE_QUOTED_SCALAR_STYLE) (at 0 0 0) (at 38 0 38) (at 38 0 38) false))
    ∷ []

quoted_rows_hold : Hold quoted_rows
unfolding lex number version_at handle_at tag_directive_at named directive after_gap_line after_gap_lines gap skip fold hex_escape escape body_part quoted chunk separator link plain digit_at header_at after_line after_indent empty_line text_line block name octet next_octets uri_escape uri_part uri some_uri angled handled tag at_most kind_at encode_utf8 problem_text context_text
quoted_rows_hold = refl

abbrev plain_rows : Rows
plain_rows =
    (lexed 0 None (codes "a b # c"), Ok (token (says.SCALAR (codes "a b") style.YAML_PLAIN_SCALAR_STYLE) (at 0 0 0) (at 3 0 3) (at 4 0 4) false))
    ∷ (lexed 0 None (codes "a#b"), Ok (token (says.SCALAR (codes "a#b") style.YAML_PLAIN_SCALAR_STYLE) (at 0 0 0) (at 3 0 3) (at 3 0 3) false))
    ∷ (lexed 0 None (codes "a" ++ (10 ∷ []) ++ (10 ∷ []) ++ codes "b"), Ok (token (says.SCALAR (97 ∷ 10 ∷ 98 ∷ []) style.YAML_PLAIN_SCALAR_STYLE) (at 0 0 0) (at 4 2 1) (at 4 2 1) false))
    ∷ (lexed 0 (Some 0) (codes "a" ++ (10 ∷ []) ++ codes "b"), Ok (token (says.SCALAR (codes "a") style.YAML_PLAIN_SCALAR_STYLE) (at 0 0 0) (at 1 0 1) (at 2 1 0) true))
    ∷ (lexed 0 None (codes "a" ++ (10 ∷ []) ++ codes "--- b"), Ok (token (says.SCALAR (codes "a") style.YAML_PLAIN_SCALAR_STYLE) (at 0 0 0) (at 1 0 1) (at 2 1 0) true))
    ∷ (lexed 1 None (codes "a:b"), Ok (token (says.SCALAR (codes "a:b") style.YAML_PLAIN_SCALAR_STYLE) (at 0 0 0) (at 3 0 3) (at 3 0 3) false))
    ∷ (lexed 1 None (codes "a :]"), Err (scanner_fault (codes "found unexpected ':'") (at 2 0 2) (Some (codes "while scanning a plain scalar")) (at 0 0 0)))
    ∷ (lexed 1 (Some 0) (codes "a" ++ (10 ∷ []) ++ (9 ∷ []) ++ codes "b"), Err (scanner_fault (codes "found a tab character that violates indentation") (at 2 1 0) (Some (codes "while scanning a plain scalar")) (at 0 0 0)))
    ∷ (lexed 0 None (codes "a" ++ (0x2028 ∷ []) ++ codes "b"), Ok (token (says.SCALAR (97 ∷ 226 ∷ 128 ∷ 168 ∷ 98 ∷ []) style.YAML_PLAIN_SCALAR_STYLE) (at 0 0 0) (at 5 1 1) (at 5 1 1) false))
    ∷ (lexed 0 None (codes "a" ++ (13 ∷ []) ++ (10 ∷ []) ++ codes "b"), Ok (token (says.SCALAR (codes "a b") style.YAML_PLAIN_SCALAR_STYLE) (at 0 0 0) (at 4 1 1) (at 4 1 1) false))
    ∷ []

plain_rows_hold : Hold plain_rows
unfolding lex number version_at handle_at tag_directive_at named directive after_gap_line after_gap_lines gap skip fold hex_escape escape body_part quoted chunk separator link plain digit_at header_at after_line after_indent empty_line text_line block name octet next_octets uri_escape uri_part uri some_uri angled handled tag at_most kind_at encode_utf8 problem_text context_text
plain_rows_hold = refl

abbrev block_rows : Rows
block_rows =
    (lexed 0 (Some 1) (codes "|2" ++ (10 ∷ []) ++ codes "  a"), Ok (token (says.SCALAR ([]) style.YAML_LITERAL_SCALAR_STYLE) (at 0 0 0) (at 3 1 0) (at 5 1 2) false))
    ∷ (lexed 0 None (codes "|"), Ok (token (says.SCALAR ([]) style.YAML_LITERAL_SCALAR_STYLE) (at 0 0 0) (at 1 0 1) (at 1 0 1) false))
    ∷ (lexed 0 None (codes "|#c" ++ (10 ∷ []) ++ codes " a" ++ (10 ∷ [])), Ok (token (says.SCALAR (97 ∷ 10 ∷ []) style.YAML_LITERAL_SCALAR_STYLE) (at 0 0 0) (at 7 2 0) (at 7 2 0) false))
    ∷ (lexed 0 None (codes "|" ++ (10 ∷ []) ++ codes " a" ++ (10 ∷ []) ++ codes " "), Ok (token (says.SCALAR (97 ∷ 10 ∷ []) style.YAML_LITERAL_SCALAR_STYLE) (at 0 0 0) (at 5 2 0) (at 6 2 1) false))
    ∷ (lexed 0 None (codes "|" ++ (10 ∷ []) ++ codes " a" ++ (10 ∷ []) ++ codes "   " ++ (10 ∷ []) ++ codes " b" ++ (10 ∷ [])), Ok (token (says.SCALAR (97 ∷ 10 ∷ 32 ∷ 32 ∷ 10 ∷ 98 ∷ 10 ∷ []) style.YAML_LITERAL_SCALAR_STYLE) (at 0 0 0) (at 12 4 0) (at 12 4 0) false))
    ∷ (lexed 0 None (codes "|-" ++ (10 ∷ []) ++ codes " a" ++ (10 ∷ []) ++ (10 ∷ []) ++ codes " b" ++ (10 ∷ []) ++ (10 ∷ [])), Ok (token (says.SCALAR (97 ∷ 10 ∷ 10 ∷ 98 ∷ []) style.YAML_LITERAL_SCALAR_STYLE) (at 0 0 0) (at 11 5 0) (at 11 5 0) false))
    ∷ (lexed 0 None (codes ">" ++ (10 ∷ []) ++ codes " a" ++ (10 ∷ []) ++ codes " b" ++ (10 ∷ [])), Ok (token (says.SCALAR (97 ∷ 32 ∷ 98 ∷ 10 ∷ []) style.YAML_FOLDED_SCALAR_STYLE) (at 0 0 0) (at 8 3 0) (at 8 3 0) false))
    ∷ (lexed 0 None (codes ">" ++ (10 ∷ []) ++ codes " a" ++ (10 ∷ []) ++ codes "  b" ++ (10 ∷ []) ++ codes " c" ++ (10 ∷ [])), Ok (token (says.SCALAR (97 ∷ 10 ∷ 32 ∷ 98 ∷ 10 ∷ 99 ∷ 10 ∷ []) style.YAML_FOLDED_SCALAR_STYLE) (at 0 0 0) (at 12 4 0) (at 12 4 0) false))
    ∷ (lexed 0 None (codes ">" ++ (10 ∷ []) ++ (10 ∷ []) ++ codes " a" ++ (10 ∷ [])), Ok (token (says.SCALAR (10 ∷ 97 ∷ 10 ∷ []) style.YAML_FOLDED_SCALAR_STYLE) (at 0 0 0) (at 6 3 0) (at 6 3 0) false))
    ∷ (lexed 0 None (codes "|0"), Err (scanner_fault (codes "found an indentation indicator equal to 0") (at 1 0 1) (Some (codes "while scanning a block scalar")) (at 0 0 0)))
    ∷ (lexed 0 None (codes "|+0"), Err (scanner_fault (codes "found an indentation indicator equal to 0") (at 2 0 2) (Some (codes "while scanning a block scalar")) (at 0 0 0)))
    ∷ (lexed 0 None (codes "|2x"), Err (scanner_fault (codes "did not find expected comment or line break") (at 2 0 2) (Some (codes "while scanning a block scalar")) (at 0 0 0)))
    ∷ (lexed 0 None (codes "|" ++ (10 ∷ []) ++ (9 ∷ []) ++ codes "a"), Err (scanner_fault (codes "found a tab character where an indentation space is expected") (at 2 1 0) (Some (codes "while scanning a block scalar")) (at 0 0 0)))
    ∷ (lexed 0 None (codes "|" ++ (10 ∷ []) ++ codes "   " ++ (10 ∷ []) ++ codes " a"), Ok (token (says.SCALAR ([]) style.YAML_LITERAL_SCALAR_STYLE) (at 0 0 0) (at 6 2 0) (at 7 2 1) false))
    ∷ (lexed 0 None (codes ">-" ++ (10 ∷ []) ++ codes " a" ++ (10 ∷ []) ++ (10 ∷ []) ++ codes " b" ++ (10 ∷ [])), Ok (token (says.SCALAR (97 ∷ 10 ∷ 98 ∷ []) style.YAML_FOLDED_SCALAR_STYLE) (at 0 0 0) (at 10 4 0) (at 10 4 0) false))
    ∷ (lexed 0 None (codes "|+" ++ (10 ∷ []) ++ codes " a" ++ (10 ∷ []) ++ (10 ∷ [])), Ok (token (says.SCALAR (97 ∷ 10 ∷ 10 ∷ []) style.YAML_LITERAL_SCALAR_STYLE) (at 0 0 0) (at 7 3 0) (at 7 3 0) false))
    ∷ []

block_rows_hold : Hold block_rows
unfolding lex number version_at handle_at tag_directive_at named directive after_gap_line after_gap_lines gap skip fold hex_escape escape body_part quoted chunk separator link plain digit_at header_at after_line after_indent empty_line text_line block name octet next_octets uri_escape uri_part uri some_uri angled handled tag at_most kind_at encode_utf8 problem_text context_text
block_rows_hold = refl
