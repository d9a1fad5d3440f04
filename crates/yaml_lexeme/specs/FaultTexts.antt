-- What a fault says: the text of each problem, and of what was being read.
use Rattle.std.specs.Prelude.{ℕ, Bool, true, false, if◌then◌else◌, List, codes}
use Rattle.yaml_lexeme.specs.declared.kind.yaml_lexeme_kind_t.{yaml_lexeme_kind_t}
use Rattle.yaml_lexeme.specs.declared.kind.yaml_lexeme_kind_t.TheVariants as kind
use Rattle.yaml_lexeme.specs.declared.problem.yaml_problem_t.{yaml_problem_t}
use Rattle.yaml_lexeme.specs.declared.problem.yaml_problem_t.TheVariants as problem

unfoldable pub problem_text : yaml_problem_t → List ℕ
problem_text problem.UNKNOWN_DIRECTIVE = codes "found unknown directive name"
problem_text problem.NO_COMMENT_OR_BREAK = codes "did not find expected comment or line break"
problem_text problem.NO_DIRECTIVE_NAME = codes "could not find expected directive name"
problem_text problem.DIRECTIVE_NAME_GOES_ON = codes "found unexpected non-alphabetical character"
problem_text problem.NO_DOT = codes "did not find expected digit or '.' character"
problem_text problem.LONG_NUMBER = codes "found extremely long version number"
problem_text problem.NO_NUMBER = codes "did not find expected version number"
problem_text problem.NO_BLANK = codes "did not find expected whitespace"
problem_text problem.NO_BLANK_OR_BREAK = codes "did not find expected whitespace or line break"
problem_text problem.NO_NAME = codes "did not find expected alphabetic or numeric character"
problem_text problem.NO_CLOSING_ANGLE = codes "did not find the expected '>'"
problem_text problem.NO_HANDLE = codes "did not find expected '!'"
problem_text problem.OPEN_HANDLE = codes "did not find expected '!'"
problem_text problem.NO_URI = codes "did not find expected tag URI"
problem_text problem.NO_OCTET = codes "did not find URI escaped octet"
problem_text problem.BAD_LEAD_OCTET = codes "found an incorrect leading UTF-8 octet"
problem_text problem.BAD_NEXT_OCTET = codes "found an incorrect trailing UTF-8 octet"
problem_text problem.INDICATOR_ZERO = codes "found an indentation indicator equal to 0"
problem_text problem.TAB_IN_INDENTATION = codes "found a tab character where an indentation space is expected"
problem_text problem.DOCUMENT_MARKER = codes "found unexpected document indicator"
problem_text problem.END_OF_TEXT = codes "found unexpected end of stream"
problem_text problem.UNKNOWN_ESCAPE = codes "found unknown escape character"
problem_text problem.NO_HEX_DIGIT = codes "did not find expected hexadecimal number"
problem_text problem.NO_SCALAR_VALUE = codes "found invalid Unicode character escape code"
problem_text problem.COLON_IN_FLOW = codes "found unexpected ':'"
problem_text problem.TAB_IN_PLAIN = codes "found a tab character that violates indentation"

-- what was being read, by the kind of the lexeme
abbrev pub scanning : yaml_lexeme_kind_t → List ℕ
scanning kind.DIRECTIVE = codes "while scanning a directive"
scanning kind.ALIAS = codes "while scanning an alias"
scanning kind.ANCHOR = codes "while scanning an anchor"
scanning kind.TAG = codes "while scanning a tag"
scanning kind.SINGLE_QUOTED = codes "while scanning a quoted scalar"
scanning kind.DOUBLE_QUOTED = codes "while scanning a quoted scalar"
scanning kind.PLAIN = codes "while scanning a plain scalar"
scanning literal_or_folded = codes "while scanning a block scalar"

abbrev pub is_directive : yaml_lexeme_kind_t → Bool
is_directive kind.DIRECTIVE = true
is_directive k = false

-- a uri in the prefix of a directive, or in a tag
abbrev pub parsing_uri : yaml_lexeme_kind_t → List ℕ
parsing_uri k = if is_directive k then codes "while parsing a %TAG directive" else codes "while parsing a tag"

-- what was being read, by the problem where that says more
unfoldable pub context_text : yaml_lexeme_kind_t → yaml_problem_t → List ℕ
context_text k problem.NO_DOT = codes "while scanning a %YAML directive"
context_text k problem.LONG_NUMBER = codes "while scanning a %YAML directive"
context_text k problem.NO_NUMBER = codes "while scanning a %YAML directive"
context_text k problem.NO_BLANK = codes "while scanning a %TAG directive"
context_text k problem.NO_BLANK_OR_BREAK =
    if is_directive k then codes "while scanning a %TAG directive" else scanning k
context_text k problem.NO_HANDLE = codes "while scanning a tag directive"
context_text k problem.OPEN_HANDLE = codes "while parsing a tag directive"
context_text k problem.UNKNOWN_ESCAPE = codes "while parsing a quoted scalar"
context_text k problem.NO_HEX_DIGIT = codes "while parsing a quoted scalar"
context_text k problem.NO_SCALAR_VALUE = codes "while parsing a quoted scalar"
context_text k problem.NO_URI = parsing_uri k
context_text k problem.NO_OCTET = parsing_uri k
context_text k problem.BAD_LEAD_OCTET = parsing_uri k
context_text k problem.BAD_NEXT_OCTET = parsing_uri k
context_text k other = scanning k
