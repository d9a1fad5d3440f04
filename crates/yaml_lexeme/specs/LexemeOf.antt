-- What the code reads, as the definitions see it.
use Rattle.yaml_text.specs.declared.types.yaml_mark_t.{yaml_mark_t}
use Rattle.yaml_text.specs.Token.{data_of}
use Rattle.yaml_text.specs.Token.TokenData.{SCALAR}
use Rattle.yaml_lexeme.specs.declared.lexeme.yaml_lexeme_t.{yaml_lexeme_t}
use Rattle.yaml_lexeme.specs.declared.lexeme.yaml_part_t.{yaml_part_t}
use Rattle.yaml_lexeme.specs.declared.plain.scalar_t.{scalar_t}
use Rattle.yaml_lexeme.specs.declared.directive.directive_t.{directive_t}
use Rattle.yaml_lexeme.specs.Lexeme.{Lexeme, Scalar, Directive}

-- A lexeme of the code, as the definitions see it.
abbrev pub lexeme_of : yaml_lexeme_t → Lexeme
lexeme_of l = record {
  token_data = data_of l.token_data;
  start_mark = l.start_mark;
  end_mark = l.end_mark;
  reach = l.reach;
  passed_break = l.passed_break;
}

-- A scalar whose value is a part of the text, from its start on.
abbrev pub part_from : yaml_mark_t → yaml_part_t → Lexeme
part_from start p = record {
  token_data = SCALAR p.value.now p.style;
  start_mark = start;
  end_mark = p.end_mark;
  reach = p.reach;
  passed_break = p.passed_break;
}

-- A scalar of the code.
abbrev pub scalar_of : scalar_t → Scalar
scalar_of s = record { value = s.value.items; end = s.end; passed_break = s.passed_break }

-- A directive of the code.
abbrev pub directive_of : directive_t → Directive
directive_of d = record { says = data_of d.says; end = d.end }
