-- The stream end.
use Rattle.std.specs.Prelude.{◌+◌, ◌==◌, if◌then◌else◌}
use Rattle.yaml_text.specs.declared.types.yaml_mark_t.{yaml_mark_t}
use Rattle.yaml_text.specs.Token.TokenData.{STREAM_END}
use Rattle.yaml_lexeme.specs.Lexeme.{Lexeme, whole_of}
use Rattle.yaml_lexeme.specs.Place.{Place}
use Rattle.yaml_lexeme.specs.Reading.{Read, found}

-- the mark of a stream end: that of the text's end, or of the next line's start if the column there is not 0
abbrev pub stream_end : yaml_mark_t → yaml_mark_t
stream_end m = if m.column == 0 then m else record { index = m.index; line = m.line + 1; column = 0 }

-- the lexeme, whose three marks are that one
abbrev pub at_end : Place → Read Lexeme
at_end p = found (whole_of STREAM_END (stream_end p.mark) (stream_end p.mark)) p
