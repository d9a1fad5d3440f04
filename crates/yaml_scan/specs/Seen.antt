-- What can be seen of the answers to lists of calls.
use Rattle.yaml_text.specs.declared.types.yaml_mark_t.{yaml_mark_t}
use Rattle.yaml_text.specs.declared.types.yaml_token_type_t.{yaml_token_type_t}
use Rattle.yaml_text.specs.Fault.{fault_of, Fault}
use Rattle.yaml_text.specs.Token.{token_of}
use Rattle.yaml_scan.specs.declared.calls.yaml_answer_t.{yaml_answer_t}
use Rattle.yaml_scan.specs.declared.calls.yaml_answer_t.TheVariants as coded
use Rattle.yaml_scan.specs.Token.{yaml_token_t, type_of}
use Rattle.yaml_scan.specs.Session.{Answer, Answer as says}

-- what can be seen of an answer: of a peeked token the type and the marks
pub data Seen : Type 0 where
  TOKEN : yaml_token_t → Seen
  PEEKED : yaml_token_type_t → yaml_mark_t → yaml_mark_t → Seen
  SKIPPED : Seen
  NOTHING : Seen
  FAULT : Fault → Seen

-- of a session's answer
abbrev pub seen : Answer → Seen
seen (says.TOKEN x) = TOKEN x
seen (says.PEEKED x) = PEEKED (type_of x.token_data) x.start_mark x.end_mark
seen says.SKIPPED = SKIPPED
seen says.NOTHING = NOTHING
seen (says.FAULT f) = FAULT f

-- of the code's
abbrev pub seen_of : yaml_answer_t → Seen
seen_of (coded.TOKEN x) = TOKEN (token_of x)
seen_of (coded.PEEKED type start end) = PEEKED type start end
seen_of coded.SKIPPED = SKIPPED
seen_of coded.NOTHING = NOTHING
seen_of (coded.FAULT f) = FAULT (fault_of f)
