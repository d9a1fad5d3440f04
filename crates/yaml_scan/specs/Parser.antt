-- A parser, as its calls see it. The calls go by what its bytes decode to, whatever that is.
use Rattle.std.specs.Prelude.{ℕ, List}
use Rattle.yaml_text.specs.declared.types.yaml_encoding_t.{yaml_encoding_t}
use Rattle.yaml_scan.specs.Course.{Input, Course, course}
use Rattle.yaml_scan.specs.Session.{Session, Call, Answer, after, answer}

pub record Parser : Type 0 where
  -- the bytes of its input
  pub input : List ℕ
  -- the encoding that is set
  pub setting : yaml_encoding_t
  -- the key limit
  pub limit : ℕ
  pub session : Session

-- what bytes decode to in an encoding setting; in the code it is `decoded_input` (Decoded.antt)
abbrev pub Decoder : Type 0
Decoder = yaml_encoding_t → List ℕ → Input

-- the course of a parser's input
unfoldable pub course_by : Decoder → Parser → Course
course_by decode p = course p.limit (decode p.setting p.input)

-- the answer to a call
abbrev pub answer_by : Decoder → Parser → Call → Answer
answer_by decode p call = answer (decode p.setting p.input).encoding p.limit (course_by decode p) call p.session

-- the parser after a call
abbrev pub after_by : Decoder → Parser → Call → Parser
after_by decode p call = record p { session = after p.limit (course_by decode p) call p.session }
