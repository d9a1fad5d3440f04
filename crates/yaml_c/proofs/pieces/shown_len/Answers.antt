use Rattle.std.proofs.Common.{refl}
use Rattle.yaml_text.specs.Token.{token_of}
use Rattle.yaml_c.specs.Next.Next.{UNKNOWN, TOKEN}
use Rattle.yaml_c.proofs.pieces.shown_len.Goals as goal

pub returns-in-Some : goal.returns-in-Some
returns-in-Some c = λ p is. (TOKEN (token_of c.in-Some.token.now), c.in-Some.ensures p is, c.text_len.ensures)

pub returns-in-None : goal.returns-in-None
returns-in-None c = λ p is. (UNKNOWN, c.in-None.ensures p is, refl)
