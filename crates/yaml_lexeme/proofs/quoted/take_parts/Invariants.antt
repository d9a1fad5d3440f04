use Rattle.std.proofs.Common.{not, length}
use Rattle.std.specs.Prelude.{nat_eq}
use Rattle.yaml_text.specs.Chars.{utf8}
use Rattle.yaml_lexeme.specs.Quoted.{body_part, spelled}
use Rattle.yaml_lexeme.specs.Reading.{many, with_front}
use Rattle.yaml_lexeme.proofs.Parts.PartByPart.{Reading}
use Rattle.yaml_lexeme.proofs.quoted.take_parts.Given as goal

abbrev pub invariant-parts : goal.invariant-parts
invariant-parts g l =
    let one = body_part (not (nat_eq g.row.SINGLE 0)) in
    Reading utf8 one l.cursor l.out.items (with_front l.fn.out.items (spelled (many one l.fn.cursor)))

abbrev pub decreases-parts : goal.decreases-parts
decreases-parts g l = length l.cursor.rest
