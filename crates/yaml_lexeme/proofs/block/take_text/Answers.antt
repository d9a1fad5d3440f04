use Rattle.std.proofs.Common.{◌∙◌, ap, refl}
use Rattle.yaml_lexeme.proofs.Readers.BlockLines.{to_line_end}
use Rattle.yaml_lexeme.specs.Block.{next_line}
use Rattle.yaml_lexeme.specs.Place.{Place}
use Rattle.yaml_lexeme.proofs.block.take_text.Goals as goal

pub returns-clause-end : goal.returns-clause-end
returns-clause-end c =
    to_line_end c.take_fed_line.new.self c.rare_run-text.new.self c.take_break.new.cursor c.rare_run-text.ensures.end c.take_break.ensures.end
    ∙ ap (λ (p : Place). next_line p) (c.in_default.ensures.stays refl)
