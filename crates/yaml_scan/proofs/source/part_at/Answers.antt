use Rattle.yaml_scan.proofs.Texts.TextPlaces.{level_bytes, part_reads}
use Rattle.yaml_scan.proofs.source.part_at.Goals as goal

pub part-requires-clause-level : goal.part-requires-clause-level
part-requires-clause-level g c = λ _. level_bytes c.args.text.now.chars c.args.context.level c.requires.level

pub returns-clause-read : goal.returns-clause-read
returns-clause-read g c = part_reads c.args.text.now.chars g.R.yaml_reader_t.KIND c.args.context c.args.state.now.gap_end c.part.result c.part.ensures.value
