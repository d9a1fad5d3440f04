use Rattle.yaml_text.proofs.ManyBytes.CellRuns.{copied}
use Rattle.yaml_text.proofs.utf16.put_cell.Goals as goal

pub returns-clause-bytes : goal.returns-clause-bytes
returns-clause-bytes c = copied c.args.items.now c.args.from c.args.to _ _ c.requires.before c.requires.room c.requires.few
