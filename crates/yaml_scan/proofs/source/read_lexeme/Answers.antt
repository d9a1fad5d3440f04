use Rattle.std.proofs.Common.{◌∙◌, refl, sym}
use Rattle.yaml_scan.specs.inside.Scanner.{scanner_of}
use Rattle.yaml_scan.proofs.Texts.TextPlaces.{level_bytes, reads_in, reads_well}
use Rattle.yaml_scan.proofs.source.read_lexeme.Goals as goal

pub read-read-requires-clause-level : goal.read-read-requires-clause-level
read-read-requires-clause-level g c = λ _. level_bytes c.args.text.now.chars c.args.context.level c.requires.level

pub returns-then-is_err : goal.returns-then-is_err
returns-then-is_err g c =
    let read = reads_in (scanner_of c.args.text.now c.args.state.now) g.R.yaml_reader_t.KIND c.args.context c.read-read.new.spot.at c.read-read.result c.read-read.ensures.value in
    record { read = read; same = refl }

pub returns-else-is_err : goal.returns-else-is_err
returns-else-is_err g c =
    let fine = sym c.is_err.ensures.value ∙ c.if-is_err.false in
    let read = reads_well (scanner_of c.args.text.now c.args.state.now) g.R.yaml_reader_t.KIND c.args.context c.read-read.new.spot.at c.args.state.now.there c.read-read.result fine c.read-read.ensures.value in
    record { read = read; same = refl }
