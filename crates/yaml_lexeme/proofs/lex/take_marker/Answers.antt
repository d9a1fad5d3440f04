use Rattle.std.proofs.Common.{refl}
use Rattle.yaml_lexeme.proofs.Readers.DocumentMarkers.{marker_characters, single_on, three_on, two_on}
use Rattle.yaml_lexeme.proofs.lex.take_marker.Goals as goal

pub pass-requires : goal.pass-requires
pass-requires c =
    let f = (marker_characters c.requires.0 c.args.start c.args.cursor.now c.requires.1).first in
    record { some = f.some; ascii = f.ascii; inside = f.inside }

pub pass-requires-2 : goal.pass-requires-2
pass-requires-2 c =
    let three = marker_characters c.requires.0 c.args.start c.args.cursor.now c.requires.1 in
    let f = single_on 1 c.args.cursor.now c.pass.new.self c.pass.ensures three.second in
    record { some = f.some; ascii = f.ascii; inside = f.inside }

pub pass-requires-3 : goal.pass-requires-3
pass-requires-3 c =
    let three = marker_characters c.requires.0 c.args.start c.args.cursor.now c.requires.1 in
    let f = single_on 2 c.args.cursor.now c.pass-2.new.self (two_on c.args.cursor.now c.pass.new.self c.pass-2.new.self c.pass.ensures c.pass-2.ensures) three.third in
    record { some = f.some; ascii = f.ascii; inside = f.inside }

pub returns : goal.returns
returns c =
    let e = three_on c.args.cursor.now c.pass.new.self c.pass-2.new.self c.pass-3.new.self c.pass.ensures c.pass-2.ensures c.pass-3.ensures in
    rw (← e, c.whole_of.ensures, c.says_of.ensures, c.yaml_marker_kind.ensures, c.mark.ensures.value, c.mark-at.ensures.value) refl
