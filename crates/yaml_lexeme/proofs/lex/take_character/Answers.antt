use Rattle.yaml_lexeme.proofs.Readers.FirstCharacter.{first_single}
use Rattle.yaml_lexeme.proofs.lex.take_character.Goals as goal

pub pass-requires : goal.pass-requires
pass-requires c = let t = c.requires.there in let f = first_single t.0 c.args.cursor.now c.args.kind t.1 c.requires.character in record { some = f.some; ascii = f.ascii; inside = f.inside }
