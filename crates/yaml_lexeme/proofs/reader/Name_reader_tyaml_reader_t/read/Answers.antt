use Rattle.std.proofs.Common.{◌≡◌, Bool, not, true, false, refl, rules}
use Rattle.std.specs.Prelude.{nat_eq}
use Rattle.yaml_lexeme.specs.Lex.{lex}
use Rattle.yaml_lexeme.specs.KindSets.{anchor_or_alias, name_kind}
use Rattle.yaml_lexeme.specs.Lexeme.{lexeme, whole}
use Rattle.yaml_lexeme.specs.Place.{Place, place_at}
use Rattle.yaml_lexeme.specs.Name.{name}
use Rattle.yaml_lexeme.specs.declared.lex.yaml_context_t.{yaml_context_t}
use Rattle.yaml_lexeme.proofs.reader.Name_reader_tyaml_reader_t.read.Goals as goal

name_is : (anchor : Bool) (context : yaml_context_t) (p : Place) → lex (name_kind anchor) context p ≡ lexeme (whole (anchor_or_alias anchor)) p (name p)
unfolding lex
name_is true context p = refl
name_is false context p = refl

pub returns-in-Ok-clause-value : goal.returns-in-Ok-clause-value
returns-in-Ok-clause-value g c = λ n i.
    let e = name_is (not (nat_eq g.row.ANCHOR 0)) c.args._context (place_at c.args.spot.now.text.now.chars n) in
    rw e (search rules)

pub returns-clause-value : goal.returns-clause-value
returns-clause-value g c = λ n i.
    let e = name_is (not (nat_eq g.row.ANCHOR 0)) c.args._context (place_at c.args.spot.now.text.now.chars n) in
    rw e (search rules)
