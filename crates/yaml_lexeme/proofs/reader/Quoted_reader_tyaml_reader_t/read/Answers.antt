use Rattle.std.proofs.Common.{◌≡◌, Bool, not, true, false, refl, rules}
use Rattle.std.specs.Prelude.{nat_eq}
use Rattle.yaml_lexeme.specs.Lex.{lex}
use Rattle.yaml_lexeme.specs.KindSets.{quoted_kind, quoted_as, quoted_style}
use Rattle.yaml_lexeme.specs.Lexeme.{lexeme, whole}
use Rattle.yaml_lexeme.specs.Place.{Place, place_at}
use Rattle.yaml_lexeme.specs.Quoted.{quoted}
use Rattle.yaml_lexeme.specs.declared.lex.yaml_context_t.{yaml_context_t}
use Rattle.yaml_lexeme.proofs.reader.Quoted_reader_tyaml_reader_t.read.Goals as goal

quoted_is : (single : Bool) (context : yaml_context_t) (p : Place) → lex (quoted_kind single) context p ≡ lexeme (whole (quoted_as (quoted_style single))) p (quoted single p)
unfolding lex
quoted_is true context p = refl
quoted_is false context p = refl

pub returns-in-Ok-clause-value : goal.returns-in-Ok-clause-value
returns-in-Ok-clause-value g c = λ n i.
    let e = quoted_is (not (nat_eq g.row.SINGLE 0)) c.args._context (place_at c.args.spot.now.text.now.chars n) in
    rw e (search rules)

pub returns-in-Err-clause-value : goal.returns-in-Err-clause-value
returns-in-Err-clause-value g c = λ n i.
    let e = quoted_is (not (nat_eq g.row.SINGLE 0)) c.args._context (place_at c.args.spot.now.text.now.chars n) in
    rw e (search rules)
