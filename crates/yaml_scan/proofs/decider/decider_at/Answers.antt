use Rattle.std.proofs.Common.{◌≡◌, Ok, None, Result, ap}
use Rattle.yaml_text.specs.Fault.{Fault}
use Rattle.yaml_lexeme.specs.Lexeme.{Lexeme}
use Rattle.yaml_lexeme.specs.LexemeOf.{lexeme_of}
use Rattle.yaml_lexeme.specs.declared.lex.yaml_context_t.{yaml_context_t}
use Rattle.yaml_scan.proofs.Texts.TextPlaces.{decider_there}
use Rattle.yaml_scan.proofs.decider.decider_at.Goals as goal

same_lexeme : (a b : Lexeme) (x : Result Lexeme Fault) → x ≡ Ok a → x ≡ Ok b → a ≡ b
same_lexeme a b x e f = cc

pub returns-in-Some-clause-decides : goal.returns-in-Some-clause-decides
returns-in-Some-clause-decides c = let d = c.in-Some.ensures in
    decider_there c.args.text.now.chars c.args.at c.args.in_flow c.in-Some.kind (lexeme_of c.yaml_read_character.result) d.decides d.gap d.kind c.yaml_read_character.ensures

pub returns-in-Some-clause-reach : goal.returns-in-Some-clause-reach
returns-in-Some-clause-reach c = let d = c.in-Some.ensures in
    let p = c.requires in
    let x : yaml_context_t = record { depth = 0; level = None } in
    ap (λ (l : Lexeme). l.reach) (same_lexeme _ _ _ (c.yaml_read_character.ensures p.0 x p.1) (d.value p.0 x p.1))
