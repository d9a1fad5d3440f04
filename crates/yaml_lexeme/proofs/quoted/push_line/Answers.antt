use Rattle.std.proofs.Common.{◌≡◌, ◌++◌, ◌∙◌, sym, ap, subst, length, take, List, ℕ}
use Rattle.yaml_lexeme.specs.inside.Words.{GoesOn}
use Rattle.yaml_lexeme.proofs.quoted.push_line.Goals as goal

pub returns-clause-goes : goal.returns-clause-goes
returns-clause-goes c =
    let out = c.args.out.now.items in
    let piece = c.line_piece-piece.result.now in
    let same : take (length piece) c.left-left.result.now ≡ piece = ap (λ (x : List ℕ). take (length piece) x) c.left-left.ensures ∙ sym c.line_piece-piece.ensures.front in
    let taken : c.push_front.new.out.items ≡ out ++ piece = c.in_ok-push_front.ensures ∙ ap (λ (x : List ℕ). out ++ x) same in
    subst (λ (x : List ℕ). GoesOn c.args.single c.args.cursor.now out c.line_piece-piece.new.cursor x) (sym taken) (c.line_piece-piece.ensures.goes out)
