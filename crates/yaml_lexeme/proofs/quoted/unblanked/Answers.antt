use Rattle.std.proofs.Common.{◌≡◌, ◌++◌, true, false, ap, sym, subst, ◌∙◌, Bool, List, ℕ}
use Rattle.yaml_text.specs.Chars.{utf8}
use Rattle.yaml_text.specs.Classes.{is_break}
use Rattle.yaml_lexeme.proofs.ManyBytes.TrimmedLists.{trim_bytes}
use Rattle.yaml_lexeme.proofs.Readers.LineFronts.{IsFront, piece_front, trimmed_front}
use Rattle.yaml_lexeme.proofs.Readers.QuotedLines.{run_goes_on, trimmed_goes_on}
use Rattle.yaml_lexeme.specs.Place.{Place, first, run}
use Rattle.yaml_lexeme.specs.inside.Runs.{class_test, line_of, trim}
use Rattle.yaml_lexeme.proofs.quoted.unblanked.Goals as goal

trim_front : (single : Bool) (p : Place) (x : List ℕ) → x ≡ trim (utf8 (run (class_test (line_of single)) p)) → IsFront x (utf8 p.rest)
trim_front single p x e = subst (λ (y : List ℕ). IsFront y (utf8 p.rest)) (sym e) (trimmed_front (class_test (line_of single)) p)

pub returns-then-is_break-clause-goes : goal.returns-then-is_break-clause-goes
returns-then-is_break-clause-goes c = λ p out is.
    let single = c.args.single in
    let q = c.args.cursor.now in
    let whole = run (class_test (line_of single)) p in
    let t : c.trimmed.result.now ≡ utf8 (trim whole) = c.trimmed.ensures ∙ ap trim is.1 ∙ trim_bytes whole in
    let some : is_break (first q) ≡ true = cc in
    trimmed_goes_on single p q out (out ++ c.trimmed.result.now) is.0 (ap (λ (x : List ℕ). out ++ x) t) some

pub returns-clause-goes : goal.returns-clause-goes
returns-clause-goes c = λ p out is.
    let q = c.args.cursor.now in
    let none : is_break (first q) ≡ false = cc in
    run_goes_on c.args.single p q out (out ++ c.args.piece.now) is.0 (ap (λ (x : List ℕ). out ++ x) is.1) none

pub returns-then-is_break-clause-front : goal.returns-then-is_break-clause-front
returns-then-is_break-clause-front c = λ p is.
    let h = trim_front c.args.single p c.trimmed.result.now (c.trimmed.ensures ∙ ap trim is.1) in
    h.taken

pub returns-then-is_break-clause-within : goal.returns-then-is_break-clause-within
returns-then-is_break-clause-within c = λ p is.
    let h = trim_front c.args.single p c.trimmed.result.now (c.trimmed.ensures ∙ ap trim is.1) in
    h.within

pub returns-clause-front : goal.returns-clause-front
returns-clause-front c = λ p is. let h = piece_front c.args.single p c.args.cursor.now c.args.piece.now is in h.taken

pub returns-clause-within : goal.returns-clause-within
returns-clause-within c = λ p is. let h = piece_front c.args.single p c.args.cursor.now c.args.piece.now is in h.within
