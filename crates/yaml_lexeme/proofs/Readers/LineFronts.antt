-- The bytes of a run are the first bytes of what is left, and so are those of its trimmed piece.
use Rattle.std.proofs.Common.{◌≡◌, ℕ, ◌-◌, ◌≤◌, Bool, List, ◌++◌, length, take, drop, refl, sym, ap, subst, ◌∙◌, arith, append_assoc}
use Rattle.std.proofs.lemmas.List.{take-append-drop, length-append}
use Rattle.std.proofs.lemmas.Str.{encodes-append}
use Rattle.std.proofs.Math.Seq.{take-append_seam}
use Rattle.yaml_text.specs.Chars.{utf8}
use Rattle.yaml_lexeme.specs.Place.{Place, skip, run, run_len, after_run}
use Rattle.yaml_lexeme.specs.inside.Runs.{class_test, line_of, trim}
use Rattle.yaml_lexeme.specs.inside.Words.{IsInLine, IsPiece}
use Rattle.yaml_lexeme.proofs.ManyBytes.TrimmedLists.{trimmed}
use Rattle.yaml_lexeme.proofs.Places.CursorMoves.{run_bytes}
use Rattle.yaml_lexeme.proofs.Places.PlaceMoves.{rest_skip}

-- xs are the first of ys
pub record IsFront (xs ys : List ℕ) : Type 0 where
  pub taken : xs ≡ take (length xs) ys
  pub within : length xs ≤ length ys

front_of : (xs left ys : List ℕ) → ys ≡ xs ++ left → IsFront xs ys
front_of xs left ys e = record {
  taken = sym (take-append_seam xs left) ∙ ap (take (length xs)) (sym e);
  within = omega (arith, ap (λ (zs : List ℕ). length zs) e, length-append xs left);
}

whole : (n : ℕ) (cs : List ℕ) → utf8 cs ≡ utf8 (take n cs) ++ utf8 (drop n cs)
whole n cs = ap utf8 (sym (take-append-drop n cs)) ∙ encodes-append (take n cs) (drop n cs)

pub taken_front : (n : ℕ) (cs : List ℕ) → IsFront (utf8 (take n cs)) (utf8 cs)
taken_front n cs = front_of (utf8 (take n cs)) (utf8 (drop n cs)) (utf8 cs) (whole n cs)

pub run_front : (test : ℕ → Bool) (p : Place) → IsFront (utf8 (run test p)) (utf8 p.rest)
run_front test p = taken_front (run_len test p) p.rest

pub trimmed_front : (test : ℕ → Bool) (p : Place) → IsFront (trim (utf8 (run test p))) (utf8 p.rest)
trimmed_front test p =
    let bs = utf8 (run test p) in
    let t = trimmed bs in
    front_of (trim bs) (t.blanks ++ utf8 (drop (run_len test p) p.rest)) (utf8 p.rest)
    (whole (run_len test p) p.rest ∙ ap (λ (x : List ℕ). x ++ utf8 (drop (run_len test p) p.rest)) t.parts ∙ append_assoc (trim bs) t.blanks (utf8 (drop (run_len test p) p.rest)))

pub piece_front : (single : Bool) (p q : Place) (piece : List ℕ) → IsPiece single p q piece → IsFront piece (utf8 p.rest)
piece_front single p q piece is = subst (λ (y : List ℕ). IsFront y (utf8 p.rest)) (sym is.1) (run_front (class_test (line_of single)) p)

-- where the piece ends that goes on at q, and what it is
pub far_piece : (single : Bool) (p q r : Place) (left : List ℕ) → IsInLine single p q left → r ≡ after_run (class_test (line_of single)) q → (length (utf8 r.rest) ≤ length left) × IsPiece single p r (take (length left - length (utf8 r.rest)) left)
far_piece single p q r left is e =
    let test = class_test (line_of single) in
    let end : r ≡ after_run test p = e ∙ is.0 in
    let b = run_bytes test p r left _ end is.1 refl in
    (b.0, (end, b.1))

-- no more bytes are left at a later place
pub left_within : (n : ℕ) (p : Place) → length (utf8 (skip n p).rest) ≤ length (utf8 p.rest)
left_within n p = omega (arith, ap (λ (x : List ℕ). length (utf8 x)) (rest_skip n p), ap (λ (x : List ℕ). length x) (whole n p.rest), length-append (utf8 (take n p.rest)) (utf8 (drop n p.rest)))
