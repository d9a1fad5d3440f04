-- A scanner of pieces is at all that came, from its first call on.
use Rattle.std.proofs.Common.{◌≡◌, ◌++◌, ℕ, Bool, false, List, length, refl, ap, sym, ◌∙◌, subst, arith, inl, inr}
use Rattle.std.proofs.lemmas.Bool.{cases_lt}
use Rattle.yaml_scan.specs.Fed.{Fed, comes}
use Rattle.yaml_c.specs.Answer.{Rooms, no_answer}
use Rattle.yaml_c.specs.Kinds.{IfPieces, Pieces}
use Rattle.yaml_c.specs.PiecesHeld.{GivesPiece, IsAtPieces, IsWindow, PiecesScan}
use Rattle.yaml_c.specs.Status as status
use Rattle.yaml_c.specs.declared.answer.bogzhami_answer.{bogzhami_answer}
use Rattle.yaml_c.specs.declared.kinds.held_any_t.{held_any_t}
use Rattle.yaml_c.specs.declared.kinds.held_any_t.TheVariants.{WHOLE, PIECES}
use Rattle.yaml_c.specs.declared.pieces.held_pieces_t.{held_pieces_t}
use Rattle.yaml_c.proofs.PieceTurns.{pieces_come}

-- it is at all that came
abbrev pub AtAll : List ℕ → Bool → held_pieces_t → Type 0
AtAll came last h = (s : PiecesScan) × (s.fed.given ≡ came) × (s.fed.whole ≡ last) × IsAtPieces s h

-- what follows of a scanner of pieces holds of what is held
pub pieces_too : (v : held_any_t) (P Q : held_pieces_t → Type 0) → ((h : held_pieces_t) → P h → Q h) → Pieces v P → Pieces v Q
pieces_too (WHOLE h) P Q f w = w
pieces_too (PIECES h) P Q f w = f h w

-- so it does where there may be one
pub if_pieces : (v : held_any_t) (P Q : held_pieces_t → Type 0) → ((h : held_pieces_t) → P h → Q h) → Pieces v P → IfPieces v Q
if_pieces (WHOLE h) P Q f w = tt
if_pieces (PIECES h) P Q f w = f h w

-- more came
pub more_came : (v : held_any_t) (came bytes all : List ℕ) (whole last : Bool) → whole ≡ false → all ≡ came ++ bytes
    → Pieces v (AtAll came whole) → Pieces v (AtAll all last)
more_came v came bytes all whole last goes e w = pieces_too v (AtAll came whole) (AtAll all last) (λ h at. (
  record at.0 { fed = comes at.0.fed bytes last },
  ap (λ (x : List ℕ). x ++ bytes) at.1 ∙ sym e,
  refl,
  pieces_come at.0 h bytes last (at.2 ∙ goes) at.3,
)) w

-- all that came is a window, if it begins with the input
all_is_window : (came : List ℕ) (last : Bool) (h : held_pieces_t) → AtAll came last h → (from : ℕ) → from ≡ 0
    → IsWindow h from (length came) last
all_is_window came last h at from front = record {
  front = front;
  grows = omega (arith, at.3.came, ap length at.1);
  same = λ w. let e = at.3.whole w in (sym at.2 ∙ e.0, sym (ap length at.1) ∙ e.1);
}

-- after a call it is still at all that came, whatever the window's beginning was
pub call_keeps : (v w : held_any_t) (from : ℕ) (came : List ℕ) (last : Bool) (old new : Rooms) (answer : bogzhami_answer) (n : ℕ)
    → IfPieces v (λ h. IsWindow h from (length came) last → (s : PiecesScan) → s.fed.given ≡ came → s.fed.whole ≡ last → IsAtPieces s h
    → Pieces w (λ k. GivesPiece s old new k answer n))
    → IfPieces v (λ h. (IsWindow h from (length came) last → ⊥) → (w ≡ v) × (n ≡ status.wrong) × (answer ≡ no_answer) × (new ≡ old))
    → Pieces v (AtAll came last) → Pieces w (AtAll came last)
call_keeps (WHOLE h) w from came last old new answer n gives wrong at = absurd at
call_keeps (PIECES h) w from came last old new answer n gives wrong at = elim (cases_lt 0 from) [
  | inl past ↦ subst (λ (z : held_any_t). Pieces z (AtAll came last))
      (sym (wrong (λ q. absurd (let f = q.front in omega (arith, f, past)))).0) at
  | inr front ↦ pieces_too w (λ k. GivesPiece at.0 old new k answer n) (AtAll came last)
      (λ k g. (g.left, ap (λ (z : Fed). z.given) g.gives.same ∙ at.1, ap (λ (z : Fed). z.whole) g.gives.same ∙ at.2, g.at))
      (gives (all_is_window came last h at from (omega (arith, front))) at.0 at.1 at.2 at.3)
]
