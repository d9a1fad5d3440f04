use Rattle.std.proofs.Common.{◌≡◌, rules, length, subst}
use Rattle.yaml_c.specs.Answer.{rooms}
use Rattle.yaml_c.specs.Kinds.{IfPieces, Pieces}
use Rattle.yaml_c.specs.PiecesHeld.{GivesPiece, IsAtPieces, IsWindow, PiecesScan}
use Rattle.yaml_c.specs.declared.kinds.held_any_t.{held_any_t}
use Rattle.yaml_c.specs.declared.pieces.held_pieces_t.{held_pieces_t}
use Rattle.yaml_c.proofs.calls.bogzhami_next_piece.Goals as goal

-- what holds of what the box held and holds, holds of what the handle does
moved : (P : held_pieces_t → held_any_t → Type 0) (v x w y : held_any_t) → v ≡ x → w ≡ y
    → IfPieces v (λ h. P h w) → IfPieces x (λ h. P h y)
moved P v x w y old new holds =
    subst (λ (z : held_any_t). IfPieces x (λ h. P h z)) new (subst (λ (z : held_any_t). IfPieces z (λ h. P h w)) old holds)

pub returns-clause-pieces : goal.returns-clause-pieces
returns-clause-pieces c = λ live.
    let n = c.next_of_pieces-status in
    let old : c.deref_mut.result.now ≡ c.args.handle.now.held.value = search rules in
    let new : n.new.held ≡ c.handle_of.result.held.value = search rules in
    moved (λ h z. IsWindow h c.args.from (length c.args.window.now) c.args.last → (s : PiecesScan)
    → s.fed.given ≡ c.args.window.now → s.fed.whole ≡ c.args.last → IsAtPieces s h
    → Pieces z (λ k. GivesPiece s (rooms c.args.tokens.now c.args.texts.now) (rooms n.new.tokens n.new.texts) k n.new.answer n.result))
    _ _ _ _ old new n.ensures.pieces
