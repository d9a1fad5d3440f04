use Rattle.std.proofs.Common.{◌≡◌, false, ℕ, List, length, Some, refl, sym, ap, ◌∙◌, subst}
use Rattle.std.specs.Prelude.{IfSome}
use Rattle.yaml_text.specs.Chars.{utf8}
use Rattle.yaml_text.specs.Decoding.{refusal_seen}
use Rattle.yaml_text.specs.Kept.{IsKeptOf}
use Rattle.yaml_text.specs.Pieces.{fault_to_come}
use Rattle.yaml_text.specs.Text.{Text}
use Rattle.yaml_text.specs.TextBytes.{AreChars}
use Rattle.yaml_scan.specs.declared.scanner.scanner_t.{scanner_t}
use Rattle.yaml_scan.specs.inside.Feeding.{GoesOnOver, IsRenewed}
use Rattle.yaml_scan.proofs.fed.go_on.Goals as goal
use Rattle.yaml_scan.proofs.fed.go_on.Goals.{in-Owned-1, in-Borrowed-1}

pub returns : goal.returns
returns c = λ text kept. elim c.match-text.branch [
  | in-Owned-1 z ↦ subst (Over text) (sym z.scanner-is) (both text kept)
  | in-Borrowed-1 z ↦ subst (Over text) (sym z.scanner-is) (both text kept)
]
  where
    Over : Text → scanner_t → Type 0
    Over text l = GoesOnOver text c.args.scanner.now c.args.refused c.args.last l c.refusal_by-certain.result.0

    is_text : (text : Text) → IsKeptOf text c.args.input.now c.args.scanner.now.text → c.view-text.result ≡ text
    is_text text kept = c.view-text.ensures text kept

    chars : (text : Text) → c.view-text.result ≡ text → AreChars text.chars
    chars text e = subst (λ (z : Text). AreChars z.chars) e c.bytes.ensures.characters

    unsure : (text : Text) → c.view-text.result ≡ text → c.refusal_by-certain.result.0 ≡ false
        → (c.args.last ≡ false) × IfSome c.args.refused (λ r. r.1 ≡ false) × (refusal_seen c.refusal_by-certain.result.1 ≡ Some (fault_to_come (length (utf8 text.chars))))
    unsure text e n = let w = c.refusal_by-certain.ensures.uncertain n in (w.0, w.1, w.2 ∙ ap (λ (n : ℕ). Some (fault_to_come n)) (ap (λ (x : List ℕ). length x) c.bytes.ensures.utf8 ∙ ap (λ (z : Text). length (utf8 z.chars)) e))

    both : (text : Text) → IsKeptOf text c.args.input.now c.args.scanner.now.text → Over text (record c.args.scanner.now { session = record c.args.scanner.now.session { state = c.renew.new.state } })
    both text kept = let e = is_text text kept in record {
      refusal = c.refusal_by-certain.result.1;
      state = c.renew.new.state;
      chars = chars text e;
      renewed = subst (λ (z : Text). IsRenewed z c.args.scanner.now.session.state c.refusal_by-certain.result.1 c.renew.new.state) e c.renew.ensures;
      is = refl;
      sure = c.refusal_by-certain.ensures.certain;
      unsure = unsure text e;
    }
