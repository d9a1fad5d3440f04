-- A scan over a text that is refused for what is to come has begun, or its first step can't be made.
use Rattle.std.proofs.Common.{◌≡◌, ◌≢◌, ℕ, [], length, Some, ap, sym, ◌∙◌, subst, arith, inl, inr}
use Rattle.std.specs.Prelude.{◌⊎◌}
use Rattle.yaml_text.specs.Chars.{utf8}
use Rattle.yaml_text.specs.Decode.{front}
use Rattle.yaml_text.specs.Fault.{Fault}
use Rattle.yaml_text.specs.Pieces.{fault_to_come}
use Rattle.yaml_text.specs.Text.{Text}
use Rattle.yaml_scan.specs.declared.session.session_t.{session_t}
use Rattle.yaml_scan.specs.declared.state.state_t.{state_t}
use Rattle.yaml_scan.specs.inside.Feeding.{IsOver}
use Rattle.yaml_scan.specs.inside.KeptParts.{HasBegun, StopsAfter, on_to}
use Rattle.yaml_scan.specs.inside.Ready.{Begins, IsEnded, IsNew, IsShort, IsStopped, Scan, scanner_in}
use Rattle.yaml_scan.specs.inside.Scanner.{scanner_of}
use Rattle.yaml_scan.proofs.RunningCalls.KeptCalls.{begins_now, begun_before, is_new, stops_first}
use Rattle.yaml_scan.proofs.RunningCalls.KeptTokens.{stops_after}

module _ (i : Scan) (T : Text) (old : session_t) (f : Fault) (I : IsOver i T old f) where
  made_same : i.session.state.made ≡ old.state.made
  made_same = ap (λ (z : session_t). z.state.made) (sym I.same)

  pub new_before : old.state.made ≡ 0 → (X : Text) → IsNew (scanner_of X old.state)
  new_before m X = subst (λ (z : session_t). IsNew (scanner_of X z.state)) (sym I.same) (is_new i I.sound I.still_open (made_same ∙ m) X)

  -- its first step was made, now or before
  abbrev pub IsMade : session_t → Type 0
  IsMade s = ((old.state.made ≡ 0) × ((state : state_t) × Begins i.setting i.input (scanner_of (front i.setting i.input) old.state) (scanner_of (front i.setting i.input) state) × (s ≡ on_to old state)))
      ⊎ ((old.state.made ≢ 0) × (s ≡ old))

  pub has_begun : (s : session_t) → IsMade s → HasBegun i T s
  has_begun s (inl w) =
      let b : Begins i.setting i.input (scanner_in i) (scanner_of (front i.setting i.input) w.1.0) = subst (λ (z : session_t). Begins i.setting i.input (scanner_of (front i.setting i.input) z.state) (scanner_of (front i.setting i.input) w.1.0)) I.same w.1.1 in
      subst (λ (z : Text). HasBegun i z s) (sym I.is_front) (subst (λ (z : session_t). HasBegun i (front i.setting i.input) z) (ap (λ (z : session_t). on_to z w.1.0) (sym I.same) ∙ sym w.1.2)
      (begins_now i I.sound I.still_open (made_same ∙ w.0) w.1.0 b))
  has_begun s (inr w) = subst (λ (z : Text). HasBegun i z s) (sym I.is_front) (subst (λ (z : session_t). HasBegun i (front i.setting i.input) z) (sym I.same ∙ sym w.1)
      (begun_before i I.sound I.still_open (let m = made_same in let n = w.0 in omega (arith, m, n))))

  -- it can't be made
  pub stops_new : old.state.made ≡ 0 → (state : state_t) (g : Fault)
      → (let s = scanner_of (front i.setting i.input) old.state in let t = scanner_of (front i.setting i.input) state in
      (IsShort i.setting i.input s g ⊎ IsEnded i.setting i.input s t g) × IsStopped i.setting i.input s t) → StopsAfter i (on_to old state) [] g
  stops_new m state g w =
      let v = subst (λ (z : session_t). (let s = scanner_of (front i.setting i.input) z.state in let t = scanner_of (front i.setting i.input) state in
      (IsShort i.setting i.input s g ⊎ IsEnded i.setting i.input s t g) × IsStopped i.setting i.input s t)) I.same w in
      subst (λ (z : session_t). StopsAfter i (on_to z state) [] g) (sym I.same) (stops_after i (on_to i.session state) g (stops_first i I.sound I.still_open (made_same ∙ m) state g v.0 v.1))

-- the fault that stands for what is to come, by how many bytes the text has
pub over_as : (i : Scan) (text V : Text) (s : session_t) (len : ℕ) (f : Fault) → V ≡ text → len ≡ length (utf8 V.chars) → f ≡ fault_to_come len → IsOver i text s (fault_to_come (length (utf8 text.chars))) → IsOver i V s f
over_as i text V s len f e l q I = record {
  sound = I.sound;
  still_open = I.still_open;
  same = I.same;
  is_front = e ∙ I.is_front;
  is_refused = I.is_refused ∙ ap Some (ap (λ (z : Text). fault_to_come (length (utf8 z.chars))) (sym e) ∙ ap fault_to_come (sym l) ∙ sym q);
}
