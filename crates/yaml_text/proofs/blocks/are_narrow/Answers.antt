use Rattle.std.proofs.Common.{ℕ, ◌<◌, ◌≡◌, ◌&&◌, true, drop, get_or, sym, ap, ◌∙◌, arith, eqb-true}
use Rattle.yaml_text.specs.inside.Windows.{is_bounded, is_paired}
use Rattle.yaml_text.proofs.ManyBytes.WindowLanes.{Tests, both, all_pass, windows, length-all_windows, window_at, loaded}
use Rattle.yaml_text.proofs.ManyBytes.NarrowLanes.{are_four_narrow, four_narrow}
use Rattle.yaml_text.proofs.blocks.are_narrow.Goals as goal

pub returns : goal.returns
returns c = λ none.
    let xs = c.args.bytes.now in
    let ts = windows 16 xs in
    let at = λ (d : ℕ). loaded d 16 xs in
    let a = at 0 (omega arith) in
    let b = at 16 (omega arith) in
    let d = at 32 (omega arith) in
    let e = at 48 (omega arith) in
    let bounded : Tests ts (λ t. (is_bounded (get_or t 0 0) && is_bounded (get_or t 16 0)) && (is_bounded (get_or t 32 0) && is_bounded (get_or t 48 0))) c.bounded.result = record { is = c.bounded.ensures ts a b d e } in
    let one : Tests ts (λ t. is_paired (get_or t 0 0) (get_or t 1 0)) c.paired.result = record { is = c.paired.ensures 0 1 ts a (at 1 (omega arith)) } in
    let two : Tests ts (λ t. is_paired (get_or t 16 0) (get_or t 17 0)) c.paired-2.result = record { is = c.paired-2.ensures 16 17 ts b (at 17 (omega arith)) } in
    let three : Tests ts (λ t. is_paired (get_or t 32 0) (get_or t 33 0)) c.paired-3.result = record { is = c.paired-3.ensures 32 33 ts d (at 33 (omega arith)) } in
    let four : Tests ts (λ t. is_paired (get_or t 48 0) (get_or t 49 0)) c.paired-4.result = record { is = c.paired-4.ensures 48 49 ts e (at 49 (omega arith)) } in
    let test = both ts bounded (both ts (both ts one two) (both ts three four)) in
    let all : (i : ℕ) → i < 16 → are_four_narrow (drop i xs) ≡ true = λ i lt. ap are_four_narrow (sym (window_at 16 i xs lt)) ∙ all_pass 16 ts (omega arith) (length-all_windows 16 xs) test (eqb-true _ 0 none) i lt in
    four_narrow xs all
