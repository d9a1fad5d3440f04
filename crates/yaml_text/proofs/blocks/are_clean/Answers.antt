use Rattle.std.proofs.Common.{◌∙◌, sym, ap, arith, eqb-true, slice_index, ℕ}
use Rattle.yaml_text.specs.inside.Windows.{is_control, is_rare_lead, is_misplaced, is_suspect}
use Rattle.yaml_text.proofs.ManyBytes.WindowLanes.{Tests, either, none_pass, windows, length-all_windows, window_at, loaded}
use Rattle.yaml_text.proofs.blocks.are_clean.Goals as goal

pub returns : goal.returns
returns c = λ none k lt.
    let xs = c.args.bytes.now in
    let ts = windows 16 xs in
    let at = λ (d : ℕ). loaded d 16 xs in
    let first = at 0 (omega arith) in
    let second = at 1 (omega arith) in
    let control : Tests ts (λ t. is_control (slice_index t 0)) c.controls.result = record { is = c.controls.ensures ts first } in
    let rare : Tests ts (λ t. is_rare_lead (slice_index t 0) (slice_index t 1)) c.rare_leads.result = record { is = c.rare_leads.ensures ts first second } in
    let apart : Tests ts (λ t. is_misplaced (slice_index t 0) (slice_index t 1) (slice_index t 2) (slice_index t 3)) c.misplaced.result = record { is = c.misplaced.ensures ts first second (at 2 (omega arith)) (at 3 (omega arith)) } in
    ap is_suspect (sym (window_at 16 k xs lt)) ∙ none_pass 16 ts (omega arith) (length-all_windows 16 xs) (either ts control (either ts rare apart)) (eqb-true _ 0 none) k lt
