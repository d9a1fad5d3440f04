use Rattle.std.proofs.Common.{◌≡◌, ◌<◌, ◌∙◌, true, not, sym, ap, refl, arith}
use Rattle.std.proofs.lemmas.Bool.Decides.{nat_tests}
use lib.Count.{count_trailing_zeros}
use Rattle.std.specs.List.{slice_index}
use Rattle.yaml_text.proofs.ManyBytes.VectorRuns.{run_stops}
use Rattle.yaml_lexeme.proofs.ManyBytes.VectorMasks.{stop_inside}
use Rattle.yaml_lexeme.specs.inside.ShortRuns.{ends, is_mark}
use Rattle.yaml_lexeme.proofs.short.short_len.Goals as goal
use Rattle.yaml_lexeme.proofs.short.short_len.Goals.{Else-found-eq0, else-text-n-ne34-via-then-text-n-ne34+else-text-n-ne92, else-text-n-ne34-via-else-text-n-ne34}

inside : (c : Else-found-eq0) → count_trailing_zeros 64 c.ends-found.result < 16
inside c =
    let w = stop_inside ends c.args.text.now 0 16 (omega (arith, c.if-text-lt-STAGE.false)) (omega arith) (omega (arith, c.ends-found.ensures, c.if-found-eq0.false)) in
    let e = ap (count_trailing_zeros 64) c.ends-found.ensures in
    omega (arith, w, e)

pub bounds-text-n : goal.bounds-text-n
bounds-text-n c = omega (arith, inside (goal.at.bounds-text-n c).Else-found-eq0, c.if-text-lt-STAGE.false)

pub bounds-text-n-then-text-n-ne34 : goal.bounds-text-n-then-text-n-ne34
bounds-text-n-then-text-n-ne34 c = omega (arith, inside (goal.at.bounds-text-n-then-text-n-ne34 c).Else-found-eq0, c.if-text-lt-STAGE.false)

pub returns : goal.returns
returns c =
    let found = c.ends-found in
    let n = count_trailing_zeros 64 found.result in
    let run = run_stops ends (λ b. not (ends b)) (λ x. refl) c.args.text.now 0 16 (omega (arith, c.if-text-lt-STAGE.false)) (omega arith) (omega (arith, found.ensures, c.if-found-eq0.false)) ∙ ap (count_trailing_zeros 64) (sym found.ensures) in
    let mark : is_mark (slice_index c.args.text.now n) ≡ true = elim c.else-text-n-ne34.branch [
      | else-text-n-ne34-via-then-text-n-ne34+else-text-n-ne92 w ↦ grind (arith, nat_tests, w.if-text-n-ne92.false)
      | else-text-n-ne34-via-else-text-n-ne34 w ↦ grind (arith, nat_tests, w.if-text-n-ne34.false)
    ] in
    record { most = omega (arith, inside (goal.at.returns c).Else-found-eq0); value = λ h. (sym run, mark) }
