use Rattle.std.proofs.Common.{◌≡◌, ◌/◌, ◌==◌, Bool, true, false, not, eqb-true, rules, length, ◌<◌, ◌≤◌, ◌^◌, ◌+◌, refl, sym, ap, ◌∙◌, arith, ℕ, List}
use Rattle.std.proofs.lemmas.Bool.{true≢false, ne_eqb}
use Rattle.std.proofs.lemmas.Simd.{length-chunk}
use Rattle.std.proofs.lemmas.List.Sums.{prefix_len-le-length}
use lib.Count.{count_trailing_zeros}
use lib.Lanes.{chunk}
use Rattle.std.specs.List.{count_by}
use Rattle.yaml_lexeme.specs.inside.Runs.{is_stop, is_quiet, begins, is_wide}
use Rattle.yaml_text.proofs.ManyBytes.VectorRuns.{run_through, run_stops}
use Rattle.yaml_lexeme.proofs.ManyBytes.VectorMasks.{stop_within, stop_inside}
use Rattle.yaml_lexeme.proofs.ManyBytes.CharacterCounts.{all_counted, count_stops, count_goes, count_small, count_part}
use Rattle.yaml_lexeme.proofs.runs.quiet_bytes.Goals as goal
use Rattle.yaml_lexeme.proofs.runs.quiet_bytes.Goals.{Then-found-ne0}

stop : (c : Then-found-ne0) → count_trailing_zeros 64 c.stops-found.result ≤ 16
stop c =
    let found = c.stops-found in
    let w = stop_within (is_stop c.args.class) c.args.text.now c.wide.i 16 (omega arith) (omega arith) (omega (arith, found.ensures)) in
    let e = ap (count_trailing_zeros 64) found.ensures in
    omega (arith, w, e)

pub starts_before-requires-clause-few : goal.starts_before-requires-clause-few
starts_before-requires-clause-few c = omega (arith, stop (goal.at.starts_before-requires-clause-few c).Then-found-ne0)

pub overflow_add-result-then-found-ne0-2 : goal.overflow_add-result-then-found-ne0-2
overflow_add-result-then-found-ne0-2 c =
    let small = count_small begins (count_trailing_zeros 64 c.stops-found.result) (chunk c.wide.i 16 c.args.text.now) in
    let room : length c.args.text.now < 2 ^ 63 = search rules in
    omega (arith, c.starts_before.ensures, small, stop (goal.at.overflow_add-result-then-found-ne0-2 c).Then-found-ne0, c.wide.invariant.fewer, room)

pub returns-then-found-ne0 : goal.returns-then-found-ne0
returns-then-found-ne0 c =
    let found = c.stops-found in
    let k = count_trailing_zeros 64 found.result in
    let run = run_stops (is_stop c.args.class) (is_quiet c.args.class) (λ x. refl) c.args.text.now c.wide.i 16 (omega arith) (omega arith) (omega (arith, found.ensures)) ∙ ap (count_trailing_zeros 64) (sym found.ensures) in
    record {
      bytes = omega (arith, run, c.wide.invariant.run);
      chars = count_stops begins c.args.text.now c.wide.i k c.wide.n c.starts_before.result c.wide.invariant.chars (stop (goal.at.returns-then-found-ne0 c).Then-found-ne0) c.starts_before.ensures;
      bound = omega (arith, run, c.wide.invariant.run, prefix_len-le-length (is_quiet c.args.class) c.args.text.now);
      there = λ yes. let inside = stop_inside (is_stop c.args.class) c.args.text.now c.wide.i 16 (omega arith) (omega arith) (omega (arith, found.ensures)) in omega (arith, inside, ap (count_trailing_zeros 64) found.ensures);
    }

flipped : (b : Bool) → not b ≡ false → b ≡ true
flipped true e = refl
flipped false e = absurd (true≢false e)

one_begins : (x : ℕ) → is_wide x ≡ false → begins x ≡ true
one_begins x narrow =
    let low = eqb-true (x / 128) 0 (flipped (x / 128 == 0) narrow) in
    ap not (ne_eqb (x / 64) 2 (λ e. omega (arith, e, low)))

pub returns-then-wide-eq0 : goal.returns-then-wide-eq0
returns-then-wide-eq0 c =
    let found = c.stops-found in
    let d = c.args.text.now in
    let k = count_trailing_zeros 64 found.result in
    let run = run_stops (is_stop c.args.class) (is_quiet c.args.class) (λ x. refl) d c.wide.i 16 (omega arith) (omega arith) (omega (arith, found.ensures)) ∙ ap (count_trailing_zeros 64) (sym found.ensures) in
    let few = stop (goal.at.returns-then-wide-eq0 c).Then-found-ne0 in
    let all = all_counted is_wide begins one_begins k (chunk c.wide.i 16 d) (omega (arith, few, length-chunk c.wide.i 16 d (omega arith))) (sym c.wide-then-found-ne0.ensures ∙ c.if-wide-eq0.true) in
    record {
      bytes = omega (arith, run, c.wide.invariant.run);
      chars = count_stops begins d c.wide.i k c.wide.n k c.wide.invariant.chars few (sym all);
      bound = omega (arith, run, c.wide.invariant.run, prefix_len-le-length (is_quiet c.args.class) d);
      there = λ no. absurd (true≢false (sym no));
    }

pub wide-preserved : goal.wide-preserved
wide-preserved c =
    let run = run_through (is_stop c.args.class) (is_quiet c.args.class) (λ x. refl) c.args.text.now c.wide.i 16 (omega arith) (omega (arith, c.stops-found.ensures)) in
    let goes = count_goes begins c.args.text.now c.wide.i c.wide.n c.starts.result c.wide.invariant.chars c.starts.ensures in
    record {
      run = omega (arith, run, c.wide.invariant.run);
      within = omega arith;
      chars = goes;
      fewer = omega (arith, goes, count_small begins (c.wide.i + 16) c.args.text.now);
    }

pub part-requires-clause-order : goal.part-requires-clause-order
part-requires-clause-order c = omega (arith, c.slow_end-end.ensures)

pub part-requires-clause-within : goal.part-requires-clause-within
part-requires-clause-within c = omega (arith, c.slow_end-end.ensures, c.wide.invariant.run, prefix_len-le-length (is_quiet c.args.class) c.args.text.now)

pub returns-clause-chars : goal.returns-clause-chars
returns-clause-chars c =
    let s = c.count_chars.ensures.value ∙ ap (λ (x : List ℕ). count_by begins x) c.part.ensures in
    count_part begins c.args.text.now c.wide.i c.slow_end-end.result c.wide.n c.count_chars.result c.wide.invariant.chars (omega (arith, c.slow_end-end.ensures)) s

pub returns-clause-bound : goal.returns-clause-bound
returns-clause-bound c = omega (arith, c.slow_end-end.ensures, c.wide.invariant.run, prefix_len-le-length (is_quiet c.args.class) c.args.text.now)
