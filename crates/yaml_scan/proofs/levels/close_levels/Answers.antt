use Rattle.std.proofs.Common.{◌≡◌, ℕ, List, None, Some, true, false, is_some, take, ◌-◌, ◌<◌, vec_len, reverse, filter, length, not, sym, ap, ◌∙◌, arith}
use Rattle.yaml_scan.specs.Levels.{stays}
use Rattle.yaml_scan.specs.inside.Queue.{closing}
use Rattle.yaml_scan.proofs.RunningStep.LevelStack.{
  ends_early,
  all_kept,
  none_closed,
  ends_split,
  none_early,
  filter_falls,
  closed_top,
  counted_top,
  closes_one,
  one_popped,
}
use Rattle.yaml_scan.proofs.levels.close_levels.Goals as goal

pub returns-clause-levels : goal.returns-clause-levels
returns-clause-levels c =
    let n : closing c.args.met.in_flow c.args.met.kind c.args.met.new.start (reverse c.loop-last.levels.items) ≡ None = ap (λ (l : List ℕ). closing c.args.met.in_flow c.args.met.kind c.args.met.new.start (reverse l)) (sym c.deref.ensures.value) ∙ sym c.closing.ensures ∙ c.in_default.is in
    sym (all_kept c.args.met.in_flow c.args.met.kind c.args.met.new.start (reverse c.loop-last.levels.items) c.loop-last.invariant.falls n) ∙ c.loop-last.invariant.same

pub returns-clause-ends : goal.returns-clause-ends
returns-clause-ends c =
    let n : closing c.args.met.in_flow c.args.met.kind c.args.met.new.start (reverse c.loop-last.levels.items) ≡ None = ap (λ (l : List ℕ). closing c.args.met.in_flow c.args.met.kind c.args.met.new.start (reverse l)) (sym c.deref.ensures.value) ∙ sym c.closing.ensures ∙ c.in_default.is in
    let z = none_closed c.args.met.in_flow c.args.met.kind c.args.met.new.start (reverse c.loop-last.levels.items) c.loop-last.invariant.falls n in
    let cs : List ℕ = filter (λ l. not (stays c.args.met.in_flow c.args.met.kind c.args.met.new.start l)) (reverse c.args.levels.now.items) in
    let a = ap (λ (l : List ℕ). length (filter (ends_early c.args.met.kind c.args.gap_end c.args.met.new.start) l)) z in
    let b = ap (λ (l : List ℕ). length (filter (λ d. not (ends_early c.args.met.kind c.args.gap_end c.args.met.new.start d)) l)) z in
    let v = c.loop-last.invariant.early in
    let w = c.loop-last.invariant.late in
    let e : c.loop-last.early ≡ length (filter (ends_early c.args.met.kind c.args.gap_end c.args.met.new.start) cs) = omega arith in
    let f : c.loop-last.ends ≡ length (filter (λ d. not (ends_early c.args.met.kind c.args.gap_end c.args.met.new.start d)) cs) = omega arith in
    rw (e, f) (ends_split c.args.met.kind c.args.gap_end c.args.met.new.start cs (filter_falls (λ l. not (stays c.args.met.in_flow c.args.met.kind c.args.met.new.start l)) (reverse c.args.levels.now.items) c.requires))

pub returns-clause-none : goal.returns-clause-none
returns-clause-none c = λ s. let v = c.loop-last.invariant.early in let n = none_early c.args.met.kind c.args.gap_end c.args.met.new.start (filter (λ l. not (stays c.args.met.in_flow c.args.met.kind c.args.met.new.start l)) (reverse c.args.levels.now.items)) s in omega arith

pub loop-last-preserved-then-ends_early : goal.loop-last-preserved-then-ends_early
loop-last-preserved-then-ends_early c =
    let k = c.args.met.kind in
    let m = c.args.met.new.start in
    let xs = c.loop-last.levels.items in
    let closed : closing c.args.met.in_flow k m (reverse xs) ≡ Some c.in-Some.last = ap (λ (l : List ℕ). closing c.args.met.in_flow k m (reverse l)) (sym c.deref.ensures.value) ∙ sym c.closing.ensures ∙ c.in-Some.is in
    let s = closed_top c.args.met.in_flow k m xs c.loop-last.invariant.falls (ap is_some closed) in
    let t : ends_early k c.args.gap_end m c.in-Some.last ≡ true = sym c.ends_early.ensures ∙ c.if-ends_early.true in
    let a = rw t at (counted_top c.args.met.in_flow k m (ends_early k c.args.gap_end m) c.in-Some.last xs closed) in
    let b = rw t at (counted_top c.args.met.in_flow k m (λ d. not (ends_early k c.args.gap_end m d)) c.in-Some.last xs closed) in
    let v = c.loop-last.invariant.early in
    let w = c.loop-last.invariant.late in
    let n : length xs ≡ vec_len c.loop-last.levels = omega (arith, ap (λ (l : List ℕ). length l) c.deref.ensures.value, c.deref.ensures.len) in
    let o : 0 < length xs = closes_one c.args.met.in_flow k m c.in-Some.last xs closed in
    let p = one_popped c.pop.result (vec_len c.loop-last.levels) (vec_len c.pop.new.self) c.pop.ensures.cases (omega arith) in
    let z = c.loop-last.invariant.few in
    rw (c.pop.ensures.rest ∙ ap (λ (j : ℕ). take (j - 1) xs) (sym n)) (record {
      falls = s.falls;
      same = s.same ∙ c.loop-last.invariant.same;
      early = omega arith;
      late = omega arith;
      few = omega arith;
      room = c.pop.ensures.capacity ∙ c.loop-last.invariant.room;
    })

pub loop-last-preserved : goal.loop-last-preserved
loop-last-preserved c =
    let k = c.args.met.kind in
    let m = c.args.met.new.start in
    let xs = c.loop-last.levels.items in
    let closed : closing c.args.met.in_flow k m (reverse xs) ≡ Some c.in-Some.last = ap (λ (l : List ℕ). closing c.args.met.in_flow k m (reverse l)) (sym c.deref.ensures.value) ∙ sym c.closing.ensures ∙ c.in-Some.is in
    let s = closed_top c.args.met.in_flow k m xs c.loop-last.invariant.falls (ap is_some closed) in
    let t : ends_early k c.args.gap_end m c.in-Some.last ≡ false = sym c.ends_early.ensures ∙ c.if-ends_early.false in
    let a = rw t at (counted_top c.args.met.in_flow k m (ends_early k c.args.gap_end m) c.in-Some.last xs closed) in
    let b = rw t at (counted_top c.args.met.in_flow k m (λ d. not (ends_early k c.args.gap_end m d)) c.in-Some.last xs closed) in
    let v = c.loop-last.invariant.early in
    let w = c.loop-last.invariant.late in
    let n : length xs ≡ vec_len c.loop-last.levels = omega (arith, ap (λ (l : List ℕ). length l) c.deref.ensures.value, c.deref.ensures.len) in
    let o : 0 < length xs = closes_one c.args.met.in_flow k m c.in-Some.last xs closed in
    let p = one_popped c.pop.result (vec_len c.loop-last.levels) (vec_len c.pop.new.self) c.pop.ensures.cases (omega arith) in
    let z = c.loop-last.invariant.few in
    rw (c.pop.ensures.rest ∙ ap (λ (j : ℕ). take (j - 1) xs) (sym n)) (record {
      falls = s.falls;
      same = s.same ∙ c.loop-last.invariant.same;
      early = omega arith;
      late = omega arith;
      few = omega arith;
      room = c.pop.ensures.capacity ∙ c.loop-last.invariant.room;
    })
