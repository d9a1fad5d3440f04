use Rattle.std.proofs.Common.{rules, ◌≡◌, ◌++◌, ◌∙◌, ap, ◌+◌, arith, List, ℕ, length, take, drop}
use lib.Count.{count_trailing_zeros}
use Rattle.std.proofs.lemmas.List.{take_all}
use Rattle.std.proofs.lemmas.List.Sums.{prefix_len-le-length}
use Rattle.std.proofs.Math.Seq.{take-append-add}
use Rattle.yaml_text.specs.inside.Singles.{is_single}
use Rattle.yaml_text.proofs.ManyBytes.UnitRuns.{AreUnits, all_single, some_single, not_all_single, singles_read}
use Rattle.yaml_text.proofs.utf16.push_units.Goals as goal

pub returns-then-found-eq0-clause-read : goal.returns-then-found-eq0-clause-read
returns-then-found-eq0-clause-read c =
    let v = c.narrow-units.result in
    let long : length v ≡ 16 = c.narrow-units.ensures.long in
    let some = all_single v c.ascii_others-found.result c.ascii_others-found.ensures c.if-found-eq0.true in
    let units : AreUnits c.args.big (drop c.args.at c.args.bytes.now) v = rw c.rest.ensures at c.narrow-units.ensures.units in
    let read = singles_read c.args.big c.args.bytes.now c.args.out.now.items v c.args.at 16 (λ i. omega (arith, c.type_inv.bytes i)) c.requires.read c.requires.room long (omega arith) units in
    let whole : take 16 v ≡ v = take_all 16 v (omega arith) in
    rw (c.in_ok-extend_from_slice.ensures.items, ← whole) read

pub unit_at-requires : goal.unit_at-requires
unit_at-requires c =
    let v = c.narrow-units.result in
    let some = some_single v c.ascii_others-found.result (omega (arith, c.narrow-units.ensures.long)) c.ascii_others-found.ensures (omega arith) in
    let few = not_all_single v c.ascii_others-found.result c.ascii_others-found.ensures (omega arith) in
    omega (arith, some, few, c.narrow-units.ensures.long)

pub returns-clause-read : goal.returns-clause-read
returns-clause-read c =
    let v = c.narrow-units.result in
    let text = c.args.out.now.items in
    let n = count_trailing_zeros 64 c.ascii_others-found.result in
    let long : length v ≡ 16 = c.narrow-units.ensures.long in
    let some = some_single v c.ascii_others-found.result (omega arith) c.ascii_others-found.ensures (omega arith) in
    let units : AreUnits c.args.big (drop c.args.at c.args.bytes.now) v = rw c.rest.ensures at c.narrow-units.ensures.units in
    let read = singles_read c.args.big c.args.bytes.now text v c.args.at n (λ i. omega (arith, c.type_inv.bytes i)) c.requires.read c.requires.room long (omega (arith, some)) units in
    let size : c.len-before.result ≡ length text = search (rules, c.len-before.ensures) in
    let kept : c.truncate.new.self.items ≡ text ++ take n v =
    c.truncate.ensures.items ∙ ap (λ (x : List ℕ). take (c.len-before.result + n) x) c.in_ok-extend_from_slice-2.ensures.items ∙ ap (λ k. take (k + n) (text ++ v)) size ∙ take-append-add text v n in
    rw kept read

pub returns-clause-most : goal.returns-clause-most
returns-clause-most c =
    let v = c.narrow-units.result in
    let long : length v ≡ 16 = c.narrow-units.ensures.long in
    let some = some_single v c.ascii_others-found.result (omega arith) c.ascii_others-found.ensures (omega arith) in
    omega (arith, some, prefix_len-le-length is_single v)
