use Rattle.std.proofs.Common.{◌≡◌, ◌++◌, ◌∷◌, [], ◌&&◌, ℕ, Bool, List, if◌then◌else◌, reverse, filter, map, not, length, arith, refl, ap, ◌∙◌}
use Rattle.std.proofs.lemmas.List.{length-map, length-reverse}
use Rattle.std.proofs.lemmas.List.Sums.{count_by-le-length, length-filter}
use Rattle.yaml_scan.specs.Groups.{Token}
use Rattle.yaml_scan.proofs.RunningQueue.GroupTokens.{ends_count}
use Rattle.yaml_scan.specs.declared.groups.block_t.TheVariants.{MAPPING, NONE}
use Rattle.yaml_scan.specs.inside.Opened.{is_new}
use Rattle.yaml_scan.specs.Groups.{end_at}
use Rattle.yaml_scan.specs.Groups.Token.{BlockEnd}
use Rattle.yaml_scan.specs.Levels.{stays}
use Rattle.yaml_scan.specs.inside.Queue.{ends_at}
use Rattle.yaml_scan.proofs.RunningStep.LevelStack.{filter_falls}
use Rattle.yaml_scan.proofs.follower.lay_candidate.Goals as goal
use Rattle.yaml_scan.proofs.follower.lay_candidate.Goals.{then-key, else-key}

pub is_new_level-opens-requires : goal.is_new_level-opens-requires
is_new_level-opens-requires c = let r = c.args.met in let e = c.close_levels-closed.ensures in
    rw (c.deref.ensures.value, e.levels) (filter_falls (stays r.in_flow r.kind r.new.start) (reverse c.args.levels.now.items) c.requires.falls)

pub returns-clause-ends : goal.returns-clause-ends
returns-clause-ends c = let r = c.args.met in let e = c.close_levels-closed.ensures in
    let n = e.none c.requires.last in
    let w : ends_at c.close_levels-closed.result.early r.new.start ++ ends_at c.close_levels-closed.result.ends r.new.start ≡ map (λ z. BlockEnd (end_at r.kind r.new.start r.new.start z)) (filter (λ z. not (stays r.in_flow r.kind r.new.start z)) (reverse c.args.levels.now.items)) = e.ends in
    rw (n, c.requires.last) at w

pub returns-clause-levels : goal.returns-clause-levels
returns-clause-levels c =
    let e = c.close_levels-closed.ensures in
    let r = c.args.met in
    let cs : List ℕ = reverse c.close_levels-closed.new.levels.items in
    let o : c.if-key.opens ≡ (c.args.key && is_new r.in_flow r.new.start.column cs) = elim c.if-key.branch [
      | then-key w ↦ w.opens-is ∙ w.is_new_level-opens.ensures ∙ ap (λ (l : List ℕ). is_new r.in_flow r.new.start.column (reverse l)) w.deref.ensures.value ∙ (rw w.if-key.true refl)
      | else-key w ↦ w.opens-is ∙ (rw w.if-key.false refl)
    ] in (
      c.close_levels-closed.new.levels.items,
      e.levels,
      c.open_level.ensures ∙ ap (λ (b : Bool). (if b then r.new.start.column ∷ [] else []) ++ cs) o,
      c.mapping_start.ensures ∙ ap (λ (b : Bool). if b then MAPPING else NONE) o,
    )

pub returns-clause-few : goal.returns-clause-few
returns-clause-few c =
    let r = c.args.met in
    let e = c.close_levels-closed.ensures in
    let n = e.none c.requires.last in
    let cs : List ℕ = reverse c.args.levels.now.items in
    let f : ℕ → Bool = λ z. not (stays r.in_flow r.kind r.new.start z) in
    let w : ends_at c.close_levels-closed.result.early r.new.start ++ ends_at c.close_levels-closed.result.ends r.new.start ≡ map (λ z. BlockEnd (end_at r.kind r.new.start r.new.start z)) (filter f cs) = e.ends in
    let v : ends_at c.close_levels-closed.result.ends r.new.start ≡ map (λ z. BlockEnd (end_at r.kind r.new.start r.new.start z)) (filter f cs) = rw n at w in
    let a = ap (λ (l : List Token). length l) v in
    let b = length-map (filter f cs) (λ z. BlockEnd (end_at r.kind r.new.start r.new.start z)) in
    let d = length-filter f cs in
    let k = count_by-le-length f cs in
    let m = length-reverse c.args.levels.now.items in
    let o = ends_count c.close_levels-closed.result.ends r.new.start in
    omega arith
