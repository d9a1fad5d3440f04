use Rattle.std.proofs.Common.{◌≡◌, ◌∷◌, [], length, Some, None, ap, sym, ◌∙◌, refl, ℕ}
use Rattle.std.specs.Prelude.{slice_get}
use Rattle.std.proofs.lemmas.Option.{slice_get_read, slice_get_past}
use Rattle.yaml_scan.proofs.RunningQueue.EmptySlots.{lowest_there, lowest_after}
use Rattle.yaml_scan.proofs.slots.lowest.Goals as goal

pub returns-in-Some : goal.returns-in-Some
returns-in-Some c = let k = c.in-Some.ensures.lookup in let hs = c.args.outer.now in
    let e : slice_get hs c.args.empty ≡ Some c.in-Some.slot.now = slice_get_read hs (length hs) c.args.empty c.in-Some.slot.now refl (k.3.0) (k.1) in
    lowest_there hs (c.args.top ∷ []) c.in-Some.slot.now (ap (λ (n : ℕ). slice_get hs n) (sym c.requires) ∙ e)

pub returns-in-None : goal.returns-in-None
returns-in-None c = let hs = c.args.outer.now in
    let e : slice_get hs c.args.empty ≡ None = slice_get_past hs c.args.empty c.in-None.ensures.lookup.3 in
    lowest_after hs c.args.top (ap (λ (n : ℕ). slice_get hs n) (sym c.requires) ∙ e)
