-- What was written so far begins the listing, whatever is read.
use Rattle.std.proofs.Common.{ℕ, List, false, refl, sym, subst, inr}
use Rattle.yaml_listing.specs.declared.outcome.tool_fault_t.TheVariants.{Memory}
use Rattle.yaml_listing.specs.inside.Following.{IsAt}
use Rattle.yaml_listing.proofs.Followed.{at_begins, if_error, more_read, no_read, settled_begins}
use Rattle.yaml_listing.proofs.following.follower_t.read.Goals as goal

pub returns-in-Ok-write-clause-cut : goal.returns-in-Ok-write-clause-cut
returns-in-Ok-write-clause-cut g c s start told at app =
    let w = c.in-Ok-write.ensures.wrote s start told at app in
    (w.0, w.1, settled_begins s false c.args.self.now.input.items c.write.new.self.fed w.0 c.in-Ok-write.field-0 w.2.0, λ e. w.2.1)

pub returns-in-Err-clause-cut : goal.returns-in-Err-clause-cut
returns-in-Err-clause-cut g c s start told at app =
    let w = c.in-Err.ensures.wrote s start told at app in
    (w.0, w.1, w.2, λ e. absurd (no_read _ _ refl c.in-Err.ensures.faults e))

pub returns-in_err-extend_from_slice-clause-cut : goal.returns-in_err-extend_from_slice-clause-cut
returns-in_err-extend_from_slice-clause-cut g c s start told at app =
    if_error c.from_residual.result _ _ c.from_residual.ensures.1 (λ y h.
    (told, app, at_begins s c.args.self.now.input.items c.args.self.now.fed told at false, λ e. absurd (no_read y Memory h (inr refl) e)))

pub returns-clause-at : goal.returns-clause-at
returns-clause-at g c s told at =
    subst (λ (z : List ℕ). IsAt s z c.args.self.now.fed told) (sym c.in_ok-extend_from_slice.ensures.items)
    (more_read s c.args.self.now.input.items _ c.args.self.now.fed told at)
