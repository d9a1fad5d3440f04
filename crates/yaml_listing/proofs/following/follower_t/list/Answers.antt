-- The lines are those of the tokens and of the fault.
use Rattle.std.proofs.Common.{◌++◌, ℕ, List, false, true, ap, ◌∙◌, sym, subst, append_assoc}
use Rattle.yaml_listing.specs.inside.Following.{IsListing}
use Rattle.yaml_listing.specs.Listing.{fault_line}
use Rattle.yaml_listing.proofs.Followed.{fault_listed, listing_settled, more_listed, over_listed}
use Rattle.yaml_listing.proofs.following.follower_t.list.Goals as goal

pub list_fault-requires : goal.list_fault-requires
list_fault-requires c =
    let a = c.requires.at in
    let w = fault_listed a.0 c.args.last c.args.self.now.input.items c.give.new.self.fed _ c.in_ok-lines.why c.in-FAULT.is
    (c.in_ok-lines.ensures.listed a.0 a.1 a.2) in
    (w.0, w.1)

pub returns-in-OVER-clause-settled : goal.returns-in-OVER-clause-settled
returns-in-OVER-clause-settled c s told at =
    let given = c.args.self.now.input.items in
    let lines = told ++ c.in_ok-lines.lines.items in
    let all = over_listed s c.args.last given c.give.new.self.fed lines c.in_ok-lines.why c.in-OVER.is (c.in_ok-lines.ensures.listed s told at) in
    (all, listing_settled s c.args.last given lines false all)

pub returns-in_ok-list_fault-in-FAULT-clause-settled : goal.returns-in_ok-list_fault-in-FAULT-clause-settled
returns-in_ok-list_fault-in-FAULT-clause-settled c s told at =
    let given = c.args.self.now.input.items in
    let lines = c.in_ok-lines.lines.items in
    let w = fault_listed s c.args.last given c.give.new.self.fed (told ++ lines) c.in_ok-lines.why c.in-FAULT.is (c.in_ok-lines.ensures.listed s told at) in
    let more = c.in_ok-list_fault-in-FAULT.ensures w.0 w.1 in
    let all = subst (λ (z : List ℕ). IsListing s c.args.last given z true)
    (append_assoc told lines (fault_line w.0) ∙ ap (λ (z : List ℕ). told ++ z) (sym more)) w.2 in
    (all, listing_settled s c.args.last given _ true all)

pub returns-in_default : goal.returns-in_default
returns-in_default c = record {
  settled = λ s told at. (let w = more_listed s c.args.last c.args.self.now.input.items c.give.new.self.fed
      (told ++ c.in_ok-lines.lines.items) c.in_ok-lines.why c.in_default.not-OVER c.in_default.not-FAULT
      (c.in_ok-lines.ensures.listed s told at) in ((w.0, w.1), w.2));
  same = c.in_ok-lines.ensures.same;
  fault = tt;
}
