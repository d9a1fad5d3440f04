-- The fault that is told is the one that ended the session.
use Rattle.std.proofs.Common.{◌≡◌, ◌++◌, subst, sym, ◌∙◌}
use Rattle.std.specs.Prelude.{OnOk}
use Rattle.yaml_text.specs.Fault.{Fault, fault_of}
use Rattle.yaml_scan.specs.Words.{HasLine}
use Rattle.yaml_scan.proofs.Texts.UnfinishedInputs.{some_fault}
use Rattle.yaml_listing.specs.Listing.{fault_line}
use Rattle.yaml_listing.proofs.following.follower_t.list_fault.Goals as goal

pub list_fault-requires : goal.list_fault-requires
list_fault-requires c =
    let r = c.requires.1 in
    subst HasLine (some_fault (fault_of c.in-Some.fault.now) c.requires.0 (c.in-Some.ensures r.0 r.1 ∙ r.2)) r.3

pub returns-in-Some : goal.returns-in-Some
returns-in-Some c f r =
    let same = sym (some_fault (fault_of c.in-Some.fault.now) f (c.in-Some.ensures r.0 r.1 ∙ r.2)) in
    subst (λ (z : Fault). OnOk c.list_fault.result (c.list_fault.new.out.items ≡ c.args.lines.now.items ++ fault_line z)) same
    c.list_fault.ensures.ok

pub returns-in-None : goal.returns-in-None
returns-in-None c f r = absurd (let z = c.in-None.ensures r.0 r.1 ∙ r.2 in cc)
