-- The lines of the tokens are those that the sink has, and that of the fault follows them.
use Rattle.std.proofs.Common.{Some, ◌++◌, ℕ, List, take, ap, ◌∙◌}
use Rattle.yaml_text.specs.Fault.{fault_of}
use Rattle.yaml_listing.specs.Listing.{fault_line}
use Rattle.yaml_listing.proofs.Scanned.{fault_has_line, lists_scan, tells_all}
use Rattle.yaml_listing.proofs.answer.list_scanned.Goals as goal

pub list_fault-requires : goal.list_fault-requires
list_fault-requires c =
    let given = rw c.in-Some.is at c.in_ok-fault.ensures.given in
    let sink = c.yaml_scan_to.new.sink in
    let told = take sink.len sink.bytes.items in
    let fault = Some (fault_of c.in-Some.fault) in
    let all = tells_all c.args.limit c.args.setting c.args.input.now told fault _ c.new-sink.ensures given in
    fault_has_line c.args.limit c.args.setting c.args.input.now told fault all

pub returns-in_ok-list_fault-in-Some : goal.returns-in_ok-list_fault-in-Some
returns-in_ok-list_fault-in-Some c =
    let given = rw c.in-Some.is at c.in_ok-fault.ensures.given in
    let sink = c.yaml_scan_to.new.sink in
    let told = take sink.len sink.bytes.items in
    let fault = fault_of c.in-Some.fault in
    let all = tells_all c.args.limit c.args.setting c.args.input.now told (Some fault) _ c.new-sink.ensures given in
    let more = c.in_ok-list_fault-in-Some.ensures.ok
    ∙ ap (λ (z : List ℕ). z ++ fault_line fault) c.into_lines-listing.ensures in
    lists_scan c.args.limit c.args.setting c.args.input.now told (Some fault) all c.list_fault.new.out.items more
