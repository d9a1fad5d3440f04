use Rattle.std.proofs.Common.{ℕ, List, length, ap, refl, sym, ◌∙◌, subst}
use Rattle.yaml_text.specs.Fault.{Fault, fault_of}
use Rattle.yaml_scan.specs.inside.KeptParts.{StopsAfter}
use Rattle.yaml_scan.specs.inside.Stop.{fault_at}
use Rattle.yaml_scan.proofs.RunningCalls.FedBegins.{over_as}
use Rattle.yaml_scan.proofs.fed.give_over.Goals as goal
use Rattle.yaml_scan.proofs.fed.give_over.Goals.{in-Owned-1, in-Borrowed-1, in-Owned-2, in-Borrowed-2, in-Owned-3, in-Borrowed-3}

pub give_on-requires-clause-at : goal.give_on-requires-clause-at
give_on-requires-clause-at g c = let r = c.requires.at in (r.2.0, over_as r.2.0 r.0 c.view-text.result c.args.scanner.now.session (length c.bytes.result.now) (fault_of c.yaml_fault_to_come-to_come.result) (c.view-text.ensures r.0 r.1) (ap (λ (x : List ℕ). length x) c.bytes.ensures.utf8) c.yaml_fault_to_come-to_come.ensures r.2.1)

pub returns-in-Ok-clause-gives : goal.returns-in-Ok-clause-gives
returns-in-Ok-clause-gives g c = λ text kept i I.
    let J = over_as i text c.view-text.result c.args.scanner.now.session (length c.bytes.result.now) (fault_of c.yaml_fault_to_come-to_come.result) (c.view-text.ensures text kept) (ap (λ (x : List ℕ). length x) c.bytes.ensures.utf8) c.yaml_fault_to_come-to_come.ensures I in
    let w = c.in-Ok.ensures.gives i J in
    (c.give_on.new.session, (elim c.match-text.branch [ in-Owned-1 z ↦ z.scanner-is | in-Borrowed-1 z ↦ z.scanner-is ]), (w.0, w.1, w.2, w.3))

pub returns-then-waits-clause-gives : goal.returns-then-waits-clause-gives
returns-then-waits-clause-gives g c = λ text kept i I.
    let J = over_as i text c.view-text.result c.args.scanner.now.session (length c.bytes.result.now) (fault_of c.yaml_fault_to_come-to_come.result) (c.view-text.ensures text kept) (ap (λ (x : List ℕ). length x) c.bytes.ensures.utf8) c.yaml_fault_to_come-to_come.ensures I in
    let w = c.in-Err.ensures.gives i J in
    let m = c.if-waits.ensures.more refl in (
      c.waits.new.session,
      (elim c.match-text-2.branch [ in-Owned-2 z ↦ z.scanner-is | in-Borrowed-2 z ↦ z.scanner-is ]),
      (w.0, w.1, (c.give_on.new.session, fault_at c.in-Err.stop c.give_on.new.session.state.fault, w.2, m.0, (c.yaml_fault_to_come-to_come.result, J.is_refused, m.1))),
    )

pub returns-clause-gives : goal.returns-clause-gives
returns-clause-gives g c = λ text kept i I.
    let J = over_as i text c.view-text.result c.args.scanner.now.session (length c.bytes.result.now) (fault_of c.yaml_fault_to_come-to_come.result) (c.view-text.ensures text kept) (ap (λ (x : List ℕ). length x) c.bytes.ensures.utf8) c.yaml_fault_to_come-to_come.ensures I in
    let w = c.in-Err.ensures.gives i J in
    let m = c.if-waits.ensures.closed refl in
    let f = m.1.0 in
    let d = m.1.1 in (
      c.waits.new.session,
      (elim c.match-text-3.branch [ in-Owned-3 z ↦ z.scanner-is | in-Borrowed-3 z ↦ z.scanner-is ]),
      (w.0, w.1, (c.give_on.new.session, f, subst (λ (x : Fault). StopsAfter i c.give_on.new.session w.0 x) (sym d) w.2, (λ e. m.0 (sym (ap (λ (x : Fault). x.error) d) ∙ e)), m.1.2)),
    )
