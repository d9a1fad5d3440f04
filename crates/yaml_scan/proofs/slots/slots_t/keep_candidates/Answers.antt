use Rattle.std.proofs.Common.{◌≡◌, ◌∙◌, false, None, sym, refl, arith}
use Rattle.yaml_scan.specs.Kind.{is_candidate_kind}
use Rattle.yaml_scan.specs.inside.Slots.{nested_outer}
use Rattle.yaml_scan.proofs.History.KindTests.{other_no_start}
use Rattle.yaml_scan.proofs.RunningQueue.EmptySlots.{lowest-next}
use Rattle.yaml_scan.proofs.RunningQueue.NoCandidates.{all_empty, nested_none, none_given_up}
use Rattle.yaml_scan.proofs.RunningQueue.NoneAwaited.{lowest_front}
use Rattle.yaml_scan.proofs.slots.slots_t.keep_candidates.Goals as goal

pub returns-then-not-is_candidate_kind-clause-outer : goal.returns-then-not-is_candidate_kind-clause-outer
returns-then-not-is_candidate_kind-clause-outer c =
    let q : is_candidate_kind c.args.met.kind ≡ false = sym c.is_candidate_kind.ensures ∙ c.if-not-is_candidate_kind.true in
    let f = lowest_front c.args.self.now.outer.items c.args.self.now.top (c.requires.none c.if-self-eq0.true) in
    c.leave_at.ensures.outer ∙ (rw (none_given_up c.args.limit c.args.mark c.args.self.now.outer.items f.0, q) refl)

pub returns-then-not-is_candidate_kind-clause-top : goal.returns-then-not-is_candidate_kind-clause-top
returns-then-not-is_candidate_kind-clause-top c =
    let q : is_candidate_kind c.args.met.kind ≡ false = sym c.is_candidate_kind.ensures ∙ c.if-not-is_candidate_kind.true in
    let f = lowest_front c.args.self.now.outer.items c.args.self.now.top (c.requires.none c.if-self-eq0.true) in
    c.leave_at.ensures.top ∙ (rw (none_given_up c.args.limit c.args.mark c.args.self.now.outer.items f.0, q) refl)

pub returns-then-not-is_candidate_kind-clause-empty : goal.returns-then-not-is_candidate_kind-clause-empty
returns-then-not-is_candidate_kind-clause-empty c =
    let q : is_candidate_kind c.args.met.kind ≡ false = sym c.is_candidate_kind.ensures ∙ c.if-not-is_candidate_kind.true in
    let f = lowest_front c.args.self.now.outer.items c.args.self.now.top (c.requires.none c.if-self-eq0.true) in
    let n = nested_none c.args.met.kind c.args.self.now.outer.items (other_no_start c.args.met.kind q) f.0 in
    let e = all_empty c.leave_at.new.self.outer.items (rw c.leave_at.ensures.outer n.0) in
    let k = c.leave_at.ensures.empty in
    let o = c.leave_at.new.self.outer.ok.0 in
    omega arith

pub returns-then-not-is_candidate_kind-clause-awaited : goal.returns-then-not-is_candidate_kind-clause-awaited
returns-then-not-is_candidate_kind-clause-awaited c =
    let q : is_candidate_kind c.args.met.kind ≡ false = sym c.is_candidate_kind.ensures ∙ c.if-not-is_candidate_kind.true in
    let f = lowest_front c.args.self.now.outer.items c.args.self.now.top (c.requires.none c.if-self-eq0.true) in
    let n = nested_none c.args.met.kind c.args.self.now.outer.items (other_no_start c.args.met.kind q) f.0 in
    c.leave_at.ensures.awaited ∙ (rw (c.leave_at.ensures.outer, c.leave_at.ensures.top, n.1, lowest-next (nested_outer c.args.met.kind c.args.self.now.outer.items None) None n.0) refl)
