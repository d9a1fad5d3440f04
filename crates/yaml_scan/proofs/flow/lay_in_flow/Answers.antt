use Rattle.std.proofs.Common.{◌+◌, ◌∙◌, ℕ, Bool, true, refl, ap, sym, subst, length, arith}
use Rattle.yaml_text.specs.declared.types.yaml_mark_t.{yaml_mark_t}
use Rattle.yaml_lexeme.specs.Counted.{IsMarkOf}
use Rattle.yaml_lexeme.specs.LexemeOf.{lexeme_of}
use Rattle.yaml_scan.specs.Token.{yaml_token_t}
use Rattle.yaml_scan.specs.inside.Handed.{group_with, lone, read_to}
use Rattle.yaml_scan.specs.inside.Scanner.{scanner_of}
use Rattle.yaml_scan.specs.inside.Scanning.{CanLayAll}
use Rattle.yaml_scan.specs.inside.TextReads.{IsDecider}
use Rattle.yaml_scan.specs.declared.groups.block_t.TheVariants.{NONE}
use Rattle.yaml_scan.proofs.History.KindTests.{decider_no_start}
use Rattle.yaml_scan.proofs.RunningStep.FlowLaid.{alone_laid, both_laid}
use Rattle.yaml_scan.proofs.RunningStep.StepHanded.{decider_len, few_given}
use Rattle.yaml_scan.proofs.RunningQueue.NoCandidates.{none_at_all}
use Rattle.yaml_scan.proofs.RunningStep.TwoLaid.{read_place}
use Rattle.yaml_scan.proofs.RunningStep.UsualLaid.{none_waits}
use Rattle.yaml_scan.proofs.flow.lay_in_flow.Goals as goal

pub follower_in_flow-requires : goal.follower_in_flow-requires
follower_in_flow-requires g c = let r = c.requires.0 in
    subst (λ (m : yaml_mark_t). (p : ℕ) × IsMarkOf c.args.text.now.chars m p) r.1.0.0 (read_place g.before (scanner_of c.args.text.now c.args.state.now) c.args.read.met r.0 r.1.1 c.requires.1.0)

pub leave_at-requires : goal.leave_at-requires
leave_at-requires g c =
    let r = c.requires.0 in
    let s = scanner_of c.args.text.now c.args.state.now in
    let p = subst (λ (m : yaml_mark_t). (p : ℕ) × IsMarkOf c.args.text.now.chars m p) r.1.0.0 (read_place g.before s c.args.read.met r.0 r.1.1 c.requires.1.0) in
    let h = r.1.1.can.can.holds in
    record {
      start = decider_no_start true c.in-Some.decider.kind (c.in-Some.ensures p.0 p.1).decides;
      none = none_at_all g.before (s.made + 1) s h c.requires.1.1.1.0;
      empty = h.keys.empty;
      awaited = none_waits g.before s h c.requires.1.1.1.0;
    }

pub returns-else-not-may_be_laid_with-clause-laid : goal.returns-else-not-may_be_laid_with-clause-laid
returns-else-not-may_be_laid_with-clause-laid g c = λ d b e t p T.
    let q = c.requires.1 in
    let s = scanner_of c.args.text.now c.args.state.now in
    let x = read_to d b e c.args.read.reach c.args.read.passed_break in
    let y = lexeme_of c.in-Some.decider.lexeme in
    let k = c.in-Some.decider.kind in
    let flow = q.1.1.1.0 in
    let may = c.may_be_laid_with.ensures in
    let yes = c.if-not-may_be_laid_with.false in
    let slots = c.leave_at.ensures in
    both_laid g.before s c.args.read.met x p flow q.0 q.1.0 q.1.1.0 c.is_kept-kept.result c.is_kept-kept.ensures t T
    k y (λ n i. subst (λ (f : Bool). IsDecider c.args.text.now.chars f n k y) (sym flow) (c.in-Some.ensures n i)) (may.far yes) c.is_colon-colon.result c.is_colon-colon.ensures (λ v. may.key yes (sym c.is_colon-colon.ensures ∙ v)) c.token_of.result c.token_of.ensures
    c.leave_at.new.self slots.outer slots.top slots.empty slots.awaited c.is_allowed_after-state.result c.is_allowed_after-state.ensures q.1.1.1.1

pub returns-else-not-may_be_laid_with-clause-few : goal.returns-else-not-may_be_laid_with-clause-few
returns-else-not-may_be_laid_with-clause-few g c = λ t texts.
    let r = c.requires.0 in
    let w = r.0 in
    let s = scanner_of c.args.text.now c.args.state.now in
    let x = read_to w.token_data w.start_mark w.end_mark c.args.read.reach w.passed_break in
    let can = subst (λ (m : yaml_mark_t). CanLayAll g.before s c.args.read.met (read_to w.token_data w.start_mark w.end_mark m w.passed_break)) r.1.0.0 r.1.1 in
    let k = c.in-Some.decider.kind in
    let y = lexeme_of c.in-Some.decider.lexeme in
    let flow = c.requires.1.1.1.1.0 in
    let says = ap (λ (z : yaml_token_t). z.token_data) c.token_of.ensures in
    few_given (group_with 0 NONE c.is_colon-colon.result t) (lone c.token_of.result) (length s.layout.levels.items) c.args.read.texts refl refl refl (omega arith) texts
    (decider_len g.before s c.args.read.met x can c.requires.1.0 k y (λ n i. subst (λ (f : Bool). IsDecider c.args.text.now.chars f n k y) (sym flow) (c.in-Some.ensures n i)) _ says)

pub returns-else-kept-clause-laid : goal.returns-else-kept-clause-laid
returns-else-kept-clause-laid g c = λ d b e t p T.
    let q = c.requires.1 in
    let s = scanner_of c.args.text.now c.args.state.now in
    let x = read_to d b e c.args.read.reach c.args.read.passed_break in (
      c.args.read.met.kind,
      alone_laid g.before s c.args.read.met x p q.1.1.1.0 q.0 q.1.0 q.1.1.0 c.is_kept-kept.result c.is_kept-kept.ensures t T c.if-kept.false c.is_allowed_after-state-in-None.result c.is_allowed_after-state-in-None.ensures,
    )
