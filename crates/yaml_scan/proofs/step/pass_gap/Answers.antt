use Rattle.std.proofs.Common.{◌∙◌, sym, not}
use Rattle.std.specs.Prelude.{nat_eq}
use Rattle.yaml_scan.specs.SourceOf.{source_of}
use Rattle.yaml_scan.specs.Step.{gap_end_of}
use Rattle.yaml_scan.specs.inside.Scanner.{scanner_of}
use Rattle.yaml_scan.proofs.RunningStep.StepTests.{gap_end_can, gap_end_stays, gap_end_here, gap_lost, gap_passed}
use Rattle.yaml_scan.proofs.step.pass_gap.Goals as goal

pub stop_in_gap-requires : goal.stop_in_gap-requires
stop_in_gap-requires g c = let s = (scanner_of c.args.text.now c.args.state.now) in let can = c.requires.1.0 in (
  gap_end_can g.before s c.gap_end-gap_end.result can,
  (
    gap_end_here g.before s can (not (nat_eq g.row.IN_FLOW 0)) c.requires.1.1 c.gap_end-gap_end.result c.gap_end-gap_end.ensures,
    gap_lost g.before s can (not (nat_eq g.row.IN_FLOW 0)) c.requires.1.1 c.gap_end-gap_end.result c.gap_end-gap_end.ensures c.deref.result.now c.deref.ensures.value c.root_at-root.result c.root_at-root.ensures c.is_lost.result c.is_lost.ensures c.if-is_lost.true,
  ),
)

pub stop_without_kind-requires : goal.stop_without_kind-requires
stop_without_kind-requires g c = let s = (scanner_of c.args.text.now c.args.state.now) in let can = c.requires.1.0 in (
  (not (nat_eq g.row.IN_FLOW 0)),
  gap_passed g.before s can (not (nat_eq g.row.IN_FLOW 0)) c.requires.1.1 c.gap_end-gap_end.result c.gap_end-gap_end.ensures c.deref.result.now c.deref.ensures.value c.root_at-root.result c.root_at-root.ensures c.is_lost.result c.is_lost.ensures c.if-is_lost.false,
  sym (c.kind_at.ensures (gap_end_of (source_of s.text.chars) g.before) (gap_end_here g.before s can (not (nat_eq g.row.IN_FLOW 0)) c.requires.1.1 c.gap_end-gap_end.result c.gap_end-gap_end.ensures)) ∙ c.in-None.is,
)

pub returns-in-Some : goal.returns-in-Some
returns-in-Some g c = let s = (scanner_of c.args.text.now c.args.state.now) in let can = c.requires.1.0 in (
  record {
    passes = gap_passed g.before s can (not (nat_eq g.row.IN_FLOW 0)) c.requires.1.1 c.gap_end-gap_end.result c.gap_end-gap_end.ensures c.deref.result.now c.deref.ensures.value c.root_at-root.result c.root_at-root.ensures c.is_lost.result c.is_lost.ensures c.if-is_lost.false;
    is_kind = sym (c.kind_at.ensures (gap_end_of (source_of s.text.chars) g.before) (gap_end_here g.before s can (not (nat_eq g.row.IN_FLOW 0)) c.requires.1.1 c.gap_end-gap_end.result c.gap_end-gap_end.ensures)) ∙ c.in-Some.is;
  },
  gap_end_stays s c.gap_end-gap_end.result,
)
