use Rattle.std.proofs.Common.{◌≡◌, ◌∙◌, true, Bool, None, Option, ap, sym, subst, Some}
use Rattle.std.proofs.lemmas.Bool.{false≢true}
use Rattle.std.specs.Option.{is_some}
use Rattle.yaml_text.specs.declared.types.yaml_mark_t.{yaml_mark_t}
use Rattle.yaml_text.specs.Fault.{scanner_fault}
use Rattle.yaml_scan.specs.Step.{no_colon, in_simple_key}
use Rattle.yaml_scan.specs.inside.Scanner.{scanner_of}
use Rattle.yaml_scan.specs.inside.Slots.{Held}
use Rattle.yaml_scan.specs.inside.Scanning.{Offends, allowed_in, cleared_in}
use Rattle.yaml_scan.proofs.RunningStep.StepTests.{cleared_there, gap_end_line}
use Rattle.yaml_scan.proofs.stop.stop_at_start.Goals as goal

pub start_after-requires : goal.start_after-requires
start_after-requires g c = let w = c.requires.0.passes in gap_end_line g.before (scanner_of c.args.text.now c.args.state.now) w.can.small w.gap_end

pub stop_without-requires : goal.stop_without-requires
stop_without-requires g c = let w = c.requires.0.passes in let s = (scanner_of c.args.text.now c.args.state.now) in (
  w.can,
  subst (λ (m : yaml_mark_t). Offends g.before s (scanner_fault no_colon m (Some in_simple_key) c.in-Some.held.start)) (sym c.start_after.ensures)
      (cleared_there g.before s c.args.in_flow w c.args.kind c.requires.0.is_kind c.requires.1.0 c.in-Some.held (ap (λ (b : Bool). cleared_in s c.args.in_flow c.args.kind b) (sym c.is_key_allowed-allowed.ensures) ∙ sym (c.cleared_by.ensures c.args.text.now) ∙ c.in-Some.is)),
)

pub unreachable-requires : goal.unreachable-requires
unreachable-requires g c = let s = scanner_of c.args.text.now c.args.state.now in
    let none : cleared_in s c.args.in_flow c.args.kind (allowed_in s c.args.in_flow) ≡ None =
    ap (λ (b : Bool). cleared_in s c.args.in_flow c.args.kind b) (sym c.is_key_allowed-allowed.ensures) ∙ sym (c.cleared_by.ensures c.args.text.now) ∙ c.in-None.is in
    false≢true (subst (λ (o : Option Held). is_some o ≡ true) none c.requires.1.1)
