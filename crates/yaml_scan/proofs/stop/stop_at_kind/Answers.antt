use Rattle.std.proofs.Common.{◌≡◌, ◌∙◌, true, Bool, List, ℕ, None, Option, ap, sym, subst}
use Rattle.std.proofs.lemmas.Bool.{false≢true}
use Rattle.std.specs.Option.{is_some, option_copied}
use Rattle.yaml_text.specs.Fault.{Fault}
use Rattle.yaml_scan.specs.inside.Scanner.{scanner_of}
use Rattle.yaml_scan.specs.inside.Scanning.{Offends, allowed_in, refused_in}
use Rattle.yaml_scan.proofs.RunningStep.StepTests.{refused_there}
use Rattle.yaml_scan.proofs.stop.stop_at_kind.Goals as goal

pub keep_nearest-requires : goal.keep_nearest-requires
keep_nearest-requires g c = let w = c.requires.0.passes in let s = (scanner_of c.args.text.now c.args.state.now) in (
  w.can,
  subst (λ (f : Fault). Offends g.before s f) (sym c.make_scanner_fault-fault.ensures) (refused_there g.before s c.args.in_flow w c.args.kind c.requires.0.is_kind c.in-Some.problem.now
      (ap (λ (b : Bool). refused_in s c.args.in_flow c.args.kind b) (sym c.is_key_allowed-allowed.ensures) ∙ sym (c.refused_by.ensures c.args.text.now) ∙ ap option_copied c.in-Some.is)),
)

pub unreachable-requires : goal.unreachable-requires
unreachable-requires g c = let s = scanner_of c.args.text.now c.args.state.now in
    let none : refused_in s c.args.in_flow c.args.kind (allowed_in s c.args.in_flow) ≡ None =
    ap (λ (b : Bool). refused_in s c.args.in_flow c.args.kind b) (sym c.is_key_allowed-allowed.ensures) ∙ sym (c.refused_by.ensures c.args.text.now) ∙ ap option_copied c.in-None.is in
    false≢true (subst (λ (o : Option (List ℕ)). is_some o ≡ true) none c.requires.1)
