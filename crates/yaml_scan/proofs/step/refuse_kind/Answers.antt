use Rattle.std.proofs.Common.{◌≡◌, ◌∙◌, true, Bool, List, ℕ, Option, None, Some, refl, ap, sym, subst}
use Rattle.std.specs.Option.{is_some, option_copied}
use denote.Ref.{Bor}
use Rattle.yaml_scan.specs.inside.Slots.{Held}
use Rattle.yaml_scan.specs.inside.Scanner.{scanner_of}
use Rattle.yaml_scan.specs.inside.Scanning.{cleared_in, refused_in}
use Rattle.yaml_scan.proofs.RunningStep.StepTests.{met_there, none_or}
use Rattle.yaml_scan.proofs.step.refuse_kind.Goals as goal

some_copied : (o : Option (Bor (List ℕ))) → is_some o ≡ true → is_some (option_copied o) ≡ true
some_copied None e = e
some_copied (Some x) e = refl

pub stop_at_kind-requires : goal.stop_at_kind-requires
stop_at_kind-requires g c = let s = scanner_of c.args.text.now c.args.state.now in
    let some = some_copied c.refused_by.result (sym c.is_some.ensures ∙ c.if-is_some.true) in
    (c.requires, subst (λ (o : Option (List ℕ)). is_some o ≡ true) (c.refused_by.ensures c.args.text.now ∙ ap (λ (b : Bool). refused_in s c.args.in_flow c.args.kind b) c.is_key_allowed-allowed.ensures) some)

pub stop_at_start-requires : goal.stop_at_start-requires
stop_at_start-requires g c = let s = scanner_of c.args.text.now c.args.state.now in
    let refused : refused_in s c.args.in_flow c.args.kind c.is_key_allowed-allowed.result ≡ None = sym (c.refused_by.ensures c.args.text.now) ∙ ap option_copied (none_or c.refused_by.result (sym c.is_some.ensures ∙ c.if-is_some.false)) in
    let some = sym c.is_some-2.ensures ∙ c.if-is_some-2.true in (
      c.requires,
      (
        ap (λ (b : Bool). refused_in s c.args.in_flow c.args.kind b) (sym c.is_key_allowed-allowed.ensures) ∙ refused,
        subst (λ (o : Option Held). is_some o ≡ true) (c.cleared_by.ensures c.args.text.now ∙ ap (λ (b : Bool). cleared_in s c.args.in_flow c.args.kind b) c.is_key_allowed-allowed.ensures) some,
      ),
    )

pub returns : goal.returns
returns g c = let w = c.requires in let s = (scanner_of c.args.text.now c.args.state.now) in let a = c.is_key_allowed-allowed.ensures in
    let refused : refused_in s c.args.in_flow c.args.kind c.is_key_allowed-allowed.result ≡ None = sym (c.refused_by.ensures c.args.text.now) ∙ ap option_copied (none_or c.refused_by.result (sym c.is_some.ensures ∙ c.if-is_some.false)) in
    let cleared : cleared_in s c.args.in_flow c.args.kind c.is_key_allowed-allowed.result ≡ None = sym (c.cleared_by.ensures c.args.text.now) ∙ none_or c.cleared_by.result (sym c.is_some-2.ensures ∙ c.if-is_some-2.false) in (
      met_there g.before s c.args.in_flow w.passes c.args.kind w.is_kind (ap (λ (b : Bool). refused_in s c.args.in_flow c.args.kind b) (sym a) ∙ refused) (ap (λ (b : Bool). cleared_in s c.args.in_flow c.args.kind b) (sym a) ∙ cleared),
      refl,
    )
