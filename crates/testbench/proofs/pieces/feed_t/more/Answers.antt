use Rattle.std.proofs.Common.{◌≡◌, ℕ, ◌+◌, ◌-◌, ◌≤◌, min, Bool, true, false, List, ◌++◌, length, nat_eq, take, drop, take-add, refl, ap, sym, ◌∙◌, subst, arith, inl, inr}
use Rattle.std.proofs.lemmas.Bool.{cases_Bool, eqb-true}
use Rattle.yaml_scan.specs.Fed.{comes}
use Rattle.yaml_scan.proofs.RunningCalls.FedGives.{more_comes}
use Rattle.testbench.proofs.pieces.feed_t.more.Goals as goal

pub returns-clause-fed : goal.returns-clause-fed
returns-clause-fed c =
    let r = c.requires.fed in
    let k = c.args.self.now.came in
    let m = c.min.result in
    let X = c.args.self.now.input.now in
    elim (cases_Bool (nat_eq k (length X))) [
      | inl all ↦ (let q = eqb-true k (length X) all in
          let e : k + m ≡ k = omega (arith, c.min.ensures) in
          (r.0, r.1 ∙ ap (λ (z : ℕ). take z X) (sym e), r.2 ∙ ap (λ (z : ℕ). nat_eq z (length X)) (sym e), r.3))
      | inr some ↦ (comes r.0 (take m (drop k X)) (nat_eq (k + m) (length X)), ap (λ (z : List ℕ). z ++ take m (drop k X)) r.1 ∙ sym (take-add k m X), refl, more_comes r.0 c.args.self.now.fed (take m (drop k X)) (nat_eq (k + m) (length X)) (r.2 ∙ some) r.3)
    ]
