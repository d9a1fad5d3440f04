-- The lines of the tokens that a call gives are the next ones.
use Rattle.std.proofs.Common.{◌++◌, ℕ, List, refl, sym, ap, ◌∙◌}
use Rattle.yaml_listing.specs.Listing.{token_lines}
use Rattle.yaml_listing.proofs.Followed.{fed_now, given_now, listed, p}
use Rattle.yaml_listing.proofs.following.follower_t.give.Goals as goal

pub yaml_fed_scan_to-why-requires-clause-at : goal.yaml_fed_scan_to-why-requires-clause-at
yaml_fed_scan_to-why-requires-clause-at c =
    let a = c.requires.at in
    let given = c.args.self.now.input.items in
    let k = c.args.self.now.fed in (
      p a.0 given k a.1 c.args.last a.2,
      given_now a.0 given k a.1 c.args.last a.2 ∙ sym c.deref.ensures.value,
      refl,
      fed_now a.0 given k a.1 c.args.last a.2,
    )

pub returns-clause-listed : goal.returns-clause-listed
returns-clause-listed c s told at =
    let given = c.args.self.now.input.items in
    let k = c.args.self.now.fed in
    let last = c.args.last in
    let lines = c.in_ok-lines.ensures.lines in
    listed s given k told last at c.yaml_fed_scan_to-why.new.fed c.in_ok-lines.lines.items _ _ c.yaml_fed_scan_to-why.result
    (c.yaml_fed_scan_to-why.ensures.gives (p s given k told last at)
    (given_now s given k told last at ∙ sym c.deref.ensures.value) refl (fed_now s given k told last at))
    (λ tokens took. lines.1 ∙ (took lines.0).1 ∙ ap (λ (z : List ℕ). z ++ token_lines tokens) c.new-sink.ensures.none)
    (λ n m lacks. lacks)
