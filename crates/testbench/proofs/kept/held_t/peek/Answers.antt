use Rattle.std.proofs.Common.{◌≡◌, ◌∙◌, ap, inl, inr}
use Rattle.std.proofs.lemmas.Bool.{cases_Bool}
use Rattle.yaml_scan.specs.Decoded.{decoded_input}
use Rattle.yaml_scan.specs.Headline.{Calls}
use Rattle.yaml_scan.specs.Parser.{Parser}
use Rattle.yaml_scan.specs.Session.{Answer}
use Rattle.yaml_scan.specs.Session.Call.{PEEK}
use Rattle.testbench.proofs.kept.held_t.peek.Goals as goal

-- a call leaves the input as it is
same_input : (p q : Parser) (a : Answer) → Calls decoded_input PEEK p a q → q.input ≡ p.input
same_input p q a (inl w) = ap (λ (z : Parser). z.input) w.1
same_input p q a (inr w) = ap (λ (z : Parser). z.input) w.1.is

pub returns : goal.returns
returns c = let r = c.requires in let e = c.yaml_kept_peek.ensures in elim (cases_Bool c.yaml_kept_peek.result) [
  | inl faulty ↦ (let w = e.fault faulty r.0 r.1 r.2 in (w.0, w.4.input ∙ r.1, w.1))
  | inr shown ↦ (let w = e.shows shown r.0 r.1 r.2 in (w.0, same_input r.0 w.0 _ w.2 ∙ r.1, w.1))
]
