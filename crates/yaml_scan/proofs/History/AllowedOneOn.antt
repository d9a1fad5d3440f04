-- Whether a key is allowed after one lexeme more, which the depth after it decides.
use Rattle.std.proofs.Common.{refl, inl, inr}
use Rattle.std.proofs.lemmas.Bool.{cases_Bool}
use Rattle.yaml_scan.specs.Kind.{is_flow_start, is_flow_end}
use Rattle.yaml_scan.specs.Allowed.{allowed}
use Rattle.yaml_scan.specs.Laws.{DepthGoesOn, AllowedGoesOn}
use Rattle.yaml_scan.proofs.History.DepthOneOn.{depth-start, depth-end, depth-same}
use Rattle.yaml_scan.proofs.History.KindTests.{flow_kinds}

pub depth_goes_on : DepthGoesOn
depth_goes_on i H = elim (cases_Bool (is_flow_start i.lexeme.kind)) [
  | inl s ↦ rw s (depth-start i H s (flow_kinds i.lexeme.kind s))
  | inr s ↦ elim (cases_Bool (is_flow_end i.lexeme.kind)) [
    | inl t ↦ rw (s, t) (depth-end i H s t)
    | inr t ↦ rw (s, t) (depth-same i H s t)
  ]
]

pub allowed_goes_on : AllowedGoesOn
unfolding allowed
allowed_goes_on i H g = rw (depth_goes_on i H) refl
