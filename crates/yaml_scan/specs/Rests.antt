-- Where a scan rests, so that it can be taken up again there; and what two inputs that begin alike have in common.
use Rattle.std.specs.Prelude.{◌≡◌, ℕ, ◌+◌, ◌≤◌, false, List, ◌++◌, length, None}
use Rattle.yaml_text.specs.TextBytes.{AreChars}
use Rattle.yaml_scan.specs.Begins.{Begins}
use Rattle.yaml_scan.specs.Course.{ended, Input, next}
use Rattle.yaml_scan.specs.Cut.{IsRun}
use Rattle.yaml_scan.specs.Groups.{offline}
use Rattle.yaml_scan.specs.Laid.{Laid, reach}
use Rattle.yaml_scan.specs.Order.{IsHistory}
use Rattle.yaml_scan.specs.Settled.{before, waiting}
use Rattle.yaml_scan.specs.SourceOf.{source_of}
use Rattle.yaml_scan.specs.Step.{place_after, stale}

-- the scanner rests after H: no candidate is live, and the stream goes on
pub record Rests (limit : ℕ) (H : List Laid) : Type 0 where
  pub running : ended H ≡ false
  pub settled : waiting limit H ≡ None
  pub fresh : stale limit H (reach H) ≡ None

-- at rest all tokens are settled, and they are the first of those of every longer list
abbrev pub AllIsSettledAtRest : Type 0
AllIsSettledAtRest = (limit : ℕ) (later H : List Laid) → Rests limit H → IsHistory limit (later ++ H)
    → (before limit H ≡ offline H) × Begins (offline H) (before limit (later ++ H))

-- two inputs have the characters cs in common, and xs and ys come after these
pub record Share (cs xs ys : List ℕ) (a b : Input) : Type 0 where
  pub first : a.source ≡ source_of (cs ++ xs)
  pub second : b.source ≡ source_of (cs ++ ys)
  pub first_chars : AreChars (cs ++ xs)
  pub second_chars : AreChars (cs ++ ys)

-- what is read up to eight characters before the end of what they share is read of both
abbrev pub BeginningsAreShared : Type 0
BeginningsAreShared = (limit : ℕ) (cs xs ys : List ℕ) (a b : Input) (H : List Laid) → Share cs xs ys a b
    → IsRun (next a limit) limit H → place_after H + 8 ≤ length cs → IsRun (next b limit) limit H
