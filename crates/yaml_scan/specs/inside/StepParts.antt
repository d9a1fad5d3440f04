-- The parts of a step: what it gives once the gap was passed, once the kind is known, and once the lexeme was read.
use Rattle.std.specs.Prelude.{ℕ, List, ◌∷◌, nat_lt, Option, Some, None, Result, Ok, Err}
use Rattle.yaml_text.specs.declared.types.yaml_mark_t.{yaml_mark_t}
use Rattle.yaml_scan.specs.Kind.{Kind}
use Rattle.yaml_scan.specs.Laid.{Laid}
use Rattle.yaml_scan.specs.Depth.{depth}
use Rattle.yaml_scan.specs.Levels.{level, laid}
use Rattle.yaml_scan.specs.Source.{Source, Reading, Offence}
use Rattle.yaml_scan.specs.Step.{Outcome, stale, unless, refused, refuse, clears, start_at, lexeme_of, no_kind}
use Rattle.yaml_scan.specs.Step.Outcome.{Reads, Faults}

-- once the lexeme was read, or not
abbrev pub after_read : ℕ → List Laid → Kind → yaml_mark_t → Result Reading Offence → Outcome
after_read limit H k g (Err o) = Faults o
after_read limit H k g (Ok r) = unless (stale limit (laid limit H (lexeme_of k g r)
    ∷ H) r.reach) r.reach r.place (Reads (lexeme_of k g r))

-- the lexeme at place p or its offence, and the stale test at its reach
unfoldable pub read_step : Source → ℕ → List Laid → Kind → ℕ → Outcome
read_step S limit H k p = after_read limit H k (S.mark p) (S.read k (depth H) (level H k (start_at k (S.mark p))) p)

-- once the kind was found, or not
abbrev pub kind_step : Source → ℕ → List Laid → ℕ → Option Kind → Outcome
kind_step S limit H p None = Faults (no_kind (S.mark p) p)
kind_step S limit H p (Some k) = refuse (refused limit H k (S.mark p)) (S.mark p) p
    (unless (clears limit H k (S.mark p)) (start_at k (S.mark p)) p (read_step S limit H k p))

-- once the gap was passed, up to p
abbrev pub gap_step : Source → ℕ → List Laid → ℕ → Outcome
gap_step S limit H p = unless (stale limit H (S.mark p)) (S.mark p) p
    (kind_step S limit H p (S.kind (nat_lt 0 (depth H)) p))
