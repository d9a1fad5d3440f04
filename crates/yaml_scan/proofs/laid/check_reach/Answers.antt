use Rattle.std.proofs.Common.{◌⊎◌, ◌≤◌, ◌≡◌, ◌∙◌, ℕ, refl, ap, sym, subst, inl, inr, true, Option}
use Rattle.std.specs.Option.{is_some}
use Rattle.yaml_lexeme.specs.LexemeOf.{lexeme_of}
use Rattle.yaml_scan.specs.SourceOf.{source_of}
use Rattle.yaml_scan.specs.Step.{gap_end_of}
use Rattle.yaml_scan.specs.inside.Scanner.{scanner_of}
use Rattle.yaml_scan.specs.inside.Scanning.{lost_after, met_in}
use Rattle.yaml_scan.specs.inside.Slots.{Held, lost_held}
use Rattle.yaml_scan.specs.inside.TextReads.{IsRead}
use Rattle.yaml_scan.proofs.RunningStep.StepMoves.{read_in}
use Rattle.yaml_scan.proofs.laid.check_reach.Goals as goal
use Rattle.yaml_scan.proofs.laid.check_reach.Goals.{then-state-reach-via-then-state-reach, then-state-reach-via-else-state-reach+then-lost}

pub stop_after-requires : goal.stop_after-requires
stop_after-requires g c =
    let s = (scanner_of c.args.text.now c.args.state.now) in
    let q = c.args.met in
    let x = lexeme_of c.args.lexeme.now in
    let can = c.requires.0 in
    let stops : (s.near ≤ x.reach.index) ⊎ (is_some (lost_after s.limit s.slots (met_in s q) q.new x.reach) ≡ true) = elim c.then-state-reach.branch [
      | then-state-reach-via-then-state-reach w ↦ inl (w.if-state-reach.true)
      | then-state-reach-via-else-state-reach+then-lost w ↦ inr (ap (λ (o : Option Held). is_some (lost_held s.limit x.reach o)) (sym c.root_after.ensures) ∙ sym c.is_lost-lost.ensures ∙ w.if-lost.true)
    ] in (
      q,
      x,
      record {
        can = read_in g.before s q (record s { there = x.reach }) can;
        read = subst (λ (d : ℕ). IsRead s.text.chars q.kind d q.context.level (gap_end_of (source_of s.text.chars) g.before) x) can.depth (c.requires.1 (gap_end_of (source_of s.text.chars) g.before) can.met.gap_end);
        there = refl;
        stops = stops;
      },
      refl,
      refl,
    )
