use Rattle.std.proofs.Common.{◌≡◌, List, Err, rules, sym, subst, inl, inr}
use Rattle.yaml_text.specs.Fault.{Fault}
use Rattle.yaml_lexeme.specs.declared.problem.yaml_problem_t.{yaml_problem_t}
use Rattle.yaml_lexeme.specs.declared.problem.yaml_refusal_t.{yaml_refusal_t}
use Rattle.yaml_lexeme.specs.declared.problem.yaml_refusal_t.TheVariants.{OFFENCE}
use Rattle.yaml_lexeme.specs.Answers.{refused_at}
use Rattle.yaml_scan.specs.declared.met.met_t.{met_t}
use Rattle.yaml_scan.specs.inside.Scanner.{Scanner, scanner_of}
use Rattle.yaml_scan.specs.Kind.{Kind}
use Rattle.yaml_scan.specs.SourceOf.{source_of}
use Rattle.yaml_scan.specs.Step.{gap_end_of}
use Rattle.yaml_scan.specs.inside.Scanning.{CanRead, IsReadIn, Offends}
use Rattle.yaml_scan.specs.inside.TextReads.{IsOffence}
use Rattle.yaml_scan.specs.Laid.{Laid}
use Rattle.yaml_scan.proofs.RunningStep.StepTests.{offence_there}
use Rattle.yaml_scan.proofs.stop.stop_in_lexeme.Goals as goal

offends : (H : List Laid) (s : Scanner) (q : met_t) (k : Kind) (r : yaml_refusal_t) (p : yaml_problem_t) → CanRead H s q → q.kind ≡ k → r ≡ OFFENCE p → IsReadIn s k q.context s.there (Err r) → Offends H s (refused_at k s.gap_end s.there r)
offends H s q k r p c e o f = elim (f (gap_end_of (source_of s.text.chars) H) c.met.gap_end) [
  | inl m ↦ absurd (cc)
  | inr w ↦ offence_there H s q c (refused_at k s.gap_end s.there r) (subst (λ (z : Kind). IsOffence s.text.chars z q.context.depth q.context.level (gap_end_of (source_of s.text.chars) H) (refused_at k s.gap_end s.there r)) (sym e) w)
]

pub keep_nearest-requires : goal.keep_nearest-requires
keep_nearest-requires g c = let w = c.requires in let can = w.1 in
    (can.can, subst (λ (f : Fault). Offends g.before (scanner_of c.args.text.now c.args.state.now) f) (sym c.yaml_lexeme_fault-fault.ensures) (offends g.before (scanner_of c.args.text.now c.args.state.now) w.0 c.args.kind c.args.refusal c.in-OFFENCE.field-0 can w.2 c.in-OFFENCE.is w.3))

pub returns-in-MEMORY : goal.returns-in-MEMORY
returns-in-MEMORY g c = search rules
