use Rattle.std.proofs.Common.{◌≡◌, ◌||◌, ℕ, Bool, List, [], true, map, refl, sym, ap, ◌∙◌, arith}
use Rattle.std.proofs.Math.Path.{fun_ext}
use lib.Lanes.{mask_l}
use Rattle.yaml_lexeme.specs.declared.runs.class_t.{class_t}
use Rattle.yaml_lexeme.specs.declared.runs.class_t.TheVariants.{BLANK, GAP_BLANK, SPACE, BLANK_OR_BREAK, ALPHA, URI}
use Rattle.yaml_lexeme.specs.declared.runs.class_t.TheVariants.{DOUBLE, SINGLE, PLAIN, FLOW}
use Rattle.yaml_lexeme.specs.inside.Runs.{is_line, is_stop, is_special, may_break, marks_of, leads}
use Rattle.yaml_lexeme.proofs.ManyBytes.VectorLanes.{lanes_of, lanes_flag, either_flags, flags_masked}
use Rattle.yaml_lexeme.proofs.runs.stops.Goals as goal
use Rattle.yaml_lexeme.proofs.runs.stops.Goals.{in-DOUBLE, in-SINGLE, in-PLAIN, in-FLOW, in_default}

no_marks : (class : class_t) → (class ≡ DOUBLE → ⊥) → (class ≡ SINGLE → ⊥) → (class ≡ PLAIN → ⊥) → (class ≡ FLOW → ⊥)
    → marks_of class ≡ []
no_marks DOUBLE a b c d = absurd (a refl)
no_marks SINGLE a b c d = absurd (b refl)
no_marks PLAIN a b c d = absurd (c refl)
no_marks FLOW a b c d = absurd (d refl)
no_marks class a b c d = refl

line_stop : (class : class_t) → is_line class ≡ true → (b : ℕ) → (is_special class b || may_break b) ≡ is_stop class b
line_stop BLANK line b = absurd cc
line_stop (GAP_BLANK tabs) line b = absurd cc
line_stop SPACE line b = absurd cc
line_stop BLANK_OR_BREAK line b = absurd cc
line_stop ALPHA line b = absurd cc
line_stop (URI listed) line b = absurd cc
line_stop class line b = refl

pub returns : goal.returns
returns c =
    let v = c.args.v in
    let class = c.args.class in
    let long = c.fits-v.0 in
    let of : class_t → List ℕ = λ k. lanes_of (marks_of k) v in
    let marks : c.match-class.result ≡ lanes_of (marks_of class) v = elim c.match-class.branch [
      | in-DOUBLE w ↦ w.result-is ∙ sym (ap of w.in-DOUBLE.is)
      | in-SINGLE w ↦ w.result-is ∙ sym (ap of w.in-SINGLE.is)
      | in-PLAIN w ↦ w.result-is ∙ sym (ap of w.in-PLAIN.is)
      | in-FLOW w ↦ w.result-is ∙ sym (ap of w.in-FLOW.is)
      | in_default w ↦
          let k = w.in_default in
          let none = no_marks class k.not-DOUBLE k.not-SINGLE k.not-PLAIN k.not-FLOW in
          w.result-is ∙ sym (ap (λ ys. lanes_of ys v) none)
    ] in
    let special = marks ∙ lanes_flag (marks_of class) v long in
    flags_masked _ v _ (omega arith) (either_flags (is_special class) may_break v special (lanes_flag leads v long))
    ∙ ap (λ (p : ℕ → Bool). mask_l (map p v)) (fun_ext (line_stop class c.requires))
