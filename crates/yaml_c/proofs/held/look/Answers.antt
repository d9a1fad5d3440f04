use Rattle.std.proofs.Common.{sym, ◌∙◌, subst}
use Rattle.yaml_c.specs.inside.Batch.{Looks}
use Rattle.yaml_c.specs.declared.held.ahead_t.{ahead_t}
use Rattle.yaml_c.proofs.Batches.{none_ahead, scanned_so_far}
use Rattle.yaml_c.proofs.Looks.{looks_again, looks_at_fault, looks_at_token}
use Rattle.yaml_c.proofs.held.look.Goals as goal

pub yaml_kept_peek-requires : goal.yaml_kept_peek-requires
yaml_kept_peek-requires c =
    let s = c.requires.0 in
    let at = c.requires.2 in
    let here = scanned_so_far s _ _ at c.in-NONE.is in
    (s.parser, here.input_is ∙ c.requires.1, at.kept)

pub returns-then-yaml_kept_peek : goal.returns-then-yaml_kept_peek
returns-then-yaml_kept_peek c = λ s same at.
    let here = scanned_so_far s _ _ at c.in-NONE.is in
    let w = c.yaml_kept_peek.ensures.fault c.if-yaml_kept_peek.true s.parser (here.input_is ∙ same) at.kept in
    looks_at_fault s _ (none_ahead s _ _ at c.in-NONE.is) here w.0 w.2 w.1 w.3 w.4

pub returns-else-yaml_kept_peek : goal.returns-else-yaml_kept_peek
returns-else-yaml_kept_peek c = λ s same at.
    let here = scanned_so_far s _ _ at c.in-NONE.is in
    let w = c.yaml_kept_peek.ensures.shows c.if-yaml_kept_peek.false s.parser (here.input_is ∙ same) at.kept in
    subst (λ (z : ahead_t). Looks s c.yaml_kept_peek.new.kept z) (sym c.in-NONE.is)
    (looks_at_token s _ (none_ahead s _ _ at c.in-NONE.is) here w.0 w.1 w.2 w.3 w.4)

pub returns-in_default : goal.returns-in_default
returns-in_default c = λ s same at. looks_again s _ _ at c.in_default.not-NONE
