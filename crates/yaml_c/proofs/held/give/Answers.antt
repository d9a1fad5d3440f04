use Rattle.std.proofs.Common.{rules, ◌<◌, ◌^◌, length, refl, sym, ◌∙◌, subst, arith}
use Rattle.yaml_c.specs.inside.Batch.{GivesNext}
use Rattle.yaml_c.specs.declared.held.ahead_t.{ahead_t}
use Rattle.yaml_c.proofs.Batches.{gives_more, gives_none, gives_rest, gives_to_fault, none_ahead, scanned_so_far}
use Rattle.yaml_c.proofs.TokensPut.{Fits, same_rooms}
use Rattle.yaml_c.proofs.held.give.Goals as goal
use Rattle.yaml_c.proofs.held.give.Goals.{After-yaml_kept_scan_to}

-- the rooms are those of a new batch
fits_in : (c : After-yaml_kept_scan_to) → Fits c.args.rooms.now
fits_in c =
    let a = c.args.rooms.now in
    let few : length a.tokens.now < 2 ^ 63 = search rules in
    let short : length a.texts.now < 2 ^ 63 = search rules in
    record { tokens = few; texts = short; token_count = omega (arith, c.requires.none); text_len = omega (arith, c.requires.no_text) }

-- the stream end was given
pub returns-then-is_over : goal.returns-then-is_over
returns-then-is_over c =
    let a = c.args.rooms.now in
    let r = c.requires in
    let fits = fits_in (goal.at.returns-then-is_over c).After-yaml_kept_scan_to in
    let within = c.yaml_kept_scan_to.ensures.within (record { few = omega (arith, r.none); fit = omega (arith, r.no_text) }) in
    let first = scanned_so_far r.at.0 _ _ r.at.2 c.in-NONE.is in
    let n = same_rooms _ _ _ (c.yaml_kept_scan_to.ensures.more c.if-yaml_kept_scan_to.false r.at.0.parser (first.input_is ∙ r.at.1) r.at.2.kept).2.given in
    record {
      same_tokens = n.tokens;
      same_texts = n.texts;
      same_spare = n.spare;
      next = λ s same at.
          let here = scanned_so_far s _ _ at c.in-NONE.is in
          let w = c.yaml_kept_scan_to.ensures.more c.if-yaml_kept_scan_to.false s.parser (here.input_is ∙ same) at.kept in
          gives_rest s a _ _ fits r.none r.no_text within (none_ahead s _ _ at c.in-NONE.is) here w.0 w.1
          (sym (c.is_over.ensures w.0 w.1) ∙ c.if-is_over.true) w.2;
    }

-- a room is full
pub returns-else-is_over : goal.returns-else-is_over
returns-else-is_over c =
    let a = c.args.rooms.now in
    let r = c.requires in
    let fits = fits_in (goal.at.returns-else-is_over c).After-yaml_kept_scan_to in
    let within = c.yaml_kept_scan_to.ensures.within (record { few = omega (arith, r.none); fit = omega (arith, r.no_text) }) in
    let first = scanned_so_far r.at.0 _ _ r.at.2 c.in-NONE.is in
    let n = same_rooms _ _ _ (c.yaml_kept_scan_to.ensures.more c.if-yaml_kept_scan_to.false r.at.0.parser (first.input_is ∙ r.at.1) r.at.2.kept).2.given in
    record {
      same_tokens = n.tokens;
      same_texts = n.texts;
      same_spare = n.spare;
      next = λ s same at.
          let here = scanned_so_far s _ _ at c.in-NONE.is in
          let w = c.yaml_kept_scan_to.ensures.more c.if-yaml_kept_scan_to.false s.parser (here.input_is ∙ same) at.kept in
          subst (λ (z : ahead_t). GivesNext s a c.yaml_kept_scan_to.new.sink c.yaml_kept_scan_to.new.kept z) (sym c.in-NONE.is)
          (gives_more s a _ _ fits r.none r.no_text within (none_ahead s _ _ at c.in-NONE.is) here w.0 w.1
          (sym (c.is_over.ensures w.0 w.1) ∙ c.if-is_over.false) w.2 w.3);
    }

-- the fault comes next
pub returns-then-yaml_kept_scan_to : goal.returns-then-yaml_kept_scan_to
returns-then-yaml_kept_scan_to c =
    let a = c.args.rooms.now in
    let r = c.requires in
    let fits = fits_in (goal.at.returns-then-yaml_kept_scan_to c).After-yaml_kept_scan_to in
    let within = c.yaml_kept_scan_to.ensures.within (record { few = omega (arith, r.none); fit = omega (arith, r.no_text) }) in
    let first = scanned_so_far r.at.0 _ _ r.at.2 c.in-NONE.is in
    let n = same_rooms _ _ _ (c.yaml_kept_scan_to.ensures.fault c.if-yaml_kept_scan_to.true r.at.0.parser (first.input_is ∙ r.at.1) r.at.2.kept).4.given in
    record {
      same_tokens = n.tokens;
      same_texts = n.texts;
      same_spare = n.spare;
      next = λ s same at.
          let here = scanned_so_far s _ _ at c.in-NONE.is in
          let w = c.yaml_kept_scan_to.ensures.fault c.if-yaml_kept_scan_to.true s.parser (here.input_is ∙ same) at.kept in
          gives_to_fault s a _ _ fits r.none r.no_text within (none_ahead s _ _ at c.in-NONE.is) here w.0 w.2 w.1 w.3 w.4;
    }

-- it was known that the fault comes next
pub returns-in_default : goal.returns-in_default
returns-in_default c = record {
  same_tokens = refl;
  same_texts = refl;
  same_spare = refl;
  next = λ s same at. gives_none s c.args.rooms.now _ _ at c.in_default.not-NONE c.requires.more;
}
