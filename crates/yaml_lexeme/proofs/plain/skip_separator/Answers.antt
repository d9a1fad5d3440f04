use Rattle.std.proofs.Common.{◌≡◌, ◌||◌, true, false, refl, ap, length, arith}
use Rattle.yaml_lexeme.proofs.Places.PlaceMoves.{after_run_more, length_one, length_skip}
use Rattle.yaml_lexeme.proofs.Readers.PlainLinks.{Passes, passes_more, passes_spaces, passes_none, passes_all, takes_found}
use Rattle.yaml_lexeme.specs.Classes.{is_white}
use Rattle.yaml_lexeme.specs.Fold.{fold}
use Rattle.yaml_lexeme.specs.Place.{Place, first, run, run_len, after_run}
use Rattle.yaml_lexeme.specs.Plain.{separator}
use Rattle.yaml_lexeme.specs.inside.Words.{is_bad_tab}
use Rattle.yaml_text.specs.Classes.{is_break}
use Rattle.yaml_lexeme.specs.declared.runs.class_t.TheVariants.{SPACE}
use Rattle.yaml_lexeme.specs.inside.Runs.{class_test}
use Rattle.yaml_lexeme.proofs.plain.skip_separator.Goals as goal

pub run-init : goal.run-init
run-init c = record { tab = refl; end = refl }

pub returns-then-is_bad_tab : goal.returns-then-is_bad_tab
returns-then-is_bad_tab c =
    let p = c.run.cursor in
    let space : is_white (first p) ≡ true = cc in
    let tab : is_bad_tab c.args.least c.run.broken p ≡ true = cc in
    rw c.offence.ensures (passes_none c.args.least c.run.broken p c.args.cursor.now space tab c.run.invariant)

pub run-preserved : goal.run-preserved
run-preserved c =
    let p = c.run.cursor in
    let space : is_white (first p) ≡ true = cc in
    let fine : is_bad_tab c.args.least c.run.broken p ≡ false = cc in
    let same : c.is_break-broken.result ≡ is_break (first p) = cc in
    let next : Passes c.args.least (c.run.broken || c.is_break-broken.result) c.advance.new.self c.args.cursor.now = rw (c.advance.ensures, same) (passes_more c.args.least c.run.broken p c.args.cursor.now space fine c.run.invariant) in
    rw c.skip_run.ensures (passes_spaces c.args.least (c.run.broken || c.is_break-broken.result) c.advance.new.self c.args.cursor.now next)

pub run-smaller : goal.run-smaller
run-smaller c =
    let p = c.run.cursor in
    let space : is_white (first p) ≡ true = cc in
    omega (arith, length_one p, (after_run_more is_white p space refl).0, ap (λ (q : Place). length q.rest) c.advance.ensures, ap (λ (q : Place). length q.rest) c.skip_run.ensures, length_skip (run_len (class_test SPACE) c.advance.new.self) c.advance.new.self)

pub returns : goal.returns
returns c =
    let p = c.run.cursor in
    let other : is_white (first p) ≡ false = cc in
    let start = c.args.cursor.now in
    takes_found (separator c.args.least start) (fold (run is_white start)) p (after_run is_white start) (passes_all c.args.least c.run.broken p start other c.run.invariant)
